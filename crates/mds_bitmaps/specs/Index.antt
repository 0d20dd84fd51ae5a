-- The bitmap index of an operator's vehicles, and how it is related to the vehicles and to what is published.
use Rattle.std.specs.Prelude.{◌≡◌, ◌<◌, ◌≤◌, ◌*◌, ◌⊎◌, ℕ, suc, List, [], Bool, IsTrue, true, Option, None, Some, IfSome, bytes_eq, All, Contains, if◌then◌else◌, length, get_or, nat_lt, drop, map}
use Rattle.std.specs.declared.alloc.Global.{Global}
use Rattle.std.specs.declared.boxed.Box.{Box}
use Rattle.std.specs.declared.cmp.Ordering.{Ordering}
use Rattle.std.specs.BTreeMap.{BTreeMap, get, is_at, keys, values}
use Rattle.std.specs.BTreeSet.{insert_key}
use Rattle.std.specs.Cmp.Lexicographic.{slice_cmp}
use Rattle.std.specs.List.{insert, list_any, remove}
use Rattle.std.specs.Ordering.{nat_cmp}
use Rattle.std.specs.Set.{remove_key}
use Rattle.mds_geometry.specs.declared.position.Position.{Position}
use Rattle.mds_policy.specs.Policy.{Policy}
use Rattle.mds_match.specs.declared.vehicle.Vehicle.{Vehicle}
use Rattle.mds_match.specs.Row.{Row, row_of}
use Rattle.mds_bitmaps.specs.Masked.{IsMasked}
use Rattle.mds_bitmaps.specs.Masks.{HasBits, IsMask, matches}
use Rattle.mds_bitmaps.specs.declared.matcher.PolicyMatcher.{PolicyMatcher}
use Rattle.mds_bitmaps.specs.declared.bitmap_index.BitmapColumn.{BitmapColumn}
use Rattle.mds_bitmaps.specs.declared.bitmap_index.BitmapIndex.{BitmapIndex}
use Rattle.mds_bitmaps.specs.declared.bitmap_index.IndexedFleet.{IndexedFleet}

-- device ids in the order of their bytes
abbrev pub device_cmp : List ℕ → List ℕ → Ordering
device_cmp = slice_cmp nat_cmp

-- an operator's vehicles, by device id
abbrev pub Vehicles : Type 0
Vehicles = BTreeMap (List ℕ) (Box Vehicle Global)

-- their rows, in the order of the device ids
abbrev pub rows_in : Vehicles → List Row
rows_in vehicles = map (λ v. row_of v.value) (values vehicles)

-- each vehicle is stored under its own device id
abbrev pub AreOwn : Vehicles → Type 0
AreOwn vehicles = (device : List ℕ) → IfSome (get device_cmp vehicles device) (λ v. v.value.device ≡ device)

-- The identifiers of the policies of which everything that decides a match is published for good; and for each rule of
-- such a policy whether a row matches it.
pub record Published : Type 0 where
  pub lasting : List ℕ → Bool
  pub bits : List ℕ → Row → List Bool

-- a word is the beginning of the run of a row's state
abbrev pub IsSince : Row → ℕ → Type 0
IsSince row word = word ≡ row.since

-- a word is the bitmap of the rules of a published policy that a row matches
abbrev pub IsMaskOf : Published → List ℕ → Row → ℕ → Type 0
IsMaskOf published id row word = HasBits (published.bits id row) word

-- a word is the bitmap of the rules that a row matches, for any policy with these rules
abbrev pub IsMaskBy : PolicyMatcher → Row → ℕ → Type 0
IsMaskBy masked row word =
    (policy : Policy) (polygons : List ℕ → List (List (List Position))) → IsMasked masked policy polygons → IsMask policy polygons row word

-- each word is that of its row, for all rows
pub record AreRead (Is : Row → ℕ → Type 0) (rows : List Row) (words : List ℕ) : Type 0 where
  pub long : length words ≡ length rows
  pub each : (k : ℕ) (row : Row) → k < length rows → Is (get_or rows k row) (get_or words k 0)

-- each cached word is that of its device's row, unless the device is one of the changed ones
abbrev pub AreKept : (Row → ℕ → Type 0) → Vehicles → List (List ℕ) → List ℕ → List (List ℕ) → Type 0
AreKept Is vehicles devices words changed =
    (k : ℕ) (v : Box Vehicle Global) → k < length words → get device_cmp vehicles (get_or devices k []) ≡ Some v
    → (Contains changed (get_or devices k []) → ⊥) → Is (row_of v.value) (get_or words k 0)

-- a column is that of a policy that is published for good, and its bitmaps are right but for the changes that it hasn't
-- taken in
pub record IsColumn (published : Published) (vehicles : Vehicles) (devices changed : List (List ℕ)) (column : BitmapColumn) : Type 0 where
  pub lasts : published.lasting column.policy ≡ true
  pub seen : column.seen ≤ length changed
  pub masks : AreKept (IsMaskOf published column.policy) vehicles devices column.masks.items (drop column.seen changed)

-- the devices are those of the vehicles, and all cached words are right but for the changes that they haven't taken in
pub record IsListed (published : Published) (vehicles : Vehicles) (listed : IndexedFleet) : Type 0 where
  pub devices : listed.devices.items ≡ keys vehicles
  pub seen : listed.seen ≤ length listed.changed.items
  pub sinces : AreKept IsSince vehicles listed.devices.items listed.sinces.items (drop listed.seen listed.changed.items)
  pub columns : All (IsColumn published vehicles listed.devices.items listed.changed.items) listed.columns.items

-- the same of the devices and of the beginnings of their states alone
abbrev pub AreRows : Vehicles → IndexedFleet → Type 0
AreRows vehicles listed =
    (listed.devices.items ≡ keys vehicles) × (listed.seen ≤ length listed.changed.items)
    × AreKept IsSince vehicles listed.devices.items listed.sinces.items (drop listed.seen listed.changed.items)

-- the index, where there is one, is right for these vehicles and for what is published
abbrev pub Fits : Published → Vehicles → BitmapIndex → Type 0
Fits published vehicles kept = IfSome kept.listed (IsListed published vehicles)

-- a column of this policy is cached
abbrev pub has_column : List BitmapColumn → List ℕ → Bool
has_column columns policy = list_any (λ column. bytes_eq column.policy policy) columns

-- the most bitmaps of an index: a bitmap for each vehicle and each column
abbrev pub most_bitmaps : ℕ
most_bitmaps = 4194304

-- a column of this policy for so many vehicles has room in the index: it is cached already, or there is room for one more
abbrev pub HasRoom : Option IndexedFleet → List ℕ → ℕ → Type 0
HasRoom kept policy vehicles =
    IfSome kept (λ listed. IsTrue (has_column listed.columns.items policy) ⊎ (suc (length listed.columns.items) * vehicles ≤ most_bitmaps))

-- everything that decides a match of a policy is published for good, and these are its rules
abbrev pub IsPublished : Published → Policy → (List ℕ → List (List (List Position))) → Type 0
IsPublished published policy polygons =
    (published.lasting policy.id ≡ true) × ((row : Row) → published.bits policy.id row ≡ map (matches polygons row) policy.rules)

-- the vehicle of one device changed, and no device came or went
abbrev pub IsChanged : List ℕ → Vehicles → Vehicles → Type 0
IsChanged device before after =
    (keys after ≡ keys before)
    × ((other : List ℕ) → (other ≡ device → ⊥) → get device_cmp after other ≡ get device_cmp before other)

-- a device came, and the vehicles of the others are unchanged
abbrev pub HasArrived : List ℕ → Vehicles → Vehicles → Type 0
HasArrived device before after =
    (keys after ≡ insert_key device_cmp (keys before) device)
    × ((other : List ℕ) → (other ≡ device → ⊥) → get device_cmp after other ≡ get device_cmp before other)

-- a device went, and the vehicles of the others are unchanged
abbrev pub HasDeparted : List ℕ → Vehicles → Vehicles → Type 0
HasDeparted device before after =
    (keys after ≡ remove_key (is_at (device_cmp device)) (keys before)) × (get device_cmp after device ≡ None)
    × ((other : List ℕ) → (other ≡ device → ⊥) → get device_cmp after other ≡ get device_cmp before other)

-- words with a 0 inserted at an index, where they reach so far
abbrev pub with_place : ℕ → List ℕ → List ℕ
with_place place words = if nat_lt (length words) place then words else insert words place 0

-- words without the one at an index, where they reach so far
abbrev pub without_place : ℕ → List ℕ → List ℕ
without_place place words = remove words place

-- the columns are unchanged but for `edit`, which was done to the bitmaps of each
pub record AreEdited (edit : List ℕ → List ℕ) (before after : List BitmapColumn) : Type 0 where
  pub long : length after ≡ length before
  pub policies : (k : ℕ) (d : BitmapColumn) → k < length before → (get_or after k d).policy ≡ (get_or before k d).policy
  pub seen : (k : ℕ) (d : BitmapColumn) → k < length before → (get_or after k d).seen ≡ (get_or before k d).seen
  pub masks : (k : ℕ) (d : BitmapColumn) → k < length before → (get_or after k d).masks.items ≡ edit (get_or before k d).masks.items

-- the index is right for something that is published, and the policy is part of that
abbrev pub MayAsk : BitmapIndex → Policy → (List ℕ → List (List (List Position))) → Vehicles → Type 0
MayAsk kept policy polygons vehicles = (published : Published) × Fits published vehicles kept × IsPublished published policy polygons

-- more is published: what is published for good stays so, and matches the same rows
abbrev pub Grows : Published → Published → Type 0
Grows published more =
    (id : List ℕ) → published.lasting id ≡ true → (more.lasting id ≡ true) × ((row : Row) → more.bits id row ≡ published.bits id row)
