-- The value of a book: an operator's rows, the most that there may be, and the bitmap index.
use Rattle.std.specs.Prelude.{◌≡◌, ℕ, ℤ, ◌≤◌, List, map, IfSome, refl}
use Rattle.std.specs.Coded.{Coded, code_by, coded×, coded_ℕ, coded_ℤ, coded_list}
use Rattle.std.specs.declared.boxed.Box.{Box}
use Rattle.std.specs.BTreeMap.{BTreeMap, get, btree_map_len, IsOrdered}
use Rattle.std.specs.FinMap as finite
use Rattle.std.specs.FinMap.{from_entries}
use Rattle.std.specs.declared.alloc.Global.{Global}
use Rattle.mds_geometry.specs.declared.position.Position.{Position}
use Rattle.mds_policy.specs.Policy.{Policy}
use Rattle.mds_match.specs.Row.{Row, row_of}
use Rattle.mds_match.specs.declared.vehicle.Vehicle.{Vehicle}
use Rattle.mds_bitmaps.specs.Index as kept
use Rattle.mds_bitmaps.specs.Index.{IsPublished, Published}
use Rattle.mds_bitmaps.specs.declared.bitmap_index.BitmapIndex.{BitmapIndex}
use Rattle.mds_fleet.specs.Books.{Rows, device_cmp}

-- an operator's rows, the most that there may be, and the bitmap index
pub record Fleet : Type 0 where
  pub rows : Rows
  pub limit : ℕ
  pub kept : BitmapIndex

-- vehicles by device id
abbrev pub Vehicles : Type 0
Vehicles = BTreeMap (List ℕ) (Box Vehicle Global)

-- vehicles by device id, as rows
abbrev pub rows_of : Vehicles → Rows
rows_of vehicles = from_entries (map (λ e. (e.0, row_of e.1.value)) vehicles.entries)

-- each vehicle under its own device id, in the order of the ids, and at most as many as the limit
pub record IsKept (limit : ℕ) (vehicles : Vehicles) : Type 0 where
  pub ordered : IsOrdered device_cmp vehicles
  pub own : (device : List ℕ) → IfSome (get device_cmp vehicles device) (λ v. v.value.device ≡ device)
  pub within : btree_map_len vehicles ≤ limit

-- the index is right for vehicles with these rows and for what is published
abbrev pub Fits : Published → Fleet → Type 0
Fits published fleet =
    (vehicles : Vehicles) → IsOrdered device_cmp vehicles → rows_of vehicles ≡ fleet.rows → kept.Fits published vehicles fleet.kept

-- the index is right for what is published, and the policy is published
abbrev pub MayAsk : Fleet → Policy → (List ℕ → List (List (List Position))) → Type 0
MayAsk fleet policy polygons = (published : Published) × Fits published fleet × IsPublished published policy polygons

-- rows and a fleet are stored as the tuples of their fields
abbrev pub coded_word : Coded (List ℕ)
coded_word = coded_list coded_ℕ

abbrev pub coded_words : Coded (List (List ℕ))
coded_words = coded_list coded_word

abbrev pub Fields : Type 0
Fields = (List ℕ × List ℕ) × ((List (List ℕ) × List (List ℕ)) × ((List ℕ × (ℕ × ℕ)) × (ℤ × ℤ)))

abbrev pub fields_of : Row → Fields
fields_of r = ((r.device, r.vehicle_type), ((r.propulsion, r.events), ((r.state, (r.timestamp, r.since)), (r.position.lng, r.position.lat))))

abbrev pub row_of_fields : Fields → Row
row_of_fields f =
    record {
      device = f.0.0;
      vehicle_type = f.0.1;
      propulsion = f.1.0.0;
      state = f.1.1.0.0;
      events = f.1.0.1;
      timestamp = f.1.1.0.1.0;
      position = record { lng = f.1.1.1.0; lat = f.1.1.1.1 };
      since = f.1.1.0.1.1;
    }

abbrev pub coded_row : Coded Row
coded_row =
    code_by Fields
    (coded× (coded× coded_word coded_word) (coded× (coded× coded_words coded_words) (coded× (coded× coded_word (coded× coded_ℕ coded_ℕ)) (coded× coded_ℤ coded_ℤ))))
    fields_of row_of_fields (λ _. refl)

abbrev pub coded_fleet : Coded BitmapIndex → Coded Fleet
coded_fleet kept =
    code_by ((Rows × ℕ) × BitmapIndex) (coded× (coded× (finite.code coded_word coded_row) coded_ℕ) kept) (λ a. ((a.rows, a.limit), a.kept))
    (λ p. record { rows = p.0.0; limit = p.0.1; kept = p.1 }) (λ _. refl)
