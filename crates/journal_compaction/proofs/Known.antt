-- What two passes know of each device.
use Rattle.std.proofs.Common.{◌≡◌, ℕ, ◌==◌, ◌&&◌, ◌||◌, Bool, true, false, not, cond, List, [], ◌∷◌, bytes_eq, Option, Some, None, refl, sym, ap, subst, ◌∙◌, arith}
use Rattle.std.specs.declared.cmp.Ordering.{Ordering}
use Rattle.std.specs.declared.cmp.Ordering.TheVariants.{Less, Equal, Greater}
use Rattle.std.specs.Ordering.{nat_cmp, ordering_then, is_eq}
use Rattle.std.specs.List.{list_all, list_any}
use Rattle.std.specs.Cmp.Lexicographic.{slice_cmp}
use Rattle.std.specs.BTreeMap.{BTreeMap, get, is_at}
use Rattle.std.proofs.lemmas.Bool.{false≢true}
use Rattle.std.proofs.lemmas.Bool.Decides.{nat_tests, Decides-eqb}
use Rattle.std.proofs.lemmas.Map.Text.{is_eq-slice_cmp}
use Rattle.std.proofs.lemmas.Slice.Eq.{bytes_eq-Decides}
use Rattle.journal_compaction.specs.declared.kind.Device.{Device}
use Rattle.journal_compaction.specs.declared.kind.EntryKind.{EntryKind}
use Rattle.journal_compaction.specs.declared.kind.EntryKind.TheVariants.{Report, Removal, Other}
use Rattle.journal_compaction.specs.declared.kind.LaterEntries.{LaterEntries}
use Rattle.journal_compaction.specs.declared.kind.LaterEntries.TheVariants.{Run, Settled}
use Rattle.journal_compaction.specs.Staying.{is_same, is_removal, states_of, state_before, begins, is_none, stays}
use Rattle.journal_compaction.specs.Passes.{device_cmp, begins_at, joined, ahead_of, stays_by, stays_at}

then_equal : (o r : Ordering) → is_eq (ordering_then o r) ≡ (is_eq o && is_eq r)
then_equal Less r = refl
then_equal Equal r = refl
then_equal Greater r = refl

equal_numbers : (x y : ℕ) → is_eq (nat_cmp x y) ≡ (x == y)
equal_numbers x y = grind (arith, nat_tests)

pub same_device : (k q : Device) → is_eq (device_cmp k q) ≡ is_same k q
same_device k q =
    then_equal (nat_cmp k.operator q.operator) (slice_cmp nat_cmp k.id q.id) ∙ ap (λ b. b && is_eq (slice_cmp nat_cmp k.id q.id)) (equal_numbers k.operator q.operator)
    ∙ ap (λ b. (k.operator == q.operator) && b) (is_eq-slice_cmp k.id q.id)

-- what a map has of each device once one of them is set
pub updated : {X : Type 0} (f : Device → Option X) (old new : BTreeMap Device X) (device : Device) (held : Option X)
    → ((q : Device) → get device_cmp new q ≡ cond (is_at (device_cmp device) q) held (get device_cmp old q))
    → ((q : Device) → get device_cmp old q ≡ f q)
    → (q : Device) → get device_cmp new q ≡ cond (is_same device q) held (f q)
updated f old new device held updates h q =
    updates q ∙ ap (λ b. cond b held (get device_cmp old q)) (same_device device q) ∙ ap (cond (is_same device q) held) (h q)

and_false : (x : Bool) → (x && false) ≡ false
and_false true = refl
and_false false = refl

and_true : (x : Bool) → (x && true) ≡ x
and_true true = refl
and_true false = refl

pub equal_bytes : (xs ys : List ℕ) → bytes_eq xs ys ≡ true → xs ≡ ys
equal_bytes xs ys is = (bytes_eq-Decides xs ys).0 is

pub same_bytes : (xs : List ℕ) → bytes_eq xs xs ≡ true
same_bytes xs = (bytes_eq-Decides xs xs).1 refl

and_left : (a b : Bool) → (a && b) ≡ true → a ≡ true
and_left true b h = refl
and_left false b h = h

and_right : (a b : Bool) → (a && b) ≡ true → b ≡ true
and_right true b h = h
and_right false b h = cc

-- equality of bytes is symmetric
pub turned : (xs ys : List ℕ) (b c : Bool) → bytes_eq xs ys ≡ b → bytes_eq ys xs ≡ c → b ≡ c
turned xs ys true c is other = sym (same_bytes xs) ∙ subst (λ zs. bytes_eq xs xs ≡ bytes_eq zs xs) (equal_bytes xs ys is) refl ∙ other
turned xs ys false true is other = sym is ∙ subst (λ zs. bytes_eq zs ys ≡ bytes_eq ys ys) (equal_bytes ys xs other) refl ∙ same_bytes ys
turned xs ys false false is other = refl

pub apart : (xs ys : List ℕ) → bytes_eq xs ys ≡ false → bytes_eq ys xs ≡ false
apart xs ys is = sym (turned xs ys false (bytes_eq ys xs) is refl)

all_of_none : (p : List ℕ → Bool) (states : List (List ℕ)) → is_none states ≡ true → list_all p states ≡ true
all_of_none p [] h = refl
all_of_none p (state ∷ states) h = cc

-- whether a report stays, if the next report of its device has the same state
at_same : (any none all b : Bool) (t : List ℕ) (ahead : Option LaterEntries) → bytes_eq t t ≡ true → (none ≡ true → all ≡ true)
    → ((c : Bool) → (not any && (none || (all && c))) ≡ stays_by t c ahead)
    → (not any && (all && b)) ≡ stays_by t b (Some (joined t ahead))
at_same true none all b t None s h e = absurd (false≢true (e true))
at_same true none all b t (Some (Run u)) s h e = by (bytes_eq u t) (e true)
  where
    by : (same : Bool) → false ≡ (same && true) → false ≡ stays_by t b (Some (cond same (Run t) Settled))
    by true is = absurd (false≢true is)
    by false is = refl
at_same true none all b t (Some Settled) s h e = refl
at_same false true all b t None s h e = ap (λ x. x && b) (h refl ∙ sym s)
at_same false true all b t (Some (Run u)) s h e = absurd (false≢true (sym (e false ∙ and_false (bytes_eq u t))))
at_same false true all b t (Some Settled) s h e = absurd (false≢true (sym (e false)))
at_same false false all b t None s h e = absurd (false≢true (sym (and_false all) ∙ e false))
at_same false false all b t (Some (Run u)) s h e = by (bytes_eq u t) (sym (and_true all) ∙ e true ∙ and_true (bytes_eq u t))
  where
    by : (same : Bool) → all ≡ same → (all && b) ≡ stays_by t b (Some (cond same (Run t) Settled))
    by true is = ap (λ x. x && b) (is ∙ sym s)
    by false is = ap (λ x. x && b) is
at_same false false all b t (Some Settled) s h e = ap (λ x. x && b) (sym (and_true all) ∙ e true)

-- a report doesn't stay if the next report of its device has another state
at_other : (b : Bool) (state t : List ℕ) (ahead : Option LaterEntries) → bytes_eq t state ≡ false → stays_by state b (Some (joined t ahead)) ≡ false
at_other b state t None apart = ap (λ x. x && b) apart
at_other b state t (Some (Run u)) apart = by (bytes_eq u t)
  where
    by : (same : Bool) → stays_by state b (Some (cond same (Run t) Settled)) ≡ false
    by true = ap (λ x. x && b) apart
    by false = refl
at_other b state t (Some Settled) apart = refl

-- whether a report stays, by whether it begins a run
abbrev may_stay : Device → List ℕ → Bool → List EntryKind → Bool
may_stay device state b behind =
    not (list_any (is_removal device) behind) && (is_none (states_of device behind) || (list_all (bytes_eq state) (states_of device behind) && b))

-- one more removal comes after it
at_removal : (same any rest : Bool) (ahead : Option LaterEntries) (state : List ℕ) (b : Bool) → (not any && rest) ≡ stays_by state b ahead
    → (not (same || any) && rest) ≡ stays_by state b (cond same (Some Settled) ahead)
at_removal true any rest ahead state b h = refl
at_removal false any rest ahead state b h = h

-- one more report of its device comes after it
at_report : (state told : List ℕ) (b : Bool) (any none all : Bool) (ahead : Option LaterEntries) → (none ≡ true → all ≡ true)
    → ((c : Bool) → (not any && (none || (all && c))) ≡ stays_by state c ahead)
    → (same : Bool) → bytes_eq state told ≡ same
    → (not any && ((same && all) && b)) ≡ stays_by state b (Some (joined told ahead))
at_report state told b any none all ahead h e true is =
    at_same any none all b state ahead (same_bytes state) h e
    ∙ ap (λ t. stays_by state b (Some (joined t ahead))) (equal_bytes state told is)
at_report state told b any none all ahead h e false is = and_false (not any) ∙ sym (at_other b state told ahead (apart state told is))

-- what comes after a report says whether it stays
pub stays_by_ahead : (device : Device) (state : List ℕ) (b : Bool) (behind : List EntryKind)
    → may_stay device state b behind ≡ stays_by state b (ahead_of device behind)
stays_by_ahead device state b [] = refl
stays_by_ahead device state b (Other ∷ behind) = stays_by_ahead device state b behind
stays_by_ahead device state b (Removal other ∷ behind) =
    at_removal (is_same other device) (list_any (is_removal device) behind)
    (is_none (states_of device behind) || (list_all (bytes_eq state) (states_of device behind) && b)) (ahead_of device behind) state b
    (stays_by_ahead device state b behind)
stays_by_ahead device state b (Report other told ∷ behind) = by (is_same other device) (λ x. stays_by_ahead device state x behind)
  where
    by : (same : Bool) → ((x : Bool) → may_stay device state x behind ≡ stays_by state x (ahead_of device behind))
        → (not (list_any (is_removal device) behind)
        && (is_none (cond same (told ∷ states_of device behind) (states_of device behind))
        || (list_all (bytes_eq state) (cond same (told ∷ states_of device behind) (states_of device behind)) && b)))
        ≡ stays_by state b (cond same (Some (joined told (ahead_of device behind))) (ahead_of device behind))
    by true e =
        at_report state told b (list_any (is_removal device) behind) (is_none (states_of device behind))
        (list_all (bytes_eq state) (states_of device behind)) (ahead_of device behind) (all_of_none (bytes_eq state) (states_of device behind)) e
        (bytes_eq state told) refl
    by false e = e b

pub stays_as_known : (before : List EntryKind) (kind : EntryKind) (behind : List EntryKind) → stays_at kind (begins_at before kind) behind ≡ stays before kind behind
stays_as_known before Other behind = refl
stays_as_known before (Removal device) behind = refl
stays_as_known before (Report device state) behind = sym (stays_by_ahead device state (begins state (state_before device before)) behind)

pub same_is : (d q : Device) → is_same d q ≡ true → d ≡ q
same_is d q h = λ i. record { operator = numbers i; id = equal_bytes d.id q.id (and_right (d.operator == q.operator) (bytes_eq d.id q.id) h) i }
  where
    numbers : d.operator ≡ q.operator
    numbers = (Decides-eqb d.operator q.operator).0 (and_left (d.operator == q.operator) (bytes_eq d.id q.id) h)

-- what a map has of each device once a report is added
pub joins : (d : Device) (state : List ℕ) (behind : List EntryKind) (q : Device)
    → cond (is_same d q) (Some (joined state (ahead_of d behind))) (ahead_of q behind) ≡ ahead_of q (Report d state ∷ behind)
joins d state behind q = by (is_same d q) refl
  where
    by : (b : Bool) → is_same d q ≡ b → cond b (Some (joined state (ahead_of d behind))) (ahead_of q behind) ≡ cond b (Some (joined state (ahead_of q behind))) (ahead_of q behind)
    by true is = ap (λ k. Some (joined state (ahead_of k behind))) (same_is d q is)
    by false is = refl
