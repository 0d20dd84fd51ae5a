-- The client of an entry is the one whose request it is.
use Rattle.std.proofs.Common.{◌≡◌, ℕ, zero, suc, ◌+◌, Bool, true, false, List, [], ◌∷◌, Option, Some, None, refl, sym, ap, ◌∙◌, arith}
use Rattle.std.specs.Prelude.{◌||◌, bytes_eq, option_map, position, slice_get}
use Rattle.std.specs.List.{list_any, position_from}
use Rattle.std.proofs.lemmas.Iterator.Adapters.{position_from-zero}
use Rattle.std.proofs.lemmas.Slice.Eq.{bytes_eq-Decides}
use Rattle.mds_request.specs.Configuration.{Configuration, Operator, operator_at, actor_of, ids, repeats}
use Rattle.mds_request.specs.Request.{Request}
use Rattle.mds_request.specs.declared.config.Actor.{Actor}
use Rattle.mds_request.specs.declared.config.Actor.TheVariants.{Author, Operator as OperatorAt, Nobody}
use Rattle.journal_entry.specs.Entries.{Entry}
use Rattle.journal_entry.specs.Requests.{has_id, actor_by, client_at, asked_by, entry_by}
use Rattle.journal_entry.specs.declared.entry.EntryClient.TheVariants.{Author as TheAuthor, Operator as OperatorBy}

none_of : (a b : Bool) → (a || b) ≡ false → (a ≡ false) × (b ≡ false)
none_of true b e = absurd cc
none_of false b e = (refl, e)

the_same : {X : Type 0} (x y : X) → Some x ≡ Some y → x ≡ y
the_same x y e = cc

is_some : {X : Type 0} (x : X) → None ≡ Some x → ⊥
is_some x e = cc

not_among : (id : List ℕ) (operators : List Operator) (place : ℕ) (o : Operator) → list_any (bytes_eq id) (ids operators) ≡ false
    → slice_get operators place ≡ Some o → bytes_eq id o.id ≡ false
not_among id [] place o none is = absurd (is_some o is)
not_among id (x ∷ xs) zero o none is =
    ap (λ (y : Operator). bytes_eq id y.id) (sym (the_same x o is))
    ∙ (none_of (bytes_eq id x.id) (list_any (bytes_eq id) (ids xs)) none).0
not_among id (x ∷ xs) (suc place) o none is = not_among id xs place o (none_of (bytes_eq id x.id) (list_any (bytes_eq id) (ids xs)) none).1 is

placed_from : (operators : List Operator) (i place : ℕ) (o : Operator) → repeats (ids operators) ≡ false
    → slice_get operators place ≡ Some o → position_from (has_id o.id) i operators ≡ Some (i + place)
placed_from [] i place o alone is = absurd (is_some o is)
placed_from (x ∷ xs) i zero o alone is =
    let here : has_id o.id x ≡ true = ap (λ (y : Operator). bytes_eq y.id o.id) (the_same x o is) ∙ (bytes_eq-Decides o.id o.id).1 refl in
    let here-is : i ≡ i + 0 = omega arith in
    rw here (ap (λ (n : ℕ). Some n) here-is)
placed_from (x ∷ xs) i (suc place) o alone is =
    let parts = none_of (list_any (bytes_eq x.id) (ids xs)) (repeats (ids xs)) alone in
    let other : has_id o.id x ≡ false = not_among x.id xs place o parts.0 is in
    let later : i + 1 + place ≡ i + suc place = omega arith in
    rw other (placed_from xs (i + 1) place o parts.1 is ∙ ap (λ (n : ℕ). Some n) later)

-- an operator is found by its identifier
found : (operators : List Operator) (place : ℕ) (o : Operator) → repeats (ids operators) ≡ false
    → slice_get operators place ≡ Some o → position (has_id o.id) operators ≡ Some place
found operators place o alone is =
    let from_zero : 0 + place ≡ place = omega arith in
    position_from-zero (has_id o.id) operators ∙ placed_from operators 0 place o alone is ∙ ap (λ (n : ℕ). Some n) from_zero

by_operator : (c : Configuration) (r : Request) (e : Entry) (place : ℕ) (here : Option Operator) → repeats (ids c.operators) ≡ false
    → slice_get c.operators place ≡ here
    → option_map (asked_by r) (option_map (λ (o : Operator). OperatorBy o.id) here) ≡ Some e → actor_by c e.client ≡ OperatorAt place
by_operator c r e place None alone there is = absurd (is_some e is)
by_operator c r e place (Some o) alone there is =
    ap (λ (x : Entry). actor_by c x.client) (sym (the_same (asked_by r (OperatorBy o.id)) e is))
    ∙ ap operator_at (found c.operators place o alone there)

by_actor : (c : Configuration) (r : Request) (e : Entry) (actor : Actor) → repeats (ids c.operators) ≡ false
    → option_map (asked_by r) (client_at c actor) ≡ Some e → actor_by c e.client ≡ actor
by_actor c r e Author alone is = ap (λ (x : Entry). actor_by c x.client) (sym (the_same (asked_by r TheAuthor) e is))
by_actor c r e (OperatorAt place) alone is = by_operator c r e place (slice_get c.operators place) alone refl is
by_actor c r e Nobody alone is = absurd (is_some e is)

pub who_is : (c : Configuration) (r : Request) (e : Entry) → repeats (ids c.operators) ≡ false → entry_by c r ≡ Some e
    → actor_by c e.client ≡ actor_of c r.token
who_is c r e alone is = by_actor c r e (actor_of c r.token) alone is

-- nobody's request has an entry
pub not_nobody : (c : Configuration) (r : Request) (e : Entry) → actor_of c r.token ≡ Nobody → entry_by c r ≡ Some e → ⊥
not_nobody c r e whose is = is_some e (ap (λ (a : Actor). option_map (asked_by r) (client_at c a)) (sym whose) ∙ is)
