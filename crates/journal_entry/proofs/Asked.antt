-- An entry's client has the access token that the request had.
use Rattle.std.proofs.Common.{◌≡◌, ℕ, zero, suc, ◌+◌, ◌<◌, Bool, true, false, cond, List, [], ◌∷◌, length, map, get_or, Option, Some, None, refl, sym, ap, ◌∙◌, arith}
use Rattle.std.specs.Prelude.{◌||◌, bytes_eq, option_map, position, slice_get}
use Rattle.std.specs.List.{list_any, position_from}
use Rattle.std.proofs.lemmas.Iterator.Adapters.{position_from-zero}
use Rattle.std.proofs.lemmas.List.Quantifiers.{position-Some}
use Rattle.std.proofs.lemmas.Slice.Eq.{bytes_eq-Decides}
use Rattle.mds_request.specs.Configuration.{Configuration, Operator, operator_at, actor_of, ids, repeats, has_token}
use Rattle.mds_request.specs.Request.{Request}
use Rattle.mds_request.specs.declared.config.Actor.{Actor}
use Rattle.mds_request.specs.declared.config.Actor.TheVariants.{Author, Operator as OperatorAt, Nobody}
use Rattle.journal_entry.specs.Entries.{Entry}
use Rattle.journal_entry.specs.Requests.{has_id, actor_by, token_of, with_token, request_by, client_at, asked_by, entry_by, ReadsTheRequest}
use Rattle.journal_entry.specs.declared.entry.EntryClient.{EntryClient}
use Rattle.journal_entry.specs.declared.entry.EntryClient.TheVariants.{Author as TheAuthor, Operator as OperatorBy}

none_of : (a b : Bool) → (a || b) ≡ false → (a ≡ false) × (b ≡ false)
none_of true b e = absurd cc
none_of false b e = (refl, e)

the_same : {X : Type 0} (x y : X) → Some x ≡ Some y → x ≡ y
the_same x y e = cc

is_some : {X : Type 0} (x : X) → None ≡ Some x → ⊥
is_some x e = cc

-- an identifier that isn't among the later operators' is none of theirs
not_among : (id : List ℕ) (operators : List Operator) (place : ℕ) (o : Operator) → list_any (bytes_eq id) (ids operators) ≡ false
    → slice_get operators place ≡ Some o → bytes_eq id o.id ≡ false
not_among id [] place o none is = absurd (is_some o is)
not_among id (x ∷ xs) zero o none is = ap (λ (y : Operator). bytes_eq id y.id) (sym (the_same x o is)) ∙ (none_of (bytes_eq id x.id) (list_any (bytes_eq id) (ids xs)) none).0
not_among id (x ∷ xs) (suc place) o none is = not_among id xs place o (none_of (bytes_eq id x.id) (list_any (bytes_eq id) (ids xs)) none).1 is

itself : (id : List ℕ) → bytes_eq id id ≡ true
itself id = (bytes_eq-Decides id id).1 refl

placed_from : (operators : List Operator) (i place : ℕ) (o : Operator) → repeats (ids operators) ≡ false
    → slice_get operators place ≡ Some o → position_from (has_id o.id) i operators ≡ Some (i + place)
placed_from [] i place o alone is = absurd (is_some o is)
placed_from (x ∷ xs) i zero o alone is =
    let here : has_id o.id x ≡ true = ap (λ (y : Operator). bytes_eq y.id o.id) (the_same x o is) ∙ itself o.id in
    let here-is : i ≡ i + 0 = omega arith in
    rw here (ap (λ (n : ℕ). Some n) here-is)
placed_from (x ∷ xs) i (suc place) o alone is =
    let parts = none_of (list_any (bytes_eq x.id) (ids xs)) (repeats (ids xs)) alone in
    let other : has_id o.id x ≡ false = not_among x.id xs place o parts.0 is in
    let later : i + 1 + place ≡ i + suc place = omega arith in
    rw other (placed_from xs (i + 1) place o parts.1 is ∙ ap (λ (n : ℕ). Some n) later)

placed : (operators : List Operator) (place : ℕ) (o : Operator) → repeats (ids operators) ≡ false
    → slice_get operators place ≡ Some o → position (has_id o.id) operators ≡ Some place
placed operators place o alone is =
    let from_zero : 0 + place ≡ place = omega arith in
    position_from-zero (has_id o.id) operators ∙ placed_from operators 0 place o alone is ∙ ap (λ (n : ℕ). Some n) from_zero

get_is : (operators : List Operator) (place : ℕ) (o : Operator) → slice_get operators place ≡ Some o → get_or operators place o ≡ o
get_is [] place o is = absurd (is_some o is)
get_is (x ∷ xs) zero o is = the_same x o is
get_is (x ∷ xs) (suc place) o is = get_is xs place o is

has_its_token : (operators : List Operator) (token : List ℕ) (place : ℕ) (o : Operator) → position (has_token token) operators ≡ Some place
    → slice_get operators place ≡ Some o → o.token ≡ token
has_its_token operators token place o found is =
    let there = (position-Some (has_token token) operators place o found).1 in
    (bytes_eq-Decides o.token token).0 (ap (λ (y : Operator). bytes_eq y.token token) (sym (get_is operators place o is)) ∙ there)

at_place : (c : Configuration) (token : List ℕ) (place : ℕ) (client : EntryClient) (here : Option Operator) → repeats (ids c.operators) ≡ false
    → position (has_token token) c.operators ≡ Some place → slice_get c.operators place ≡ here
    → option_map (λ (o : Operator). OperatorBy o.id) here ≡ Some client → token_of c (actor_by c client) ≡ Some token
at_place c token place client None alone found is e = absurd (is_some client e)
at_place c token place client (Some o) alone found is e =
    let who : OperatorBy o.id ≡ client = the_same (OperatorBy o.id) client e in
    let back : actor_by c (OperatorBy o.id) ≡ OperatorAt place = ap operator_at (placed c.operators place o alone is) in
    ap (λ (a : EntryClient). token_of c (actor_by c a)) (sym who) ∙ ap (token_of c) back ∙ ap (option_map (λ (x : Operator). x.token)) is
    ∙ ap (λ (t : List ℕ). Some t) (has_its_token c.operators token place o found is)

by_operator : (c : Configuration) (token : List ℕ) (client : EntryClient) (place : Option ℕ) → repeats (ids c.operators) ≡ false
    → position (has_token token) c.operators ≡ place → client_at c (operator_at place) ≡ Some client → token_of c (actor_by c client) ≡ Some token
by_operator c token client None alone found e = absurd (is_some client e)
by_operator c token client (Some place) alone found e = at_place c token place client (slice_get c.operators place) alone found refl e

by_token : (c : Configuration) (token : List ℕ) (client : EntryClient) (is_author : Bool) → repeats (ids c.operators) ≡ false
    → bytes_eq c.author token ≡ is_author
    → client_at c (cond is_author Author (operator_at (position (has_token token) c.operators))) ≡ Some client
    → token_of c (actor_by c client) ≡ Some token
by_token c token client true alone is e =
    let who : TheAuthor ≡ client = the_same TheAuthor client e in
    ap (λ (a : EntryClient). token_of c (actor_by c a)) (sym who) ∙ ap (λ (t : List ℕ). Some t) ((bytes_eq-Decides c.author token).0 is)
by_token c token client false alone is e = by_operator c token client (position (has_token token) c.operators) alone refl e

of_client : (c : Configuration) (r : Request) (e : Entry) (client : Option EntryClient) → repeats (ids c.operators) ≡ false
    → client_at c (actor_of c r.token) ≡ client → option_map (asked_by r) client ≡ Some e → request_by c e ≡ Some r
of_client c r e None alone is by = absurd (is_some e by)
of_client c r e (Some client) alone is by =
    let who : asked_by r client ≡ e = the_same (asked_by r client) e by in
    ap (request_by c) (sym who) ∙ ap (option_map (with_token (asked_by r client))) (by_token c r.token client (bytes_eq c.author r.token) alone refl is)

pub reads_the_request : ReadsTheRequest
reads_the_request c r e alone by = of_client c r e (client_at c (actor_of c r.token)) alone refl by
