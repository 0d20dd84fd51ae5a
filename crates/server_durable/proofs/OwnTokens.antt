-- A request for a view of an operator's fleet has the operator's access token.
use Rattle.std.proofs.Common.{◌≡◌, ℕ, zero, suc, ◌+◌, Bool, true, false, cond, List, [], ◌∷◌, Some, None, Result, Ok, Err, refl, sym, ap, ◌∙◌, arith}
use Rattle.std.specs.Prelude.{◌||◌, bytes_eq, position, slice_get}
use Rattle.std.specs.List.{list_any, position_from}
use Rattle.std.proofs.lemmas.Iterator.Adapters.{position_from-zero}
use Rattle.std.proofs.lemmas.Slice.Eq.{bytes_eq-Decides}
use Rattle.mds_text.specs.Fault.{Fault, ◌>>=◌, alike}
use Rattle.mds_text.specs.Fields.{document_of}
use Rattle.mds_text.specs.Reading.{read_text}
use Rattle.mds_text.specs.declared.field.Field.TheVariants.{Author as AuthorName}
use Rattle.mds_request.specs.Configuration.{Configuration, Operator, access_at, actor_of, configuration_of}
use Rattle.mds_request.specs.Configuration.{has_alike, has_token, ids, operator_at, operators_at, read_configuration, repeats, tokens, zone_at}
use Rattle.mds_request.specs.declared.config.Actor.TheVariants.{Author, Operator as OperatorAt}
use Rattle.server_durable.specs.Laws.{ViewsAreAskedByTheOperator}

apart : (a b : Bool) → (a || b) ≡ false → (a ≡ false) × (b ≡ false)
apart true b is = absurd cc
apart false b is = (refl, is)

same : {X : Type 0} (x y : X) → Some x ≡ Some y → x ≡ y
same x y is = cc

nothing : {X : Type 0} (x : X) → None ≡ Some x → ⊥
nothing x is = cc

-- a token that isn't among the operators' is none of theirs
not_among : (token : List ℕ) (operators : List Operator) (place : ℕ) (o : Operator) → list_any (bytes_eq token) (tokens operators) ≡ false
    → slice_get operators place ≡ Some o → bytes_eq token o.token ≡ false
not_among token [] place o none is = absurd (nothing o is)
not_among token (x ∷ xs) zero o none is =
    ap (λ (y : Operator). bytes_eq token y.token) (sym (same x o is)) ∙ (apart (bytes_eq token x.token) (list_any (bytes_eq token) (tokens xs)) none).0
not_among token (x ∷ xs) (suc place) o none is = not_among token xs place o (apart (bytes_eq token x.token) (list_any (bytes_eq token) (tokens xs)) none).1 is

placed_from : (operators : List Operator) (i place : ℕ) (o : Operator) → repeats (tokens operators) ≡ false → slice_get operators place ≡ Some o
    → position_from (has_token o.token) i operators ≡ Some (i + place)
placed_from [] i place o alone is = absurd (nothing o is)
placed_from (x ∷ xs) i zero o alone is =
    let here : has_token o.token x ≡ true = ap (λ (y : Operator). bytes_eq y.token o.token) (same x o is) ∙ (bytes_eq-Decides o.token o.token).1 refl in
    let here-is : i ≡ i + 0 = omega arith in
    rw here (ap (λ (n : ℕ). Some n) here-is)
placed_from (x ∷ xs) i (suc place) o alone is =
    let parts = apart (list_any (bytes_eq x.token) (tokens xs)) (repeats (tokens xs)) alone in
    let other : has_token o.token x ≡ false = not_among x.token xs place o parts.0 is in
    let later : i + 1 + place ≡ i + suc place = omega arith in
    rw other (placed_from xs (i + 1) place o parts.1 is ∙ ap (λ (n : ℕ). Some n) later)

placed : (operators : List Operator) (place : ℕ) (o : Operator) → repeats (tokens operators) ≡ false → slice_get operators place ≡ Some o
    → position (has_token o.token) operators ≡ Some place
placed operators place o alone is =
    let from_zero : 0 + place ≡ place = omega arith in
    position_from-zero (has_token o.token) operators ∙ placed_from operators 0 place o alone is ∙ ap (λ (n : ℕ). Some n) from_zero

asks : (c : Configuration) (place : ℕ) (o : Operator) → repeats (c.author ∷ tokens c.operators) ≡ false → slice_get c.operators place ≡ Some o
    → actor_of c o.token ≡ OperatorAt place
asks c place o alone is =
    let parts = apart (list_any (bytes_eq c.author) (tokens c.operators)) (repeats (tokens c.operators)) alone in
    let no_author : bytes_eq c.author o.token ≡ false = not_among c.author c.operators place o parts.0 is in
    ap (λ b. cond b Author (operator_at (position (has_token o.token) c.operators))) no_author ∙ ap operator_at (placed c.operators place o parts.1 is)

-- of two readings one after another that succeed, the second does
second_ok : {A B : Type 0} (r : Result A Fault) (f : A → Result B Fault) (b : B) → (r >>= f) ≡ Ok b → (a : A) × (f a ≡ Ok b)
second_ok (Ok a) f b is = (a, is)
second_ok (Err fault) f b is = absurd cc

same_ok : {A : Type 0} (a b : A) → ◌≡◌ {A = Result A Fault} (Ok a) (Ok b) → a ≡ b
same_ok a b is = cc

pub unlike_is : (made configuration : Configuration) (b : Bool) → cond b (Err alike) (Ok made) ≡ Ok configuration → (b ≡ false) × (made ≡ configuration)
unlike_is made configuration true is = absurd cc
unlike_is made configuration false is = (refl, same_ok made configuration is)

-- a configuration that was read has no identifier and no access token twice
pub unlike_in : (text : List ℕ) (c : Configuration) → read_configuration text ≡ Ok c → has_alike c ≡ false
unlike_in text c is =
    let tree = second_ok (read_text text) configuration_of c is in
    let document = second_ok (document_of tree.0) _ c tree.1 in
    let author = second_ok (access_at document.0 AuthorName) _ c document.1 in
    let operators = second_ok (operators_at document.0) _ c author.1 in
    let zone = second_ok (zone_at document.0) _ c operators.1 in
    let made : Configuration = record { author = author.0; operators = operators.0; zone = zone.0 } in
    let unlike = unlike_is made c (has_alike made) zone.1 in
    ap has_alike (sym unlike.1) ∙ unlike.0

-- so no identifier of an operator twice, and no access token
pub alone_in : (text : List ℕ) (c : Configuration) → read_configuration text ≡ Ok c
    → (repeats (ids c.operators) ≡ false) × (repeats (c.author ∷ tokens c.operators) ≡ false)
alone_in text c is = apart (repeats (ids c.operators)) (repeats (c.author ∷ tokens c.operators)) (unlike_in text c is)

pub asked_by_operator : ViewsAreAskedByTheOperator
asked_by_operator text c place operator view at is placed_is = asks c place operator (alone_in text c is).1 placed_is
