-- Whose access token an entry's request has, where no two are equal.
use Rattle.std.proofs.Common.{◌≡◌, ℕ, zero, suc, ◌+◌, Bool, true, false, cond, List, [], ◌∷◌, Option, Some, None, refl, sym, ap, ◌∙◌, arith}
use Rattle.std.specs.Prelude.{◌||◌, bytes_eq, option_map, position, slice_get}
use Rattle.std.specs.List.{list_any, position_from}
use Rattle.std.proofs.lemmas.Iterator.Adapters.{position_from-zero}
use Rattle.mds_request.specs.Configuration.{Configuration, Operator, actor_of, has_alike, has_token, ids, operator_at, repeats, tokens}
use Rattle.mds_request.specs.declared.config.Actor.{Actor}
use Rattle.mds_request.specs.declared.config.Actor.TheVariants.{Author, Operator as OperatorAt, Nobody}
use Rattle.journal_entry.specs.Requests.{token_of}
use Rattle.journal_compaction.proofs.Known.{same_bytes}

none_of : (a b : Bool) → (a || b) ≡ false → (a ≡ false) × (b ≡ false)
none_of true b e = absurd cc
none_of false b e = (refl, e)

the_same : {X : Type 0} (x y : X) → Some x ≡ Some y → x ≡ y
the_same x y e = cc

none_some : {X : Type 0} (x : X) → None ≡ Some x → ⊥
none_some x e = cc

-- a token that isn't among the operators' is none of theirs
not_among : (token : List ℕ) (operators : List Operator) (place : ℕ) (o : Operator) → list_any (bytes_eq token) (tokens operators) ≡ false
    → slice_get operators place ≡ Some o → bytes_eq token o.token ≡ false
not_among token [] place o none is = absurd (none_some o is)
not_among token (x ∷ xs) zero o none is =
    ap (λ (y : Operator). bytes_eq token y.token) (sym (the_same x o is)) ∙ (none_of (bytes_eq token x.token) (list_any (bytes_eq token) (tokens xs)) none).0
not_among token (x ∷ xs) (suc place) o none is = not_among token xs place o (none_of (bytes_eq token x.token) (list_any (bytes_eq token) (tokens xs)) none).1 is

-- the first operator with a token is the only one
placed_from : (operators : List Operator) (i place : ℕ) (o : Operator) → repeats (tokens operators) ≡ false
    → slice_get operators place ≡ Some o → position_from (has_token o.token) i operators ≡ Some (i + place)
placed_from [] i place o alone is = absurd (none_some o is)
placed_from (x ∷ xs) i zero o alone is =
    let here : has_token o.token x ≡ true = ap (λ (y : Operator). bytes_eq y.token o.token) (the_same x o is) ∙ same_bytes o.token in
    let at : i ≡ i + 0 = omega arith in
    rw here (ap (λ (n : ℕ). Some n) at)
placed_from (x ∷ xs) i (suc place) o alone is =
    let parts = none_of (list_any (bytes_eq x.token) (tokens xs)) (repeats (tokens xs)) alone in
    let other : has_token o.token x ≡ false = not_among x.token xs place o parts.0 is in
    let at : i + 1 + place ≡ i + suc place = omega arith in
    rw other (placed_from xs (i + 1) place o parts.1 is ∙ ap (λ (n : ℕ). Some n) at)

placed : (operators : List Operator) (place : ℕ) (o : Operator) → repeats (tokens operators) ≡ false
    → slice_get operators place ≡ Some o → position (has_token o.token) operators ≡ Some place
placed operators place o alone is =
    let at : 0 + place ≡ place = omega arith in
    position_from-zero (has_token o.token) operators ∙ placed_from operators 0 place o alone is ∙ ap (λ (n : ℕ). Some n) at

module _ (c : Configuration) where
  abbrev without_author : Bool → Option ℕ → Actor
  without_author is_author place = cond is_author Author (operator_at place)

  pub authors : actor_of c c.author ≡ Author
  authors = ap (λ b. without_author b (position (has_token c.author) c.operators)) (same_bytes c.author)

  operators : (place : ℕ) (o : Operator) → has_alike c ≡ false → slice_get c.operators place ≡ Some o → actor_of c o.token ≡ OperatorAt place
  operators place o unlike is =
      let apart = none_of (list_any (bytes_eq c.author) (tokens c.operators)) (repeats (tokens c.operators))
      (none_of (repeats (ids c.operators)) (repeats (c.author ∷ tokens c.operators)) unlike).1 in
      ap (λ b. without_author b (position (has_token o.token) c.operators)) (not_among c.author c.operators place o apart.0 is)
      ∙ ap operator_at (placed c.operators place o apart.1 is)

  at_place : (place : ℕ) (token : List ℕ) (found : Option Operator) → has_alike c ≡ false → slice_get c.operators place ≡ found
      → option_map (λ (o : Operator). o.token) found ≡ Some token → actor_of c token ≡ OperatorAt place
  at_place place token None unlike is has = absurd (none_some token has)
  at_place place token (Some o) unlike is has = ap (actor_of c) (sym (the_same o.token token has)) ∙ operators place o unlike is

  -- a client's token is that client's
  pub whose : (actor : Actor) (token : List ℕ) → has_alike c ≡ false → token_of c actor ≡ Some token → actor_of c token ≡ actor
  whose Author token unlike has = ap (actor_of c) (sym (the_same c.author token has)) ∙ authors
  whose (OperatorAt place) token unlike has = at_place place token (slice_get c.operators place) unlike refl has
  whose Nobody token unlike has = absurd (none_some token has)
