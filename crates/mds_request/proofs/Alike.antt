-- Duplicates among operators.
use Rattle.std.proofs.Common.{◌≡◌, ℕ, Bool, true, false, ◌||◌, bytes_eq, string_bytes, List, ◌∷◌, map, ap, ◌∙◌, sym}
use Rattle.std.specs.List.{list_any}
use Rattle.mds_request.specs.declared.config.Operator.{Operator as Named}
use Rattle.mds_request.specs.Configuration.{Operator, operator, repeats, ids, tokens}
use Rattle.mds_request.proofs.Lists.{list_any-map}

-- a search among the operators is a search among their values
among : (p : List ℕ → Bool) (key : Operator → List ℕ) (operators : List Named) → list_any p (map key (map operator operators)) ≡ list_any (λ o. p (key (operator o))) operators
among p key operators =
    list_any-map p key (map operator operators) ∙ list_any-map (λ o. p (key o)) operator operators

-- one step: the first is there again, or some later one is
turn : (key : Operator → List ℕ) (first : Named) (rest others : List Named) (found : Bool) → rest ≡ first ∷ others → found ≡ list_any (λ o. bytes_eq (key (operator first)) (key (operator o))) others → repeats (map key (map operator rest)) ≡ found || repeats (map key (map operator others))
turn key first rest others found e f =
    ap (λ r. repeats (map key (map operator r))) e
    ∙ ap (λ b. b || repeats (map key (map operator others))) (among (bytes_eq (key (operator first))) key others ∙ sym f)

pub ids_turn : (first : Named) (rest others : List Named) (found : Bool) → rest ≡ first ∷ others → found ≡ list_any (λ o. bytes_eq first.id (operator o).id) others → repeats (ids (map operator rest)) ≡ found || repeats (ids (map operator others))
ids_turn first rest others found e f = turn (λ o. o.id) first rest others found e f

pub tokens_turn : (first : Named) (rest others : List Named) (token : List ℕ) (found : Bool) → rest ≡ first ∷ others → token ≡ string_bytes first.token → found ≡ list_any (λ o. bytes_eq token (operator o).token) others → repeats (tokens (map operator rest)) ≡ found || repeats (tokens (map operator others))
tokens_turn first rest others token found e t f =
    turn (λ o. o.token) first rest others found e (f ∙ ap (λ s. list_any (λ o. bytes_eq s (operator o).token) others) t)

pub author_turn : (author : List ℕ) (operators : List Named) (token : List ℕ) (found : Bool) → token ≡ author → found ≡ list_any (λ o. bytes_eq token (operator o).token) operators → repeats (author ∷ tokens (map operator operators)) ≡ found || repeats (tokens (map operator operators))
author_turn author operators token found t f =
    ap (λ b. b || repeats (tokens (map operator operators)))
    (among (bytes_eq author) (λ o. o.token) operators ∙ sym (f ∙ ap (λ s. list_any (λ o. bytes_eq s (operator o).token) operators) t))

pub found_here : (before all found later : Bool) → before ≡ found || later → before ≡ all → found ≡ true → true ≡ all
found_here before all found later step known here = sym (sym known ∙ step ∙ ap (λ b. b || later) here)

pub found_later : (before all found later : Bool) → before ≡ found || later → before ≡ all → found ≡ false → later ≡ all
found_later before all found later step known here = sym (sym known ∙ step ∙ ap (λ b. b || later) here)
