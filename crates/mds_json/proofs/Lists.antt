-- Reading the entries of a list one after another.
use Rattle.std.proofs.Common.{◌≡◌, ℕ, ◌+◌, ◌<◌, List, [], ◌∷◌, ◌++◌, length, map, drop, get_or, Result, Ok, sym, ap, ◌∙◌}
use Rattle.std.proofs.lemmas.List.{drop_more}
use Rattle.mds_text.specs.Fault.{Fault}
use Rattle.mds_text.specs.Fields.{each}
use Rattle.mds_text.specs.Tree.{Json}
use Rattle.mds_text.proofs.Lists.{with_front, with_front-push}

-- one iteration of a loop that reads the entries of a list
pub read_turn : {X A : Type 0} (see : X → Json) (read : Json → Result A Fault) (xs : List X) (i : ℕ) (x : X) (done more : List A) (a : A) → i < length xs → x ≡ get_or xs i x → read (see x) ≡ Ok a → more ≡ done ++ a ∷ []
    → with_front more (each read (map see (drop (i + 1) xs))) ≡ with_front done (each read (map see (drop i xs)))
read_turn see read xs i x done more a within here is grown =
    ap (λ found. with_front found (each read (map see (drop (i + 1) xs)))) grown
    ∙ with_front-push read done (see x) (map see (drop (i + 1) xs)) a is
    ∙ sym (ap (λ ts. with_front done (each read (map see ts))) (drop_more xs i x within ∙ ap (λ y. y ∷ drop (i + 1) xs) (sym here)))
