-- Entries in groups.
use Rattle.std.proofs.Common.{◌≡◌, ℕ, ◌+◌, ◌-◌, ◌≤◌, List, ◌++◌, length, map, take, drop, sym, ap, ◌∙◌, append_assoc, arith}
use Rattle.std.proofs.Math.Seq.{take-append-add}
use Rattle.std.proofs.lemmas.List.{take-append-drop, length-take, map-append}

take_between : {A : Type 0} (xs : List A) (i j : ℕ) → i ≤ j → i ≤ length xs → take i xs ++ take (j - i) (drop i xs) ≡ take j xs
take_between xs i j order within =
    let long : length (take i xs) + (j - i) ≡ j = omega (arith, length-take i xs, order, within) in
    sym (take-append-add (take i xs) (drop i xs) (j - i)) ∙ ap (take (length (take i xs) + (j - i))) (take-append-drop i xs) ∙ ap (λ n. take n xs) long

-- one group more
pub group_more : {E T : Type 0} (text : E → T) (list : List T) (entries : List E) (i j : ℕ) → i ≤ j → i ≤ length entries
    → (list ++ map text (take i entries)) ++ map text (take (j - i) (drop i entries)) ≡ list ++ map text (take j entries)
group_more text list entries i j order within =
    append_assoc list (map text (take i entries)) (map text (take (j - i) (drop i entries)))
    ∙ ap (λ rest. list ++ rest) (sym (map-append text (take i entries) (take (j - i) (drop i entries))) ∙ ap (map text) (take_between entries i j order within))
