-- Members that are added one behind the other.
use Rattle.std.proofs.Common.{◌≡◌, List, [], ◌∷◌, ◌++◌, Result, Ok, Err, OnOk, ap, ◌∙◌, append_assoc}

pub one_before : {V E A : Type 0} (result : Result V E) (old middle new : List A) (one first : A) (others : List A) → middle ≡ old ++ one ∷ [] → one ≡ first
    → OnOk result (new ≡ middle ++ others) → OnOk result (new ≡ old ++ first ∷ others)
one_before {A = A} (Ok v) old middle new one first others begun is more =
    more ∙ ap (λ (list : List A). list ++ others) (begun ∙ ap (λ (a : A). old ++ a ∷ []) is) ∙ append_assoc old (first ∷ []) others
one_before (Err e) old middle new one first others begun is more = tt
