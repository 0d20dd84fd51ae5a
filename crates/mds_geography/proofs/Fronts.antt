-- Reading a list entry by entry, with what was read before it.
use Rattle.std.proofs.Common.{◌≡◌, ℕ, List, [], ◌∷◌, ◌++◌, Result, Ok, Err, refl, append_assoc, ap}
use Rattle.mds_text.specs.Fault.{Fault, ◌>>=◌}

-- what was read before, then the list
abbrev pub with_front : {A : Type 0} → List A → Result (List A × ℕ) Fault → Result (List A × ℕ) Fault
with_front front reading = reading >>= λ rest. Ok (front ++ rest.0, rest.1)

pub with_front-push : {A : Type 0} (front : List A) (x : A) (reading : Result (List A × ℕ) Fault) → with_front (front ++ x ∷ []) reading ≡ with_front front (reading >>= λ rest. Ok (x ∷ rest.0, rest.1))
with_front-push front x (Ok rest) = ap (λ xs. Ok (xs, rest.1)) (append_assoc front (x ∷ []) rest.0)
with_front-push front x (Err fault) = refl
