-- What is appended to a text piece by piece.
use Rattle.std.specs.Prelude.{is_ok, if◌then◌else◌}
use Rattle.std.proofs.Common.{◌≡◌, ℕ, List, ◌++◌, Result, Ok, Err, OnOk, ap, ◌∙◌, append_assoc}

regroup_three : (t a b c : List ℕ) → ((t ++ a) ++ b) ++ c ≡ t ++ ((a ++ b) ++ c)
regroup_three t a b c = simp append_assoc

regroup_five : (t a b c d e : List ℕ) → ((((t ++ a) ++ b) ++ c) ++ d) ++ e ≡ t ++ ((((a ++ b) ++ c) ++ d) ++ e)
regroup_five t a b c d e = simp append_assoc

-- three pieces, of which the last may fail
pub append_three : {T E : Type 0} (r : Result T E) (s0 s1 s2 s3 a b c : List ℕ) → s1 ≡ s0 ++ a → s2 ≡ s1 ++ b → s3 ≡ (if is_ok r then s2 ++ c else s2) → OnOk r (s3 ≡ s0 ++ ((a ++ b) ++ c))
append_three (Ok x) s0 s1 s2 s3 a b c e1 e2 e3 = e3 ∙ (ap (λ (xs : List ℕ). xs ++ c) (e2 ∙ ap (λ (xs : List ℕ). xs ++ b) e1) ∙ regroup_three s0 a b c)
append_three (Err x) s0 s1 s2 s3 a b c e1 e2 e3 = tt

-- five pieces, of which the last may fail
pub append_five : {T E : Type 0} (r : Result T E) (s0 s1 s2 s3 s4 s5 a b c d e : List ℕ) → s1 ≡ s0 ++ a → s2 ≡ s1 ++ b → s3 ≡ s2 ++ c → s4 ≡ s3 ++ d → s5 ≡ (if is_ok r then s4 ++ e else s4) → OnOk r (s5 ≡ s0 ++ ((((a ++ b) ++ c) ++ d) ++ e))
append_five (Ok x) s0 s1 s2 s3 s4 s5 a b c d e e1 e2 e3 e4 e5 =
    let two : s2 ≡ (s0 ++ a) ++ b = e2 ∙ ap (λ (xs : List ℕ). xs ++ b) e1 in
    let three : s3 ≡ ((s0 ++ a) ++ b) ++ c = e3 ∙ ap (λ (xs : List ℕ). xs ++ c) two in
    let four : s4 ≡ (((s0 ++ a) ++ b) ++ c) ++ d = e4 ∙ ap (λ (xs : List ℕ). xs ++ d) three in
    e5 ∙ (ap (λ (xs : List ℕ). xs ++ e) four ∙ regroup_five s0 a b c d e)
append_five (Err x) s0 s1 s2 s3 s4 s5 a b c d e e1 e2 e3 e4 e5 = tt
