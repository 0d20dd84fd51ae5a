-- The longest run, from the last sample on.
use Rattle.std.proofs.Common.{◌≡◌, ℕ, suc, ◌+◌, ◌<◌, ◌≤◌, List, [], ◌∷◌, Bool, true, false, nat_le, if◌then◌else◌, take, drop}
use Rattle.std.proofs.Common.{length, get_or, refl, sym, ap, ◌∙◌, arith}
use Rattle.std.proofs.lemmas.List.{at_drop_more, length-take-le, length-drop}
use Rattle.std.proofs.lemmas.List.Sums.{take_while-cons}
use Rattle.std.proofs.lemmas.Bool.Decides.{nat_tests}
use Rattle.cli_report.specs.Days.{leading, longer, longest}
use Rattle.cli_report.specs.declared.days.DaySample.{DaySample}

one_left : (xs : List DaySample) (i : ℕ) (x : DaySample) → i < length xs → x ≡ get_or xs i x → drop i xs ≡ x ∷ drop (i + 1) xs
one_left xs i x within is = at_drop_more (λ ys. ys) xs i x within ∙ ap (λ y. y ∷ drop (i + 1) xs) (sym is)

-- a violated sample in front of a run
pub leads : (xs : List DaySample) (i n : ℕ) (x : DaySample) → i < length xs → x ≡ get_or xs i x → x.violated ≡ true
    → take n (drop (i + 1) xs) ≡ leading (drop (i + 1) xs) → take (n + 1) (drop i xs) ≡ leading (drop i xs)
leads xs i n x within is violated so_far =
    let rest = drop (i + 1) xs in
    let more : n + 1 ≡ suc n = omega arith in
    ap (λ k. take k (drop i xs)) more
    ∙ ap (take (suc n)) (one_left xs i x within is)
    ∙ ap (λ ys. x ∷ ys) so_far
    ∙ sym (take_while-cons (λ s. s.violated) x rest ∙ ap (λ (t : Bool). if t then x ∷ leading rest else []) violated)
    ∙ ap leading (sym (one_left xs i x within is))

-- another one
pub leads_none : (xs : List DaySample) (i : ℕ) (x : DaySample) → i < length xs → x ≡ get_or xs i x → x.violated ≡ false
    → take 0 (drop i xs) ≡ leading (drop i xs)
leads_none xs i x within is kept =
    let rest = drop (i + 1) xs in
    sym (take_while-cons (λ s. s.violated) x rest ∙ ap (λ (t : Bool). if t then x ∷ leading rest else []) kept)
    ∙ ap leading (sym (one_left xs i x within is))

-- either
led_by : (xs : List DaySample) (i n m : ℕ) (x : DaySample) (violated : Bool) → x.violated ≡ violated → i < length xs → x ≡ get_or xs i x
    → m ≡ (if violated then n + 1 else 0) → i + 1 + n ≤ length xs
    → take n (drop (i + 1) xs) ≡ leading (drop (i + 1) xs) → (i + m ≤ length xs) × (take m (drop i xs) ≡ leading (drop i xs))
led_by xs i n m x true v within is made fits so_far =
    (omega (arith, made, fits), ap (λ k. take k (drop i xs)) made ∙ leads xs i n x within is v so_far)
led_by xs i n m x false v within is made fits so_far =
    (omega (arith, made, within), ap (λ k. take k (drop i xs)) made ∙ leads_none xs i x within is v)

pub led : (xs : List DaySample) (i n m : ℕ) (x : DaySample) → i < length xs → x ≡ get_or xs i x → m ≡ (if x.violated then n + 1 else 0)
    → i + 1 + n ≤ length xs
    → take n (drop (i + 1) xs) ≡ leading (drop (i + 1) xs) → (i + m ≤ length xs) × (take m (drop i xs) ≡ leading (drop i xs))
led xs i n m x within is made fits so_far = led_by xs i n m x x.violated refl within is made fits so_far

-- how many samples a run has
runs : (xs ys : List DaySample) (first n : ℕ) → first + n ≤ length xs → take n (drop first xs) ≡ ys → length ys ≡ n
runs xs ys first n within is = ap length (sym is) ∙ length-take-le n (drop first xs) (omega (arith, within, length-drop first xs))

next : (xs : List DaySample) (i : ℕ) (x : DaySample) → i < length xs → x ≡ get_or xs i x
    → longest (drop i xs) ≡ longer (leading (drop i xs)) (longest (drop (i + 1) xs))
next xs i x within is =
    let back = sym (one_left xs i x within is) in
    ap longest (one_left xs i x within is) ∙ ap (λ ys. longer (leading ys) (longest (drop (i + 1) xs))) back

-- the run that begins here is as long as the longest one so far
pub is_longest : (xs : List DaySample) (i n first count : ℕ) (x : DaySample) → i < length xs → x ≡ get_or xs i x → i + n ≤ length xs
    → first + count ≤ length xs
    → take n (drop i xs) ≡ leading (drop i xs) → take count (drop first xs) ≡ longest (drop (i + 1) xs) → count ≤ n
    → take n (drop i xs) ≡ longest (drop i xs)
is_longest xs i n first count x within is fits inside begun so_far more =
    let at_least : nat_le count n ≡ true = grind (arith, nat_tests, more) in
    begun
    ∙ ap (λ (t : Bool). if t then leading (drop i xs) else longest (drop (i + 1) xs))
    (sym (ap (λ k. nat_le k (length (leading (drop i xs)))) (runs xs _ first count inside so_far)
    ∙ ap (nat_le count) (runs xs _ i n fits begun) ∙ at_least))
    ∙ sym (next xs i x within is)

-- it is shorter
pub stays_longest : (xs : List DaySample) (i n first count : ℕ) (x : DaySample) → i < length xs → x ≡ get_or xs i x → i + n ≤ length xs
    → first + count ≤ length xs
    → take n (drop i xs) ≡ leading (drop i xs) → take count (drop first xs) ≡ longest (drop (i + 1) xs) → n < count
    → take count (drop first xs) ≡ longest (drop i xs)
stays_longest xs i n first count x within is fits inside begun so_far less =
    let not_so : nat_le count n ≡ false = grind (arith, nat_tests, less) in
    so_far
    ∙ ap (λ (t : Bool). if t then leading (drop i xs) else longest (drop (i + 1) xs))
    (sym (ap (λ k. nat_le k (length (leading (drop i xs)))) (runs xs _ first count inside so_far)
    ∙ ap (nat_le count) (runs xs _ i n fits begun) ∙ not_so))
    ∙ sym (next xs i x within is)
