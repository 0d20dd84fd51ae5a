-- UTF-8 on both sides of an ASCII byte.
use Rattle.std.proofs.Common.{◌≡◌, ℕ, zero, suc, ◌+◌, ◌<◌, List, [], ◌∷◌, ◌++◌, true, ◌||◌, ◌==◌, length, get_or, sym, ap, ◌∙◌, subst, arith, inl, inr, ◌⊎◌, append_assoc, length-append, IsUtf8}
use Rattle.std.proofs.lemmas.Bool.{eqb-true, leb-true, and_parts, or_cases}
use Rattle.std.proofs.lemmas.List.{take_at, drop_at}
use Rattle.std.proofs.Math.Seq.{get_or-append_seam}
use Rattle.std.proofs.lemmas.Str.{IsUtf8-append, IsUtf8-from_ascii, IsUtf8-take, IsUtf8-drop, IsUtf8-past_char, IsCharBoundary-after_ascii, encode_ascii}
use Rattle.std.specs.Char.{is_ascii_digit}
use Rattle.std.specs.Str.{IsAscii}
use Rattle.mds_text.specs.Quoting.{continues_token}
use Rattle.mds_json.proofs.Passing.{Continue}

ascii_one : (c : ℕ) → c < 128 → IsAscii (c ∷ [])
ascii_one c small zero = small
ascii_one c small (suc n) = omega arith

pub peel : (c : ℕ) (t : List ℕ) → c < 128 → IsUtf8 (c ∷ t) → IsUtf8 t
peel c t small u = IsUtf8-past_char (c ∷ t) t c u (ap (λ e. e ++ t) (sym (encode_ascii c small)))

pub join : (c : ℕ) (t : List ℕ) → c < 128 → IsUtf8 t → IsUtf8 (c ∷ t)
join c t small u = IsUtf8-append (c ∷ []) t (IsUtf8-from_ascii (c ∷ []) (ascii_one c small)) u

small_at : (c x : ℕ) → c < 128 → (x == c) ≡ true → x < 128
small_at c x le e = omega (arith, eqb-true x c e)

small_continue : (x : ℕ) → continues_token x ≡ true → x < 128
small_continue x h = five (or_cases _ _ h)
  where
    digit : is_ascii_digit x ≡ true → x < 128
    digit e = omega (arith, leb-true x 57 (and_parts _ _ e).1)

    one : (is_ascii_digit x ≡ true) ⊎ ((x == 43) ≡ true) → x < 128
    one (inl e) = digit e
    one (inr e) = small_at 43 x (omega arith) e

    two : ((is_ascii_digit x || (x == 43)) ≡ true) ⊎ ((x == 45) ≡ true) → x < 128
    two (inl e) = one (or_cases _ _ e)
    two (inr e) = small_at 45 x (omega arith) e

    three : ((is_ascii_digit x || (x == 43) || (x == 45)) ≡ true) ⊎ ((x == 46) ≡ true) → x < 128
    three (inl e) = two (or_cases _ _ e)
    three (inr e) = small_at 46 x (omega arith) e

    four : ((is_ascii_digit x || (x == 43) || (x == 45) || (x == 46)) ≡ true) ⊎ ((x == 101) ≡ true) → x < 128
    four (inl e) = three (or_cases _ _ e)
    four (inr e) = small_at 101 x (omega arith) e

    five : ((is_ascii_digit x || (x == 43) || (x == 45) || (x == 46) || (x == 101)) ≡ true) ⊎ ((x == 69) ≡ true) → x < 128
    five (inl e) = four (or_cases _ _ e)
    five (inr e) = small_at 69 x (omega arith) e

pub peel_run : (n rest : List ℕ) → Continue n → IsUtf8 (n ++ rest) → IsUtf8 rest
peel_run [] rest h u = u
peel_run (x ∷ n) rest h u = peel_run n rest h.1 (peel x (n ++ rest) (small_continue x h.0) u)

pub join_run : (n rest : List ℕ) → Continue n → IsUtf8 rest → IsUtf8 (n ++ rest)
join_run [] rest h u = u
join_run (x ∷ n) rest h u = join x (n ++ rest) (small_continue x h.0) (join_run n rest h.1 u)

-- a text may be cut after a quotation mark
pub cut_behind : (before rest : List ℕ) → IsUtf8 ((before ++ 34 ∷ []) ++ rest) → IsUtf8 (before ++ 34 ∷ []) × IsUtf8 rest
cut_behind before rest u =
    let bs = (before ++ 34 ∷ []) ++ rest in
    let i = length before in
    let long : length (before ++ 34 ∷ []) ≡ i + 1 = omega (arith, length-append before (34 ∷ [])) in
    let is : bs ≡ before ++ 34 ∷ rest = append_assoc before (34 ∷ []) rest in
    let at : get_or bs i 0 ≡ 34 = ap (λ v. get_or v i 0) is ∙ get_or-append_seam before 34 rest 0 in
    let boundary = IsCharBoundary-after_ascii bs i u (omega (arith, long, length-append (before ++ 34 ∷ []) rest)) (omega (arith, at)) in
    (subst IsUtf8 (take_at (before ++ 34 ∷ []) rest (i + 1) long) (IsUtf8-take bs (i + 1) u boundary), subst IsUtf8 (drop_at (before ++ 34 ∷ []) rest (i + 1) long) (IsUtf8-drop bs (i + 1) u boundary))
