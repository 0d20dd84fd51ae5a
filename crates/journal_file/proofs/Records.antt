-- Written records are read.
use Rattle.std.proofs.Common.{◌≡◌, ℕ, ◌+◌, ◌-◌, ◌%◌, ◌^◌, ◌<◌, ◌≤◌, Bool, true, false, cond, ltb, List, [], ◌∷◌, ◌++◌, length, take, drop, replicate, Option, Some, None, refl, sym, ap, ◌∙◌, append_assoc, arith, inl, inr}
use Rattle.std.specs.Prelude.{◌&&◌, nat_lt, nat_le, ◌==◌}
use Rattle.std.specs.Int.{w32, w64, from_be_bytes, to_be_bytes}
use Rattle.std.proofs.lemmas.Bool.{cases_lt, le-ltb}
use Rattle.std.proofs.lemmas.List.{take_at, drop_at, length-append, length-take, length-take-le, length-drop, take-append-drop, take-replicate, length-replicate}
use Rattle.std.proofs.Math.Seq.{take-append-add}
use Rattle.std.proofs.lemmas.Nat.{from_be_bytes-to_be_bytes_4, from_be_bytes-to_be_bytes_8}
use Rattle.journal_file.specs.Sum.{sum_over}
use Rattle.journal_file.specs.Records.{Fits, record_of, first_at, text_at}
use Rattle.journal_file.specs.declared.record.TheConstants.{MOST_TEXT}

pub sum_fits : (before : ℕ) (text : List ℕ) → sum_over before text < 2 ^ 64
unfolding sum_over
sum_fits before text = omega arith

abbrev Read : Type 0
Read = List ℕ × List ℕ

abbrev some : Read → Option Read
some x = Some x

chosen : (b : Bool) (x y : Read) → cond b (some x) None ≡ Some y → (b ≡ true) × (x ≡ y)
chosen true x y e = (refl, cc)
chosen false x y e = absurd cc

passed : (b : Bool) (o : Option Read) (y : Read) → cond b None o ≡ Some y → (b ≡ false) × (o ≡ Some y)
passed true o y e = absurd cc
passed false o y e = (refl, e)

pub some_is : (x y : Read) → some x ≡ some y → x ≡ y
some_is x y e = cc

pub not_none : (o : Option Read) (y : Read) → o ≡ None → o ≡ Some y → ⊥
not_none o y e f = absurd cc

all_true : (a b c d : Bool) → (a && b && c && d) ≡ true → (a ≡ true) × (b ≡ true) × (c ≡ true) × (d ≡ true)
all_true true true true true e = (refl, refl, refl, refl)
all_true true true true false e = absurd cc
all_true true true false d e = absurd cc
all_true true false c d e = absurd cc
all_true false b c d e = absurd cc

text_extent : (before size claimed : ℕ) (bytes text behind : List ℕ) → text_at before size claimed bytes ≡ Some (text, behind)
    → (0 < length text) × (length bytes ≡ length text + length behind)
unfolding text_at
text_extent before size claimed bytes text behind e =
    let g = chosen (nat_lt 0 size && nat_le size MOST_TEXT && nat_le size (length bytes) && (sum_over before (take size bytes) == claimed)) (take size bytes, drop size bytes) (text, behind) e in
    let b = all_true (nat_lt 0 size) (nat_le size MOST_TEXT) (nat_le size (length bytes)) (sum_over before (take size bytes) == claimed) g.0 in
    let text-is : take size bytes ≡ text = ap (λ (p : Read). p.0) g.1 in
    let behind-is : drop size bytes ≡ behind = ap (λ (p : Read). p.1) g.1 in
    let filled : 0 < size = grind (arith, b.0) in
    let within : size ≤ length bytes = grind (arith, b.2) in
    rw (← text-is, ← behind-is) (omega (arith, length-take size bytes, filled, within), omega (arith, length-take size bytes, length-drop size bytes, within))

-- a payload that is read stands at the start, and is read whatever stands after it
text_front : (before size claimed : ℕ) (bytes text behind : List ℕ) → text_at before size claimed bytes ≡ Some (text, behind)
    → (bytes ≡ text ++ behind) × ((other : List ℕ) → text_at before size claimed (text ++ other) ≡ Some (text, other))
unfolding text_at
text_front before size claimed bytes text behind e =
    let g = chosen (nat_lt 0 size && nat_le size MOST_TEXT && nat_le size (length bytes) && (sum_over before (take size bytes) == claimed)) (take size bytes, drop size bytes) (text, behind) e in
    let b = all_true (nat_lt 0 size) (nat_le size MOST_TEXT) (nat_le size (length bytes)) (sum_over before (take size bytes) == claimed) g.0 in
    let text-is : take size bytes ≡ text = ap (λ (p : Read). p.0) g.1 in
    let behind-is : drop size bytes ≡ behind = ap (λ (p : Read). p.1) g.1 in
    let within : size ≤ length bytes = grind (arith, b.2) in
    let long : length text ≡ size = rw (← text-is) (length-take-le size bytes within) in
    let same : (sum_over before text == claimed) ≡ true = ap (λ (t : List ℕ). sum_over before t == claimed) (sym text-is) ∙ b.3 in (
      sym (take-append-drop size bytes) ∙ ap (λ (t : List ℕ). t ++ drop size bytes) text-is ∙ ap (λ (d : List ℕ). text ++ d) behind-is,
      λ other.
          let there : nat_le size (length (text ++ other)) ≡ true = grind (arith, length-append text other, long) in
          rw (take_at text other size long, drop_at text other size long, b.0, b.1, there, same) refl,
    )

-- a record that is read takes its header and its payload
pub first_extent : (before : ℕ) (bytes text behind : List ℕ) → first_at before bytes ≡ Some (text, behind)
    → length bytes ≡ 12 + length text + length behind
unfolding first_at
first_extent before bytes text behind e =
    let g = passed (nat_lt (length bytes) 12) (text_at before (from_be_bytes w32 (take 4 bytes)) (from_be_bytes w64 (take 8 (drop 4 bytes))) (drop 8 (drop 4 bytes))) (text, behind) e in
    let long : ltb (length bytes) 12 ≡ false = g.0 in
    let t = text_extent before _ _ (drop 8 (drop 4 bytes)) text behind g.1 in
    grind (arith, long, t.1, length-drop 4 bytes, length-drop 8 (drop 4 bytes))

-- the header of a record, of four bytes and eight
first_of : (before : ℕ) (size claimed rest : List ℕ) → length size ≡ 4 → length claimed ≡ 8
    → first_at before (size ++ (claimed ++ rest)) ≡ text_at before (from_be_bytes w32 size) (from_be_bytes w64 claimed) rest
unfolding first_at
first_of before size claimed rest four eight =
    let long : ltb (length (size ++ (claimed ++ rest))) 12 ≡ false = le-ltb _ _ (omega (arith, length-append size (claimed ++ rest), length-append claimed rest, four, eight)) in
    rw (long, take_at size (claimed ++ rest) 4 four, drop_at size (claimed ++ rest) 4 four, take_at claimed rest 8 eight, drop_at claimed rest 8 eight) refl

regrouped : (size claimed text rest : List ℕ) → (size ++ claimed ++ text) ++ rest ≡ size ++ (claimed ++ (text ++ rest))
regrouped size claimed text rest = append_assoc (size ++ claimed) text rest ∙ append_assoc size claimed (text ++ rest)

pub record IsFront (before : ℕ) (bytes text behind : List ℕ) : Type 0 where
  pub front : List ℕ
  pub long : length front ≡ 12 + length text
  pub split : bytes ≡ front ++ behind
  pub again : (other : List ℕ) → first_at before (front ++ other) ≡ Some (text, other)

-- a record that is read stands at the start, and is read whatever stands after it
pub first_front : (before : ℕ) (bytes text behind : List ℕ) → first_at before bytes ≡ Some (text, behind) → IsFront before bytes text behind
unfolding first_at
first_front before bytes text behind e =
    let size = take 4 bytes in
    let claimed = take 8 (drop 4 bytes) in
    let g = passed (nat_lt (length bytes) 12) (text_at before (from_be_bytes w32 size) (from_be_bytes w64 claimed) (drop 8 (drop 4 bytes))) (text, behind) e in
    let long : ltb (length bytes) 12 ≡ false = g.0 in
    let enough : 12 ≤ length bytes = grind (arith, long) in
    let four : length size ≡ 4 = length-take-le 4 bytes (omega (arith, enough)) in
    let eight : length claimed ≡ 8 = length-take-le 8 (drop 4 bytes) (omega (arith, enough, length-drop 4 bytes)) in
    let t = text_front before (from_be_bytes w32 size) (from_be_bytes w64 claimed) (drop 8 (drop 4 bytes)) text behind g.1 in
    let rejoined : bytes ≡ size ++ (claimed ++ (text ++ behind)) = sym (take-append-drop 4 bytes) ∙ ap (λ (d : List ℕ). size ++ d) (sym (take-append-drop 8 (drop 4 bytes)) ∙ ap (λ (d : List ℕ). claimed ++ d) t.0) in
    record {
      front = size ++ claimed ++ text;
      long = omega (arith, length-append (size ++ claimed) text, length-append size claimed, four, eight);
      split = rejoined ∙ sym (regrouped size claimed text behind);
      again = λ other. ap (first_at before) (regrouped size claimed text other) ∙ first_of before size claimed (text ++ other) four eight ∙ t.1 other;
    }

whole_text : (before : ℕ) (text rest : List ℕ) → Fits text → text_at before (length text) (sum_over before text) (text ++ rest) ≡ Some (text, rest)
unfolding text_at
whole_text before text rest fits =
    let filled : nat_lt 0 (length text) ≡ true = grind (arith, fits.filled) in
    let short : nat_le (length text) MOST_TEXT ≡ true = grind (arith, fits.short) in
    let long : nat_le (length text) (length (text ++ rest)) ≡ true = grind (arith, length-append text rest) in
    let same : (sum_over before text == sum_over before text) ≡ true = grind arith in
    rw (take_at text rest (length text) refl, drop_at text rest (length text) refl, filled, short, long, same) refl

too_short : (a b d : Bool) (x : Read) → cond (a && b && false && d) (some x) None ≡ None
too_short true true d x = refl
too_short true false d x = refl
too_short false b d x = refl

-- less than the whole payload is no payload
cut_text : (before size claimed : ℕ) (bytes : List ℕ) → length bytes < size → text_at before size claimed bytes ≡ None
unfolding text_at
cut_text before size claimed bytes lt =
    let short : nat_le size (length bytes) ≡ false = grind (arith, lt) in
    rw short (too_short (nat_lt 0 size) (nat_le size MOST_TEXT) (sum_over before (take size bytes) == claimed) (take size bytes, drop size bytes))

length_read : (text : List ℕ) → Fits text → from_be_bytes w32 (to_be_bytes w32 (length text)) ≡ length text
length_read text fits = from_be_bytes-to_be_bytes_4 (length text) (omega (arith, fits.short))

-- a record that was written is read, whatever stands after it
pub first_again : (before : ℕ) (text rest : List ℕ) → Fits text → first_at before (record_of before text ++ rest) ≡ Some (text, rest)
unfolding record_of
first_again before text rest fits =
    let size = to_be_bytes w32 (length text) in
    let claimed = to_be_bytes w64 (sum_over before text) in
    let head : first_at before (record_of before text ++ rest) ≡ text_at before (from_be_bytes w32 size) (from_be_bytes w64 claimed) (text ++ rest) = ap (first_at before) (regrouped size claimed text rest) ∙ first_of before size claimed (text ++ rest) refl refl in
    let sum-read : from_be_bytes w64 claimed ≡ sum_over before text = from_be_bytes-to_be_bytes_8 (sum_over before text) (sum_fits before text) in
    head ∙ ap (λ (k : ℕ). text_at before k (from_be_bytes w64 claimed) (text ++ rest)) (length_read text fits)
    ∙ ap (λ (k : ℕ). text_at before (length text) k (text ++ rest)) sum-read ∙ whole_text before text rest fits

pub short_none : (before : ℕ) (bytes : List ℕ) → length bytes < 12 → first_at before bytes ≡ None
unfolding first_at
short_none before bytes lt =
    let yes : nat_lt (length bytes) 12 ≡ true = grind (arith, lt) in
    rw yes refl

-- a header whose payload is longer than the bytes left for it begins no record
cut_of : (before left count : ℕ) (size claimed text rest : List ℕ) → length size ≡ 4 → length claimed ≡ 8 → from_be_bytes w32 size ≡ length text → count ≡ 12 + left → left < length text
    → first_at before (take count (size ++ (claimed ++ (text ++ rest)))) ≡ None
cut_of before left count size claimed text rest four eight size-is is lt =
    let count-is : count ≡ length size + (length claimed + left) = omega (arith, four, eight, is) in
    let cut : take count (size ++ (claimed ++ (text ++ rest))) ≡ size ++ (claimed ++ take left (text ++ rest)) =
    ap (λ (k : ℕ). take k (size ++ (claimed ++ (text ++ rest)))) count-is ∙ take-append-add size (claimed ++ (text ++ rest)) (length claimed + left) ∙ ap (λ (x : List ℕ). size ++ x) (take-append-add claimed (text ++ rest) left) in
    let short : length (take left (text ++ rest)) < from_be_bytes w32 size = rw size-is (omega (arith, length-take left (text ++ rest), lt)) in
    ap (first_at before) cut ∙ first_of before size claimed (take left (text ++ rest)) four eight ∙ cut_text before _ _ (take left (text ++ rest)) short

-- a record that was truncated isn't read
pub first_cut : (before count : ℕ) (text rest : List ℕ) → Fits text → count < 12 + length text → first_at before (take count (record_of before text ++ rest)) ≡ None
unfolding record_of
first_cut before count text rest fits lt =
    let size = to_be_bytes w32 (length text) in
    let claimed = to_be_bytes w64 (sum_over before text) in
    elim (cases_lt count 12) [
      | inl short ↦ short_none before (take count (record_of before text ++ rest)) (omega (arith, length-take count (record_of before text ++ rest), short))
      | inr long ↦ ap (λ (x : List ℕ). first_at before (take count x)) (regrouped size claimed text rest) ∙ cut_of before (count - 12) count size claimed text rest refl refl (length_read text fits) (omega (arith, long)) (omega (arith, long, lt))
    ]

pub record_length : (before : ℕ) (text : List ℕ) → length (record_of before text) ≡ 12 + length text
unfolding record_of
record_length before text = omega (arith, length-append (to_be_bytes w32 (length text) ++ to_be_bytes w64 (sum_over before text)) text)

pub take_behind : (count : ℕ) (front rest : List ℕ) → length front ≤ count → take count (front ++ rest) ≡ front ++ take (count - length front) rest
take_behind count front rest le =
    let is : count ≡ length front + (count - length front) = omega (arith, le) in
    ap (λ (k : ℕ). take k (front ++ rest)) is ∙ take-append-add front rest (count - length front)

empty_text : (before claimed : ℕ) (bytes : List ℕ) → text_at before 0 claimed bytes ≡ None
unfolding text_at
empty_text before claimed bytes = refl

-- a header that begins with four zeros
zero_head : (before : ℕ) (bytes : List ℕ) → 12 ≤ length bytes → from_be_bytes w32 (take 4 bytes) ≡ 0 → first_at before bytes ≡ None
unfolding first_at
zero_head before bytes le zero-is =
    let long : ltb (length bytes) 12 ≡ false = le-ltb _ _ le in
    rw (long, zero-is) (empty_text before (from_be_bytes w64 (take 8 (drop 4 bytes))) (drop 8 (drop 4 bytes)))

pub zeros_none : (before count : ℕ) → first_at before (replicate count 0) ≡ None
zeros_none before count =
    elim (cases_lt (length (replicate count 0)) 12) [
      | inl lt ↦ short_none before (replicate count 0) lt
      | inr le ↦ zero_head before (replicate count 0) le (rw (take-replicate {X = ℕ} 4 count 0 (omega (arith, le, length-replicate {A = ℕ} count 0))) refl)
    ]
