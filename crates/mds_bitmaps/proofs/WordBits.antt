-- One more bit of a word, and the lowest common bit of two words.
use Rattle.std.proofs.Common.{◌≡◌, ◌⊎◌, ℕ, ◌*◌, ◌%◌, ◌^◌, ◌<◌, ◌≤◌, Bool, true, false, ◌&&◌, cond, Some, None, List, [], ◌∷◌, ◌++◌, length, map, get_or, bit_and, bit_or, min, refl, sym, ap, ◌∙◌, inl, inr, arith, w64}
use Rattle.std.specs.Int.{bit_at, trailing_zeros}
use Rattle.std.specs.List.{position}
use Rattle.std.proofs.lemmas.Bool.{cases_order, cases_lt}
use Rattle.std.proofs.lemmas.List.{get_or_append_left, get_or_past, length_push, length-map}
use Rattle.std.proofs.lemmas.List.{get_or-map}
use Rattle.std.proofs.lemmas.Nat.Bits.{bit_at_set_same, bit_at_set_other, bit_at_and, bit_at-zero, bit_at-trailing_zeros}
use Rattle.std.proofs.Math.Seq.{get_or-append_seam}
use Rattle.mds_match.proofs.Positions.{position_here, position_nowhere}
use Rattle.mds_bitmaps.specs.Masks.{HasBits}

abbrev pub as_bit : Bool → ℕ
as_bit b = cond b 1 0

-- the elements of a list with one more at its end
module _ (bits : List Bool) (b : Bool) (k : ℕ) where
  pub at_before : k < length bits → get_or (bits ++ b ∷ []) k false ≡ get_or bits k false
  at_before less = get_or_append_left bits (b ∷ []) false k less

  pub at_last : k ≡ length bits → get_or (bits ++ b ∷ []) k false ≡ b
  at_last is = ap (λ n. get_or (bits ++ b ∷ []) n false) is ∙ get_or-append_seam bits b [] false

  pub at_past : length bits < k → get_or (bits ++ b ∷ []) k false ≡ false
  at_past more = get_or_past (bits ++ b ∷ []) k false (omega (arith, length_push bits b))

module _ (bits : List Bool) (word number : ℕ) (long : length bits ≡ number) (small : number < 64) (before : HasBits bits word) where
  pub bit_set : HasBits (bits ++ true ∷ []) (bit_or word (1 * 2 ^ number % 2 ^ 64))
  bit_set k fits = by (cases_order k number)
    where
      by : (k ≡ number) ⊎ ((k < number) ⊎ (number < k)) → bit_at (bit_or word (1 * 2 ^ number % 2 ^ 64)) k ≡ as_bit (get_or (bits ++ true ∷ []) k false)
      by (inl same) = ap (bit_at (bit_or word (1 * 2 ^ number % 2 ^ 64))) same ∙ bit_at_set_same w64 word number small ∙ ap as_bit (sym (at_last bits true k (omega arith)))
      by (inr (inl less)) = bit_at_set_other w64 word number small k (λ e. omega arith) ∙ before k fits ∙ ap as_bit (sym (at_before bits true k (omega arith)))
      by (inr (inr more)) =
          bit_at_set_other w64 word number small k (λ e. omega arith) ∙ before k fits ∙ ap as_bit (get_or_past bits k false (omega arith) ∙ sym (at_past bits true k (omega arith)))

  pub bit_left : HasBits (bits ++ false ∷ []) word
  bit_left k fits = by (cases_order k number)
    where
      by : (k ≡ number) ⊎ ((k < number) ⊎ (number < k)) → bit_at word k ≡ as_bit (get_or (bits ++ false ∷ []) k false)
      by (inl same) = before k fits ∙ ap as_bit (get_or_past bits k false (omega arith) ∙ sym (at_last bits false k (omega arith)))
      by (inr (inl less)) = before k fits ∙ ap as_bit (sym (at_before bits false k (omega arith)))
      by (inr (inr more)) = before k fits ∙ ap as_bit (get_or_past bits k false (omega arith) ∙ sym (at_past bits false k (omega arith)))

-- an empty word has no rule's bit
pub no_bits : HasBits [] 0
no_bits k fits = bit_at-zero k

none_from : (x : Bool) → as_bit x ≡ 0 → x ≡ false
none_from true e = absurd (omega arith)
none_from false e = refl

some_from : (x : Bool) → as_bit x ≡ 1 → x ≡ true
some_from true e = refl
some_from false e = absurd (omega arith)

min_of : (x y : Bool) → min (as_bit x) (as_bit y) ≡ as_bit (x && y)
min_of true true = refl
min_of true false = refl
min_of false true = refl
min_of false false = refl

-- an element of a list that isn't empty
first_in : {X : Type 0} (xs : List X) (n : ℕ) → n < length xs → X
first_in [] n h = absurd (omega arith)
first_in (x ∷ xs) n h = x

-- words with the bits of two tests, and a test that passes where both do
module _ {X : Type 0} (p q both : X → Bool) (xs : List X) (a b : ℕ) (is_both : (x : X) → both x ≡ (p x && q x)) (few : length xs ≤ 64) (ps : HasBits (map p xs) a) (qs : HasBits (map q xs) b) where
  bit_of_both : (k : ℕ) (d : X) → k < length xs → bit_at (bit_and a b) k ≡ as_bit (both (get_or xs k d))
  bit_of_both k d short =
      let x = get_or xs k d in
      bit_at_and a b k ∙ ap (λ m. min m (bit_at b k)) (ps k (omega arith) ∙ ap as_bit (get_or-map p xs k d false short))
      ∙ ap (min (as_bit (p x))) (qs k (omega arith) ∙ ap as_bit (get_or-map q xs k d false short))
      ∙ min_of (p x) (q x) ∙ ap as_bit (sym (is_both x))

  pub nowhere : bit_and a b ≡ 0 → position both xs ≡ None
  nowhere zero = position_nowhere both xs (λ k d short. none_from _ (sym (bit_of_both k d short) ∙ ap (λ n. bit_at n k) zero ∙ bit_at-zero k))

  pub lowest : 0 < bit_and a b → bit_and a b < 2 ^ 64 → position both xs ≡ Some (trailing_zeros w64 (bit_and a b))
  lowest some fits = by (cases_lt n (length xs))
    where
      n : ℕ
      n = trailing_zeros w64 (bit_and a b)

      facts : (n < 64) × (bit_at (bit_and a b) n ≡ 1) × ((i : ℕ) → i < n → bit_at (bit_and a b) i ≡ 0)
      facts = bit_at-trailing_zeros w64 (bit_and a b) some fits

      by : (n < length xs) ⊎ (length xs ≤ n) → position both xs ≡ Some n
      by (inl short) =
          let d = first_in xs n short in
          position_here both xs n d short (λ k less. none_from _ (sym (bit_of_both k d (omega arith)) ∙ facts.2 k less)) (some_from _ (sym (bit_of_both n d short) ∙ facts.1))
      by (inr past) =
          let none : bit_at b n ≡ 0 = qs n facts.0 ∙ ap as_bit (get_or_past (map q xs) n false (omega (arith, length-map xs q))) in
          absurd (omega (arith, facts.1, bit_at_and a b n, none))
