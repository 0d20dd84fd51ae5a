-- Printed text has no byte below 32, so it stands on one line.
use Rattle.std.proofs.Common.{◌≡◌, ℕ, zero, suc, ℤ, pos, negsuc, ◌/◌, ◌%◌, ◌≤◌, List, [], ◌∷◌, ◌++◌, Bool, true, false, cond, eqb, ltb, leb, ◌&&◌, ◌||◌, refl, arith, codes}
use Rattle.std.proofs.lemmas.Bool.{leb-true}
use Rattle.std.proofs.lemmas.Bool.Decides.{nat_tests}
use Rattle.std.specs.Fmt.{decimal, digit_glyph, digits_onto, signed_decimal}
use Rattle.std.specs.Fmt as fmt
use Rattle.std.specs.List.{AllByRecursion, flat_map, list_all}
use Rattle.mds_text.specs.Printed.{decimals, escaped, fraction, comma_if, hex_digit, printed, printed_degrees, printed_items, printed_members, quoted, unsigned_degrees}
use Rattle.mds_text.specs.Tree.{Json, null, boolean, int, text, degrees, list, object, Items, no_items, item, Members, no_members, member}

-- no byte below 32
abbrev pub IsLine : List ℕ → Type 0
IsLine bytes = AllByRecursion (λ b. 32 ≤ b) bytes

IsLine-append : (xs ys : List ℕ) → IsLine xs → IsLine ys → IsLine (xs ++ ys)
IsLine-append [] ys h k = k
IsLine-append (x ∷ xs) ys h k = (h.0, IsLine-append xs ys h.1 k)

IsLine-cond : (b : Bool) (xs ys : List ℕ) → IsLine xs → IsLine ys → IsLine (cond b xs ys)
IsLine-cond true xs ys h k = h
IsLine-cond false xs ys h k = k

glyph_visible : (d : ℕ) → 32 ≤ digit_glyph false d
glyph_visible d = grind (arith, nat_tests)

hex_visible : (d : ℕ) → 32 ≤ hex_digit d
hex_visible d = grind (arith, nat_tests)

IsLine-digits_onto : (k n : ℕ) (acc : List ℕ) → IsLine acc → IsLine (digits_onto k 10 false n acc)
IsLine-digits_onto zero n acc h = h
IsLine-digits_onto (suc k) n acc h =
    let more : IsLine (digit_glyph false (n % 10) ∷ acc) = (glyph_visible (n % 10), h) in
    IsLine-cond (eqb (n / 10) 0) _ _ more (IsLine-digits_onto k (n / 10) (digit_glyph false (n % 10) ∷ acc) more)

IsLine-decimal : (n : ℕ) → IsLine (decimal n)
unfolding fmt.digits
IsLine-decimal n = IsLine-digits_onto 64 n [] tt

IsLine-signed : (z : ℤ) → IsLine (signed_decimal z)
IsLine-signed (pos n) = IsLine-decimal n
IsLine-signed (negsuc n) = (omega arith, IsLine-decimal (suc n))

IsLine-decimals : (places rest : ℕ) → IsLine (decimals places rest)
unfolding decimals
IsLine-decimals zero rest = tt
IsLine-decimals (suc places) rest = IsLine-cond (eqb rest 0) [] _ tt (omega arith, IsLine-decimals places _)

IsLine-degrees : (n : ℕ) → IsLine (unsigned_degrees n)
IsLine-degrees n =
    let rest = n % 10000000 in
    IsLine-append (decimal (n / 10000000)) (fraction rest) (IsLine-decimal (n / 10000000)) (IsLine-cond (eqb rest 0) [] _ tt (omega arith, IsLine-decimals 7 rest))

IsLine-printed_degrees : (z : ℤ) → IsLine (printed_degrees z)
IsLine-printed_degrees (pos n) = IsLine-degrees n
IsLine-printed_degrees (negsuc n) = (omega arith, IsLine-degrees (suc n))

both : (a b : Bool) → (a && b) ≡ true → (a ≡ true) × (b ≡ true)
both true true h = (refl, refl)
both true false h = cc
both false b h = cc

-- a concrete line, checked byte by byte
visible : (xs : List ℕ) → list_all (λ b. leb 32 b) xs ≡ true → IsLine xs
visible [] h = tt
visible (x ∷ xs) h =
    let parts = both (leb 32 x) (list_all (λ b. leb 32 b) xs) h in (leb-true 32 x parts.0, visible xs parts.1)

either : (b : Bool) (xs ys : List ℕ) → (b ≡ true → IsLine xs) → (b ≡ false → IsLine ys) → IsLine (cond b xs ys)
either true xs ys h k = h refl
either false xs ys h k = k refl

quote_or_backslash : (b : ℕ) → (eqb b 34 || eqb b 92) ≡ true → 32 ≤ b
quote_or_backslash b h = grind (arith, nat_tests)

not_below : (b : ℕ) → ltb b 32 ≡ false → 32 ≤ b
not_below b h = grind (arith, nat_tests)

IsLine-escaped : (b : ℕ) → IsLine (escaped b)
IsLine-escaped b =
    either (eqb b 34 || eqb b 92) _ _ (λ h. (omega arith, (quote_or_backslash b h, tt)))
    (λ _. IsLine-cond (eqb b 8) _ _ (visible (codes "\\b") refl)
    (IsLine-cond (eqb b 9) _ _ (visible (codes "\\t") refl)
    (IsLine-cond (eqb b 10) _ _ (visible (codes "\\n") refl)
    (IsLine-cond (eqb b 12) _ _ (visible (codes "\\f") refl)
    (IsLine-cond (eqb b 13) _ _ (visible (codes "\\r") refl)
    (either (ltb b 32) _ _ (λ _. (omega arith, (omega arith, (omega arith, (omega arith, (hex_visible (b / 16), (hex_visible (b % 16), tt))))))) (λ h. (not_below b h, tt))))))))

IsLine-flat_map : (s : List ℕ) → IsLine (flat_map escaped s)
IsLine-flat_map [] = tt
IsLine-flat_map (b ∷ s) = IsLine-append (escaped b) (flat_map escaped s) (IsLine-escaped b) (IsLine-flat_map s)

IsLine-quoted : (s : List ℕ) → IsLine (quoted s)
IsLine-quoted s = (omega arith, IsLine-append (flat_map escaped s) (34 ∷ []) (IsLine-flat_map s) (omega arith, tt))

IsLine-comma_if : (later : Bool) → IsLine (comma_if later)
IsLine-comma_if true = (omega arith, tt)
IsLine-comma_if false = tt

mutual
  pub IsLine-printed : (t : Json) → IsLine (printed t)
  IsLine-printed null = visible (codes "null") refl
  IsLine-printed (boolean true) = visible (codes "true") refl
  IsLine-printed (boolean false) = visible (codes "false") refl
  IsLine-printed (int z) = IsLine-signed z
  IsLine-printed (text s) = IsLine-quoted s
  IsLine-printed (degrees z) = IsLine-printed_degrees z
  IsLine-printed (list ts) = (omega arith, IsLine-append (printed_items false ts) (93 ∷ []) (IsLine-items false ts) (omega arith, tt))
  IsLine-printed (object ms) = (omega arith, IsLine-append (printed_members false ms) (125 ∷ []) (IsLine-members false ms) (omega arith, tt))

  pub IsLine-items : (later : Bool) (ts : Items) → IsLine (printed_items later ts)
  IsLine-items later no_items = tt
  IsLine-items later (item t ts) =
      IsLine-append (comma_if later ++ printed t) (printed_items true ts) (IsLine-append (comma_if later) (printed t) (IsLine-comma_if later) (IsLine-printed t)) (IsLine-items true ts)

  pub IsLine-members : (later : Bool) (ms : Members) → IsLine (printed_members later ms)
  IsLine-members later no_members = tt
  IsLine-members later (member name t ms) =
      let front = IsLine-append (comma_if later) (quoted name) (IsLine-comma_if later) (IsLine-quoted name) in
      let colon : IsLine (58 ∷ []) = (omega arith, tt) in
      let named = IsLine-append (comma_if later ++ quoted name) (58 ∷ []) front colon in
      IsLine-append (comma_if later ++ quoted name ++ 58 ∷ [] ++ printed t) (printed_members true ms) (IsLine-append (comma_if later ++ quoted name ++ 58 ∷ []) (printed t) named (IsLine-printed t)) (IsLine-members true ms)
