-- Tokens: the words for states, vehicle types, propulsion types, event types and rule types.
use Rattle.std.specs.Prelude.{◌≡◌, ℕ, ◌≤◌, ◌-◌, Bool, true, not, if◌then◌else◌, Option, Some, None, ◌&&◌, ◌||◌, ◌==◌, nat_le, List, ◌++◌, length, drop, replicate, take}
use Rattle.std.specs.List.{list_all, prefix_len}
use Rattle.std.proofs.Common.{ap, ◌∙◌, sym, arith}
use Rattle.std.proofs.lemmas.List.{take-append-drop, length-take-le}

-- a lower-case letter, a digit or `_`
abbrev pub is_token_byte : ℕ → Bool
is_token_byte b = (nat_le 97 b && nat_le b 122) || (nat_le 48 b && nat_le b 57) || (b == 95)

-- 1 to 40 bytes of lower-case letters, digits and `_`
abbrev pub is_token : List ℕ → Bool
is_token s = nat_le 1 (length s) && nat_le (length s) 40 && list_all is_token_byte s

-- the text, where it is a token
abbrev pub as_token : List ℕ → Option (List ℕ)
as_token s = if is_token s then Some s else None

-- how many bytes come before the first zero
abbrev pub word_len : List ℕ → ℕ
word_len bytes = prefix_len (λ b. not (b == 0)) bytes

-- forty bytes: a token, padded with zeros
pub record IsPadded (len : ℕ) (bytes : List ℕ) : Type 0 where
  pub whole : length bytes ≡ 40
  pub fits : len ≤ 40
  pub token : is_token (take len bytes) ≡ true
  pub zeros : drop len bytes ≡ replicate (40 - len) 0

pub padded_length : (len : ℕ) (bytes : List ℕ) → IsPadded len bytes → length (take len bytes) ≡ len
padded_length len bytes h = length-take-le len bytes (omega (arith, h.whole, h.fits))

-- the token, padded with zeros again, is the forty bytes
pub padded_back : (len : ℕ) (bytes : List ℕ) → IsPadded len bytes → take len bytes ++ replicate (40 - length (take len bytes)) 0 ≡ bytes
padded_back len bytes h =
    ap (λ n. take len bytes ++ replicate (40 - n) 0) (padded_length len bytes h)
    ∙ (ap (λ rest. take len bytes ++ rest) (sym h.zeros) ∙ take-append-drop len bytes)
