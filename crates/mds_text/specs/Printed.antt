-- The compact text of a JSON value (RFC 8259, sections 2 and 7), with degrees in decimal notation.
use Rattle.std.specs.Prelude.{ℕ, zero, suc, ℤ, pos, negsuc, List, [], ◌∷◌, ◌++◌, ◌+◌, ◌/◌, ◌%◌, ◌^◌, ◌==◌, ◌||◌, nat_lt, Bool, true, false, if◌then◌else◌, codes}
use Rattle.std.specs.Fmt.{decimal, signed_decimal}
use Rattle.std.specs.List.{flat_map}
use Rattle.mds_text.specs.Tree.{Json, null, boolean, int, text, degrees, list, object, Items, no_items, item, Members, no_members, member}

-- a lower-case hexadecimal digit
abbrev pub hex_digit : ℕ → ℕ
hex_digit d = if nat_lt d 10 then 48 + d else 87 + d

-- a byte of a string as it is printed (RFC 8259, section 7): the quotation mark and the backslash are escaped by a
-- backslash, bytes below 32 by a letter (five of them) or as `\u00..`
abbrev pub escaped : ℕ → List ℕ
escaped b =
    if (b == 34) || (b == 92) then 92 ∷ b ∷ []
    else if b == 8 then codes "\\b"
    else if b == 9 then codes "\\t"
    else if b == 10 then codes "\\n"
    else if b == 12 then codes "\\f"
    else if b == 13 then codes "\\r"
    else if nat_lt b 32 then codes "\\u00" ++ hex_digit (b / 16) ∷ hex_digit (b % 16) ∷ []
    else b ∷ []

-- a string in quotation marks
abbrev pub quoted : List ℕ → List ℕ
quoted s = 34 ∷ flat_map escaped s ++ 34 ∷ []

-- the decimals of a fraction `rest` of 10^places, up to the last that isn't zero
unfoldable pub decimals : ℕ → ℕ → List ℕ
decimals zero rest = []
decimals (suc places) rest = if rest == 0 then [] else (48 + rest / 10 ^ places) ∷ decimals places (rest % 10 ^ places)

-- a point and the decimals, where the fraction isn't zero
abbrev pub fraction : ℕ → List ℕ
fraction rest = if rest == 0 then [] else 46 ∷ decimals 7 rest

-- units of 10^-7 degree, in degrees
abbrev pub unsigned_degrees : ℕ → List ℕ
unsigned_degrees n = decimal (n / 10 ^ 7) ++ fraction (n % 10 ^ 7)

-- degrees, with a minus where they are negative
abbrev pub printed_degrees : ℤ → List ℕ
printed_degrees (pos n) = unsigned_degrees n
printed_degrees (negsuc n) = 45 ∷ unsigned_degrees (suc n)

-- a comma, except before the first entry
abbrev pub comma_if : Bool → List ℕ
comma_if later = if later then 44 ∷ [] else []

-- the compact text of a value
abbrev mutual
  pub printed : Json → List ℕ
  printed null = codes "null"
  printed (boolean b) = if b then codes "true" else codes "false"
  printed (int z) = signed_decimal z
  printed (text s) = quoted s
  printed (degrees z) = printed_degrees z
  printed (list ts) = 91 ∷ printed_items false ts ++ 93 ∷ []
  printed (object ms) = 123 ∷ printed_members false ms ++ 125 ∷ []

  pub printed_items : Bool → Items → List ℕ
  printed_items later no_items = []
  printed_items later (item t ts) = comma_if later ++ printed t ++ printed_items true ts

  pub printed_members : Bool → Members → List ℕ
  printed_members later no_members = []
  printed_members later (member name t ms) = comma_if later ++ quoted name ++ 58 ∷ [] ++ printed t ++ printed_members true ms
