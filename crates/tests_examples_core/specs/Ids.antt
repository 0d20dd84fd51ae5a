-- Identifiers, as values and as they are written.
use Rattle.std.specs.Prelude.{ℕ, List, [], ◌∷◌, ◌++◌, codes}

-- an identifier: sixteen bytes, of which the last two are given
abbrev pub id : ℕ → ℕ → List ℕ
id a b = 0 ∷ 0 ∷ 0 ∷ 0 ∷ 0 ∷ 0 ∷ 64 ∷ 0 ∷ 128 ∷ 0 ∷ 0 ∷ 0 ∷ 0 ∷ 0 ∷ a ∷ b ∷ []

-- an identifier in hexadecimal digits with hyphens, of which the last three digits are given
abbrev pub id_text : List ℕ → List ℕ
id_text end = codes "00000000-0000-4000-8000-000000000" ++ end

abbrev pub square_id : List ℕ
square_id = id 1 1

abbrev pub wide_id : List ℕ
wide_id = id 1 2

abbrev pub cap_id : List ℕ
cap_id = id 2 1

abbrev pub next_id : List ℕ
next_id = id 2 2

abbrev pub first_rule_id : List ℕ
first_rule_id = id 3 1

abbrev pub second_rule_id : List ℕ
second_rule_id = id 3 2
