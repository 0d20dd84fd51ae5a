-- Bodies that are joined from texts printed before (RFC 8259, sections 4 and 5).
use Rattle.std.specs.Prelude.{ℕ, List, [], ◌∷◌, ◌++◌, codes}
use Rattle.std.specs.Fmt.{decimal}
use Rattle.std.specs.List.{join_with_byte}
use Rattle.mds_text.specs.Printed.{quoted}

-- a list of texts
abbrev pub list_text : List (List ℕ) → List ℕ
list_text texts = 91 ∷ join_with_byte 44 texts ++ 93 ∷ []

-- the text of something published, under its name, and the number of publications
abbrev pub revised_text : List ℕ → List ℕ → ℕ → List ℕ
revised_text name value revision =
    123 ∷ quoted name ++ 58 ∷ value ++ 44 ∷ quoted (codes "revision") ++ 58 ∷ decimal revision ++ 125 ∷ []
