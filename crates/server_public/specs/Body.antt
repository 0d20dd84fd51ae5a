-- Bodies of responses (MDS 2.0, general information: responses): `version`, `last_updated` and `data`.
use Rattle.std.specs.Prelude.{ℕ, List, ◌++◌, codes}
use Rattle.std.specs.Fmt.{decimal}
use Rattle.std.specs.List.{join_with_byte}

-- documents under their name, from their texts, and when the public documents changed last, in milliseconds since the
-- Unix epoch
abbrev pub body_text : List ℕ → List (List ℕ) → ℕ → List ℕ
body_text name texts updated =
    codes "{\"data\":{\"" ++ name ++ codes "\":[" ++ join_with_byte 44 texts ++ codes "]},\"last_updated\":" ++ decimal updated
    ++ codes ",\"version\":\"2.0.0\"}"
