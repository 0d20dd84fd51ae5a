-- What arguments name in the place of an operator's identifier.
use Rattle.std.specs.Prelude.{ℕ, Bool, ◌&&◌, not, List, ◌∷◌, bytes_eq, codes, is_some, if◌then◌else◌, Option, Some, None}
use Rattle.uuid.specs.Text.{parsed}

-- an argument behind `--operator` that is no UUID
abbrev pub is_name : List ℕ → List ℕ → Bool
is_name option value = bytes_eq option (codes "--operator") && not (is_some (parsed value))

-- the first of these
abbrev pub operator_named : List (List ℕ) → Option (List ℕ)
operator_named (word ∷ value ∷ words) = if is_name word value then Some value else operator_named (value ∷ words)
operator_named words = None

-- the first argument behind `--config`
abbrev pub configuration_named : List (List ℕ) → Option (List ℕ)
configuration_named (word ∷ value ∷ words) =
    if bytes_eq word (codes "--config") then Some value else configuration_named (value ∷ words)
configuration_named words = None
