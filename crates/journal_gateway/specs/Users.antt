-- The bytes of a user's file.
use Rattle.std.specs.Prelude.{ℕ, ◌+◌, ◌-◌, ◌==◌, List, length, take, drop, Bool, bytes_eq, codes, if◌then◌else◌}
use Rattle.std.specs.Prelude.{position, Option, option_map}

abbrev pub ends_in : (ending bytes : List ℕ) → Bool
ends_in ending bytes = bytes_eq (drop (length bytes - length ending) bytes) ending

-- a text without the one line end behind it: CR and LF, or LF
abbrev pub without_line_end : List ℕ → List ℕ
without_line_end bytes =
    if ends_in (codes "\r\n") bytes then take (length bytes - 2) bytes
    else (if ends_in (codes "\n") bytes then take (length bytes - 1) bytes else bytes)

abbrev pub is_colon : ℕ → Bool
is_colon byte = byte == 58

-- a name and a password, with the first colon between them
abbrev pub parts_of : List ℕ → Option (List ℕ × List ℕ)
parts_of text = option_map (λ colon. (take colon text, drop (colon + 1) text)) (position is_colon text)
