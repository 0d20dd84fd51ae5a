-- The access token in a file.
use Rattle.std.specs.Prelude.{ℕ, ◌-◌, ◌==◌, List, length, take, drop, Bool, nat_lt, bytes_eq, codes, if◌then◌else◌, Result, Ok, Err}
use Rattle.cli_transfer.specs.declared.token.TokenFault.{TokenFault}
use Rattle.cli_transfer.specs.declared.token.TokenFault.TheVariants.{Empty, TooLong}
use Rattle.cli_transfer.specs.declared.token.TheConstants.{MOST_TOKEN}

abbrev pub ends_in : (ending bytes : List ℕ) → Bool
ends_in ending bytes = bytes_eq (drop (length bytes - length ending) bytes) ending

-- a text without the one line end behind it: CR and LF, or LF
abbrev pub without_line_end : List ℕ → List ℕ
without_line_end bytes =
    if ends_in (codes "\r\n") bytes then take (length bytes - 2) bytes
    else (if ends_in (codes "\n") bytes then take (length bytes - 1) bytes else bytes)

-- all of the file but the one line end behind it: 1 to 64 bytes
abbrev pub token_in : List ℕ → Result (List ℕ) TokenFault
token_in bytes =
    let token = without_line_end bytes in
    if length token == 0 then Err Empty else (if nat_lt MOST_TOKEN (length token) then Err TooLong else Ok token)
