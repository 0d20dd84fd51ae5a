-- Parts of a text.
use Rattle.std.specs.Prelude.{ℕ, ◌-◌, List, [], ◌&&◌, nat_le, length, take, drop, if◌then◌else◌, Result, Ok}
use Rattle.mds_text.specs.Fault.{Fault}
use Rattle.mds_text.specs.Reading.{read_text}
use Rattle.mds_text.specs.Tree.{Json, text}

-- the bytes between two offsets; none where these aren't two offsets of the text, in order
abbrev pub piece : List ℕ → ℕ → ℕ → List ℕ
piece bytes from to = if nat_le from to && nat_le to (length bytes) then take (to - from) (drop from bytes) else []

abbrev pub text_in : Result Json Fault → List ℕ
text_in (Ok (text s)) = s
text_in other = []

-- the text of a string with its escapes resolved (RFC 8259, section 7); empty for anything else
abbrev pub unquoted : List ℕ → List ℕ
unquoted bytes = text_in (read_text bytes)
