-- The addresses of a cluster's members.
use Rattle.std.specs.Prelude.{ℕ, ◌==◌, ◌&&◌, not, nat_le, Bool, List}
use Rattle.std.specs.List.{list_all, list_any}

-- printable ASCII, and neither space nor comma
abbrev pub is_host_byte : ℕ → Bool
is_host_byte byte = nat_le 33 byte && nat_le byte 126 && not (byte == 44)

-- with a colon in it
abbrev pub is_member : List ℕ → Bool
is_member word = list_all is_host_byte word && list_any (λ byte. byte == 58) word
