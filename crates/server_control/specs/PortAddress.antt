-- Where a control port listens, by its address.
use Rattle.std.specs.Prelude.{◌≡◌, ℕ, List, ◌++◌, codes}
use Rattle.server_control.specs.declared.port.PortAddress.{PortAddress}
use Rattle.server_control.specs.declared.port.PortAddress.TheVariants.{Tcp, Unix}

-- an address that begins with `unix:` is that of a Unix socket, and any other is one of TCP
abbrev pub PlaceOf : List ℕ → PortAddress → Type 0
PlaceOf address (Unix path) = address ≡ codes "unix:" ++ path.now
PlaceOf address (Tcp place) = (place.now ≡ address) × ((path : List ℕ) → ¬ (address ≡ codes "unix:" ++ path))

-- the request to stop (RFC 9112, sections 3 and 5)
abbrev pub stop_request : List ℕ → List ℕ
stop_request host = codes "POST /stop HTTP/1.1\r\nhost: " ++ host ++ codes "\r\ncontent-length: 0\r\nconnection: close\r\n\r\n"
