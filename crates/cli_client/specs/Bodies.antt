-- Bodies of responses.
use Rattle.std.specs.Prelude.{◌≡◌, ℕ, ◌≤◌, List, [], ◌++◌, length, take, drop, Result, Ok, Err}
use Rattle.httparse.specs.Grammar.{Field}
use Rattle.http1.specs.Body.{body_of}
use Rattle.http1.specs.Decoder.{Completes, Continues}
use Rattle.http1.specs.declared.decode.Decoder.{Decoder}
use Rattle.http1.specs.declared.framing.Framing.{Framing}
use Rattle.http1.specs.declared.framing.Framing.TheVariants.{NoBody, Length, Chunked, UntilClose}
use Rattle.cli_client.specs.declared.body.ChunkProgress.{ChunkProgress}
use Rattle.cli_client.specs.declared.body.ChunkProgress.TheVariants.{Part, Whole}
use Rattle.cli_client.specs.declared.fault.ResponseFault.{ResponseFault}

-- the first `size` bytes, all of which have been received
abbrev pub IsSized : (size : ℕ) → (bytes body : List ℕ) → Type 0
IsSized size bytes body = (body ≡ take size bytes) × (size ≤ length bytes)

-- the body in bytes that were received up to the end of the connection: of the length that the head gives, or up to
-- that end
abbrev pub IsBody : Result Framing ResponseFault → (bytes body : List ℕ) → Type 0
IsBody (Ok NoBody) bytes body = body ≡ []
IsBody (Ok (Length size)) bytes body = IsSized size bytes body
IsBody (Ok Chunked) bytes body = ⊥
IsBody (Ok UntilClose) bytes body = body ≡ bytes
IsBody (Err fault) bytes body = ⊥

-- so many bytes are decoded, by http1's grammar of chunks: a piece is appended to the body, or what follows its last
-- chunk ends it
abbrev pub Takes : Decoder → (bytes before : List ℕ) → Decoder → (after : List ℕ) → ChunkProgress → Type 0
Takes old bytes before new after (Part len) =
    (piece : List ℕ) × (after ≡ before ++ piece) × Continues old bytes new len piece
Takes old bytes before new after (Whole len) =
    (after ≡ before) × (trailers : List Field)
    × ((more : List ℕ) → Completes old (bytes ++ more) (body_of [] trailers) (drop len bytes ++ more))
