-- The head of a response (RFC 9112), by httparse's grammar, and how the body behind it ends.
use Rattle.std.specs.Prelude.{◌≡◌, ℕ, drop, List, Bool, not, Result, Ok, Err, if◌then◌else◌}
use Rattle.httparse.specs.Grammar.{ResponseHead, ReadsResponse, HasNoResponse, status_code}
use Rattle.httparse.specs.Spans.{ResponseOverflows}
use Rattle.http1.specs.Conn.{keeps_alive}
use Rattle.http1.specs.Framing.{response_framing}
use Rattle.http1.specs.Message.{known_of}
use Rattle.http1.specs.declared.fields.KnownFields.{KnownFields}
use Rattle.http1.specs.declared.framing.Framing.{Framing}
use Rattle.http1.specs.declared.framing.Framing.TheVariants.{NoBody, Length, Chunked, UntilClose}
use Rattle.http1.specs.declared.framing.FramingError.{FramingError}
use Rattle.http1.specs.declared.framing.MethodKind.TheVariants.{Other}
use Rattle.cli_client.specs.Faults.{fault_of_framing}
use Rattle.cli_client.specs.declared.fault.ResponseFault.{ResponseFault}
use Rattle.cli_client.specs.declared.fault.ResponseFault.TheVariants.{UnknownCoding}
use Rattle.cli_client.specs.declared.head.ParsedHead.{ParsedHead}
use Rattle.cli_client.specs.declared.head.HeadProgress.{HeadProgress}
use Rattle.cli_client.specs.declared.head.HeadProgress.TheVariants.{Whole, Partial, Broken}
use Rattle.cli_client.specs.declared.head.TheConstants.{MOST_FIELDS}

-- a body in a coding other than `chunked` isn't read, even where it is known how it ends
abbrev pub uncoded : (is_coded : Bool) → Result Framing FramingError → Result Framing ResponseFault
uncoded is_coded (Ok NoBody) = Ok NoBody
uncoded is_coded (Ok (Length size)) = if is_coded then Err UnknownCoding else Ok (Length size)
uncoded is_coded (Ok Chunked) = if is_coded then Err UnknownCoding else Ok Chunked
uncoded is_coded (Ok UntilClose) = if is_coded then Err UnknownCoding else Ok UntilClose
uncoded is_coded (Err error) = Err (fault_of_framing error)

-- how the body of a response ends (RFC 9112, section 6.3)
abbrev pub framing_of : (status minor : ℕ) → KnownFields → Result Framing ResponseFault
framing_of status minor known = uncoded known.other_coding (response_framing Other status minor known)

-- the bytes begin with this head
abbrev pub IsHead : List ℕ → ParsedHead → Type 0
IsHead bytes head =
    (read : ResponseHead) × ReadsResponse bytes read (drop head.len bytes) × (head.status ≡ status_code read)
    × (head.framing ≡ framing_of (status_code read) read.minor (known_of read.fields))
    × (head.closes ≡ not (keeps_alive read.minor (known_of read.fields)))

-- the bytes begin with a head, or with no whole head yet, or can't begin with a head of at most `MOST_FIELDS` fields
abbrev pub HeadingOf : List ℕ → HeadProgress → Type 0
HeadingOf bytes (Whole head) = IsHead bytes head
HeadingOf bytes Partial = HasNoResponse bytes
HeadingOf bytes Broken = ResponseOverflows MOST_FIELDS bytes
