-- Why there is no response.
use Rattle.std.specs.Prelude.{Bool, true, false}
use Rattle.std_io.specs.declared.io.kind.ErrorKind.{ErrorKind}
use Rattle.std_io.specs.declared.io.kind.ErrorKind.TheVariants.{OutOfMemory, UnexpectedEof}
use Rattle.http1.specs.declared.framing.FramingError.{FramingError}
use Rattle.http1.specs.declared.framing.FramingError.TheVariants.{InvalidContentLength, LengthAndEncoding}
use Rattle.cli_client.specs.declared.fault.ResponseFault.{ResponseFault}
use Rattle.cli_client.specs.declared.fault.ResponseFault.TheVariants.{NoMemory, NoConnection, Incomplete, InvalidHead, InvalidLength, LengthAndCoding, UnknownCoding}

-- another attempt may get a response: the connection failed, or no head came over it
abbrev pub is_passing : ResponseFault → Bool
is_passing NoConnection = true
is_passing Incomplete = true
is_passing InvalidHead = true
is_passing fault = false

-- the fault by an error of a connection
abbrev pub fault_of_kind : ErrorKind → ResponseFault
fault_of_kind OutOfMemory = NoMemory
fault_of_kind UnexpectedEof = Incomplete
fault_of_kind kind = NoConnection

-- why the fields of a head don't say where the body ends (RFC 9112, section 6.3)
abbrev pub fault_of_framing : FramingError → ResponseFault
fault_of_framing InvalidContentLength = InvalidLength
fault_of_framing LengthAndEncoding = LengthAndCoding
fault_of_framing error = UnknownCoding
