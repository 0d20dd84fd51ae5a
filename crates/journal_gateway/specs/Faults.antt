-- Why a member gave no answer.
use Rattle.std_io.specs.declared.io.kind.ErrorKind.{ErrorKind}
use Rattle.std_io.specs.declared.io.kind.ErrorKind.TheVariants.{OutOfMemory, UnexpectedEof}
use Rattle.http1.specs.declared.error.WriteError.{WriteError}
use Rattle.http1.specs.declared.error.WriteError.TheVariants as refusals
use Rattle.journal_gateway.specs.declared.fault.GatewayFault.{GatewayFault}
use Rattle.journal_gateway.specs.declared.fault.GatewayFault.TheVariants.{NoMemory, NoConnection, Incomplete, NotSent}

-- by an error of a connection
abbrev pub fault_of_kind : ErrorKind → GatewayFault
fault_of_kind OutOfMemory = NoMemory
fault_of_kind UnexpectedEof = Incomplete
fault_of_kind kind = NoConnection

-- by an error of the request's text
abbrev pub fault_of_write : WriteError → GatewayFault
fault_of_write refusals.OutOfMemory = NoMemory
fault_of_write error = NotSent
