-- How a call of the city's state is counted, and which methods its refusal names.
use Rattle.std.specs.Prelude.{ℕ, List, Option, None, Result, Ok, Err, if◌then◌else◌}
use Rattle.server_control.specs.declared.counters.CallKind.{CallKind}
use Rattle.server_control.specs.declared.counters.CallKind.TheVariants.{Read, Change, Publish}
use Rattle.server_responses.specs.Methods.{methods_at}
use Rattle.mds_request.specs.Call.{segments_in}
use Rattle.mds_request.specs.declared.call.AuthorCall.TheVariants as author
use Rattle.mds_request.specs.declared.call.Call.{Call}
use Rattle.mds_request.specs.declared.call.Call.TheVariants.{Author}
use Rattle.mds_request.specs.declared.code.Code.{Code}
use Rattle.mds_request.specs.declared.code.Code.TheVariants.{Method}
use Rattle.journal_laws.specs.Persisted.{may_change}
use Rattle.server_routes.specs.declared.state.StateCall.{StateCall}
use Rattle.server_routes.specs.declared.state.StateCall.TheVariants.{Call as OfProtocol, Reports, AuthorAsks, OperatorAsks, AsksFleet}

-- a call of the protocol: the author's call to publish, what may change the persisted state, or
-- what reads
abbrev pub kind_of_own : Call → CallKind
kind_of_own (Author author.Publish) = Publish
kind_of_own call = if may_change (Ok call) then Change else Read

-- A refusal of the table of calls changes nothing.
abbrev pub kind_of : Result StateCall Code → CallKind
kind_of (Err code) = Read
kind_of (Ok (OfProtocol call)) = kind_of_own call
kind_of (Ok (Reports place)) = Change
kind_of (Ok (AuthorAsks question)) = Read
kind_of (Ok (OperatorAsks place question)) = Read
kind_of (Ok (AsksFleet question)) = Read

-- the methods of the path, where the call is refused by its method (RFC 9110, section 10.2.1)
abbrev pub methods_for : Result StateCall Code → List ℕ → Option (List ℕ)
methods_for (Err Method) path = methods_at (segments_in path)
methods_for call path = None
