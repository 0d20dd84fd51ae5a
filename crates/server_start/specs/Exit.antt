-- How the program ends after a fault.
use Rattle.std.specs.Prelude.{ℕ, List, codes, is_some, if◌then◌else◌}
use Rattle.mds_request.specs.declared.fault.ConfigFault.{ConfigFault}
use Rattle.mds_request.specs.Fault.{config_cause}
use Rattle.server_start.specs.declared.fault.ServeFault.{ServeFault}
use Rattle.server_start.specs.declared.fault.ServeFault.TheVariants.{Usage, BadConfig, NotOpened, NoListener}

-- the fault of a first line that gives no configuration: it is none, or memory ran out
abbrev pub fault_of : ConfigFault → ServeFault
fault_of fault = if is_some (config_cause fault) then BadConfig else NotOpened

-- the line on standard error
abbrev pub message_of : ServeFault → List ℕ
message_of Usage = codes "serve: usage"
message_of BadConfig = codes "serve: bad configuration"
message_of NotOpened = codes "serve: not opened"
message_of NoListener = codes "serve: no listener"

-- the exit status
abbrev pub exit_status : ServeFault → ℕ
exit_status NoListener = 1
exit_status NotOpened = 3
exit_status fault = 2
