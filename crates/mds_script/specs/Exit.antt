-- How the program ends after a fault.
use Rattle.std.specs.Prelude.{ℕ, List, codes, is_some, if◌then◌else◌}
use Rattle.mds_request.specs.Fault.{config_cause}
use Rattle.mds_request.specs.declared.fault.ConfigFault.{ConfigFault}
use Rattle.mds_script.specs.declared.fault.ReplayFault.{ReplayFault}
use Rattle.mds_script.specs.declared.fault.ReplayFault.TheVariants.{Read, Write, BadConfig, NoMemory}

-- the fault of a first line that isn't read: it is no configuration, or memory ran out
abbrev pub fault_of : ConfigFault → ReplayFault
fault_of fault = if is_some (config_cause fault) then BadConfig else NoMemory

-- the line on standard error
abbrev pub message_of : ReplayFault → List ℕ
message_of Read = codes "replay: read fault"
message_of Write = codes "replay: write fault"
message_of BadConfig = codes "replay: bad configuration"
message_of NoMemory = codes "replay: no memory"

-- the exit status
abbrev pub exit_status : ReplayFault → ℕ
exit_status BadConfig = 2
exit_status NoMemory = 3
exit_status fault = 1
