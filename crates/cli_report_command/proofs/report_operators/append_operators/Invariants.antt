use Rattle.std.proofs.Common.{◌<◌, length}
use Rattle.std.specs.Prelude.{All}
use Rattle.mds_request.specs.Configuration.{configuration}
use Rattle.cli_report_command.proofs.report_operators.append_operators.Given as goal

-- those that are left are operators of the configuration
abbrev pub invariant-rounds : goal.invariant-rounds
invariant-rounds g l = All (λ place. place < length (configuration l.source.config.now).operators) l.left

abbrev pub decreases-rounds : goal.decreases-rounds
decreases-rounds g l = length l.left
