use Rattle.std.proofs.Common.{◌≡◌, map, take}
use Rattle.mds_text.specs.View.{view}
use Rattle.mds_verdict.specs.Verdict.{printed_id}
use Rattle.mds_verdict.proofs.report.devices_tree.Given as goal

abbrev pub invariant-loop-device : goal.invariant-loop-device
invariant-loop-device l = map view l.entries.items ≡ map printed_id (take l.device-index l.devices)
