use Rattle.std.proofs.Common.{◌-◌, map, take}
use Rattle.mds_fleet.specs.Books.{report_document}
use Rattle.journal_laws.specs.Compaction.{ThinsTo}
use Rattle.journal_laws.proofs.compaction.reports_to_keep.Given as goal

abbrev pub invariant-loop-place : goal.invariant-loop-place
invariant-loop-place l = ThinsTo (map report_document (take l.place l.reports)) l.begun (l.place - 1)
