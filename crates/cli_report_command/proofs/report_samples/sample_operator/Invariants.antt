use Rattle.std.proofs.Common.{◌≡◌, ◌≤◌, ◌++◌, map, drop, length}
use Rattle.mds_request.specs.Configuration.{configuration}
use Rattle.journal_entry.specs.Entries.{entry_of}
use Rattle.journal_samples.specs.Standing.{new_standing}
use Rattle.cli_report_command.specs.Reports.{samples_told}
use Rattle.cli_report_command.proofs.report_samples.sample_operator.Given as goal

-- the samples so far stand before what the journals that are left tell of the moments that are left
abbrev pub invariant-loop-number : goal.invariant-loop-number
invariant-loop-number l = record {
  within : l.done ≤ length l.moments;
  told : l.found.samples.items ++ samples_told (new_standing (configuration l.config) l.place) (map (λ j. map entry_of j.entries.items) (drop l.number l.journals)) (drop l.done l.moments)
      ≡ samples_told (new_standing (configuration l.config) l.place) (map (λ j. map entry_of j.entries.items) l.journals) l.moments;
}
