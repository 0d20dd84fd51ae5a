use Rattle.std.proofs.Common.{length, map, ap, [], ◌∙◌}
use Rattle.std.proofs.lemmas.List.{length-map}
use Rattle.mds_request.specs.Configuration.{configuration}
use Rattle.journal_entry.specs.Entries.{entry_of}
use Rattle.journal_compaction.specs.Kinds.{kind_of}
use Rattle.journal_compaction.specs.Staying.{staying}
use Rattle.journal_compaction.proofs.Loops.{length_staying}
use Rattle.journal_compaction.proofs.compacting.compact_entries.Goals as goal

pub marked_entries-requires : goal.marked_entries-requires
marked_entries-requires c =
    let entries = map entry_of c.args.entries.now in
    let kinds = map (kind_of (configuration c.args.config.now)) entries in
    ap length (c.deref-2.ensures.value ∙ c.in_ok-marks.ensures ∙ ap (staying []) (c.deref.ensures.value ∙ c.in_ok-kinds.ensures))
    ∙ length_staying [] kinds ∙ length-map entries (kind_of (configuration c.args.config.now)) ∙ length-map c.args.entries.now entry_of
