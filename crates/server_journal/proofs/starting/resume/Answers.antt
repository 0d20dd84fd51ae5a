use Rattle.std.proofs.Common.{map, ap, ◌∙◌}
use Rattle.mds_request.specs.Configuration.{configuration}
use Rattle.journal_entry.specs.Entries.{entry_of}
use Rattle.journal_folder.specs.Choosing.{without}
use Rattle.journal_recovery.specs.Recovery.{server_of}
use Rattle.server_journal.proofs.Starts.{if_ok, texts_of, started_from}
use Rattle.server_journal.proofs.starting.resume.Goals as goal

pub returns : goal.returns
returns g c =
    let of = configuration c.args.config in
    let dropped = c.args.dropped.now in
    let all = c.in-Ok-entries_in.all.items in
    let left = ap (map entry_of) c.deref-2.ensures.value
    ∙ (c.in-Ok-without_operators.ensures ∙ ap (λ es. without dropped (map entry_of es)) c.deref.ensures.value) in
    if_ok _ _ c.replay_entries.result
    (λ r again. started_from of dropped (map (λ t. t.items) c.args.texts.now)
    (map (λ t. t.items) c.in-Ok.rest.now) (map entry_of all) _
    (server_of r.0 r.1.items) c.in-Ok.ensures (texts_of all ∙ c.in-Ok-entries_in.ensures.texts) c.in-Ok-entries_in.ensures.each left again)
    c.replay_entries.ensures
