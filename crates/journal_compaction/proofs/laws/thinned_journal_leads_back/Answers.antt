use mathlib.Core.List.{IsPrefix}
use Rattle.std.proofs.Common.{List, [], ap, subst, sym, ◌∙◌}
use Rattle.mds_catalog.specs.Publication.{Publication}
use Rattle.journal_laws.specs.Persisted.{AreSuccesses, requests_in}
use Rattle.mds_desk.specs.Desk.{new_desk}
use Rattle.journal_recovery.specs.Laws.{new_server}
use Rattle.journal_recovery.proofs.Answered.{prefix_self}
use Rattle.journal_recovery.proofs.Lists.{both}
use Rattle.journal_recovery.proofs.New.{new_at, new_is}
use Rattle.journal_compaction.specs.Changes.{journal_after}
use Rattle.journal_compaction.proofs.laws.thinned_journal_leads_back.Goals as goal

pub returns : goal.returns
returns c = λ configuration changes next unlike are told before told_turns served journal.
    let entries = journal_after configuration [] changes in
    let all = c.replayed_are_turns.ensures configuration entries (new_server configuration) next (new_is configuration) are in
    let room = all.1 in
    let asked = room.asked ∙ c.authors_entries_stay.ensures configuration changes ∙ journal.author in
    let back = c.room_is_recovered.ensures configuration told room.history served.drafts next.room.drafts before next.room.publications served.room room.turns
    (subst AreSuccesses (sym room.own) room.served, ap requests_in room.own ∙ asked) in (
      both next.room.drafts served.drafts next.room.publications before back.0 back.1,
      λ place operator is.
          let own = served.desks place operator is in
          let desk = all.2 place operator (new_desk configuration place) is (new_at configuration place operator is) in
          let rows = c.desk_is_recovered_from_journal.ensures configuration place operator changes (told_turns place) desk.turns own.0 desk.after.rows unlike
          (record { known = []; are = own.1; persisted = journal.operators place operator is })
          (record { known = []; are = desk.are; served = desk.served; asked = desk.asked }) in (
            desk.after,
            desk.there,
            rows,
            subst (λ (l : List Publication). IsPrefix l desk.after.known) back.1 (desk.knows (prefix_self [])),
          ),
    )
