use Rattle.std.proofs.Common.{List, [], subst}
use Rattle.mds_catalog.specs.Publication.{Publication}
use Rattle.mds_drafts.specs.Drafts.{Drafts}
use Rattle.mds_fleet.specs.Books.{Rows}
use Rattle.mds_machine.specs.Desks.{AreTurns}
use Rattle.mds_machine.specs.Fronts.{last_front}
use Rattle.mds_machine.specs.Room.{AreRoomTurns}
use Rattle.journal_recovery.proofs.Answered.{prefix_on}
use Rattle.journal_compaction.proofs.laws.goes_on_from_thinned.Goals as goal

pub returns : goal.returns
returns c = λ configuration changes s unlike are told later before publications told_turns later_turns served journal on.
    let back = c.thinned_journal_leads_back.ensures configuration changes s unlike are told before told_turns served journal in
    let room = subst (λ (h : Drafts × List Publication). AreRoomTurns configuration h later (on.drafts, publications)) back.0 on.room in
    c.is_one_server.ensures configuration told later before publications told_turns later_turns on.drafts served room
    (λ place operator is.
    let own = served.desks place operator is in
    let desk = back.1 place operator is in
    let after = on.desks place operator desk.0 is desk.1 in (
      desk.0.known,
      after.0,
      prefix_on (last_front [] (told_turns place)) before desk.0.known own.2 desk.3,
      subst (λ (r : Rows). AreTurns configuration place operator desk.0.known r (later_turns place) after.0) desk.2 after.1,
      after.2,
    ))
