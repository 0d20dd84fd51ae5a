use mathlib.Core.List.{IsPrefix}
use Rattle.std.proofs.Common.{◌≡◌, List, [], ◌∷◌, ◌++◌, refl, sym, subst}
use Rattle.mds_catalog.specs.Publication.{Publication}
use Rattle.mds_drafts.specs.Drafts.{Drafts}
use Rattle.mds_machine.specs.Step.{Exchange, new_state}
use Rattle.mds_request.specs.Configuration.{Configuration}
use Rattle.mds_machine.specs.Fronts.{Turn, last_front}
use Rattle.mds_machine.specs.Room.{AreRoomTurns}
use Rattle.mds_machine.proofs.Views.{prefix_on}
use Rattle.journal_laws.proofs.Servers.{joined}
use Rattle.journal_laws.proofs.laws.is_one_server.Goals as goal

room_on : (configuration : Configuration) (first between after : Drafts × List Publication) (told later : List Exchange)
    → AreRoomTurns configuration first told between → AreRoomTurns configuration between later after
    → AreRoomTurns configuration first (told ++ later) after
room_on configuration first between after [] later are on = subst (λ (h : Drafts × List Publication). AreRoomTurns configuration h later after) are on
room_on configuration first between after (e ∷ told) later are on = (are.0, are.1, room_on configuration are.0 between after told later are.2 on)

last_of : (known other publications : List Publication) (later : List Turn) → IsPrefix known other
    → IsPrefix (last_front other later) publications → IsPrefix (last_front known later) publications
last_of known other publications [] front last = prefix_on known other publications front last
last_of known other publications (turn ∷ later) front last = last

last_on : (known : List Publication) (told later : List Turn) → last_front known (told ++ later) ≡ last_front (last_front known told) later
last_on known [] later = refl
last_on known (turn ∷ told) later = last_on turn.front told later

pub returns : goal.returns
returns c = λ configuration told later before publications told_turns later_turns drafts served room desks. record {
  drafts = drafts;
  room = room_on configuration ((new_state configuration).drafts, []) (served.drafts, before) (drafts, publications) told later served.room room;
  desks = λ place operator is.
      let old = served.desks place operator is in
      let d = desks place operator is in (
        d.1,
        joined configuration place operator [] d.0 _ old.0 d.1 (told_turns place) (later_turns place) old.1 d.2 d.3,
        subst (λ (front : List Publication). IsPrefix front publications) (sym (last_on [] (told_turns place) (later_turns place)))
            (last_of (last_front [] (told_turns place)) d.0 publications (later_turns place) d.2 d.4),
      );
}
