-- The first steps of a server are a beginning of what it did.
use mathlib.Core.List.{IsPrefix}
use Rattle.std.proofs.Common.{◌≡◌, ◌==◌, ℕ, Bool, true, false, cond, List, [], ◌∷◌, ◌++◌, refl, sym, ap}
use Rattle.mds_catalog.specs.Publication.{Publication}
use Rattle.mds_request.specs.Configuration.{Configuration}
use Rattle.mds_machine.specs.Fronts.{Turn, last_front}
use Rattle.mds_machine.specs.Room.{AreRoomTurns}
use Rattle.mds_machine.specs.Step.{Exchange}
use Rattle.mds_desk.specs.Room.{held_in}
use Rattle.journal_recovery.specs.Owners.{AreOrdered, FirstStepsAreABeginning, WorkStep, at_desk, at_room, exchanges_at, turns_at}
use Rattle.journal_recovery.proofs.Answered.{prefix_on}
use Rattle.journal_recovery.proofs.Owners.{Held, turn_rises}

exchanges_both : (first rest : List WorkStep) → exchanges_at (first ++ rest) ≡ exchanges_at first ++ exchanges_at rest
exchanges_both [] rest = refl
exchanges_both (at_room e ∷ first) rest = ap (λ (es : List Exchange). e ∷ es) (exchanges_both first rest)
exchanges_both (at_desk place turn ∷ first) rest = exchanges_both first rest

turn_both : (b : Bool) (turn : Turn) (all first rest : List Turn) → all ≡ first ++ rest
    → cond b (turn ∷ all) all ≡ cond b (turn ∷ first) first ++ rest
turn_both true turn all first rest is = ap (λ (turns : List Turn). turn ∷ turns) is
turn_both false turn all first rest is = is

turns_both : (first rest : List WorkStep) (place : ℕ) → turns_at (first ++ rest) place ≡ turns_at first place ++ turns_at rest place
turns_both [] rest place = refl
turns_both (at_room e ∷ first) rest place = turns_both first rest place
turns_both (at_desk other turn ∷ first) rest place =
    turn_both (place == other) turn (turns_at (first ++ rest) place) (turns_at first place) (turns_at rest place) (turns_both first rest place)

-- what these steps left has the fronts of their turns
abbrev Leaves : Configuration → Held → List WorkStep → Type 0
Leaves c held steps =
    (after : Held) × AreRoomTurns c held (exchanges_at steps) after
    × ((known : List Publication) (place : ℕ) → IsPrefix known held.1 → IsPrefix (last_front known (turns_at steps place)) after.1)

turn_within : (b : Bool) (turn : Turn) (turns : List Turn) (known shown left : List Publication) → IsPrefix turn.front shown → IsPrefix known shown
    → ((known : List Publication) → IsPrefix known shown → IsPrefix (last_front known turns) left)
    → IsPrefix (last_front known (cond b (turn ∷ turns) turns)) left
turn_within true turn turns known shown left front knows rest = rest turn.front front
turn_within false turn turns known shown left front knows rest = rest known knows

first_leave : (c : Configuration) (held : Held) (first rest : List WorkStep) → AreOrdered c held (first ++ rest) → Leaves c held first
first_leave c held [] rest ordered = (held, refl, λ known place knows. knows)
first_leave c held (at_room e ∷ first) rest ordered =
    let on = first_leave c ordered.0 first rest ordered.2 in (
      on.0,
      (ordered.0, ordered.1, on.1),
      λ known place knows.
          on.2 known place (prefix_on known held.1 ordered.0.1 knows (turn_rises c held e.request e.reply ordered.0 ordered.1)),
    )
first_leave c held (at_desk other turn ∷ first) rest ordered =
    let on = first_leave c held first rest ordered.1 in (
      on.0,
      on.1,
      λ known place knows.
          turn_within (place == other) turn (turns_at first place) known held.1 on.0.1 ordered.0 knows (λ more its. on.2 more place its),
    )

pub first_steps : FirstStepsAreABeginning
first_steps c s first rest publications ordered knows =
    let left = first_leave c (held_in s.room) first rest ordered in (
      left.0.1,
      record {
        order = record {
          exchanges = (exchanges_at rest, sym (exchanges_both first rest));
          turns = λ place. (turns_at rest place, sym (turns_both first rest place));
        };
        published = (left.0.0, left.1);
        within = λ place operator d is there. left.2 d.known place (knows place d there);
      },
    )
