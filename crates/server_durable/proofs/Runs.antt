-- Runs of turns of one desk, one after another.
use mathlib.Core.List.{IsPrefix}
use Rattle.std.proofs.Common.{◌≡◌, ℕ, List, [], ◌∷◌, ◌++◌, Option, Some, None, refl, sym, ap, subst, ◌∙◌}
use Rattle.std.specs.List.{slice_get}
use Rattle.std.proofs.lemmas.List.{map-append}
use Rattle.mds_catalog.specs.Publication.{Publication}
use Rattle.mds_fleet.specs.Books.{Rows}
use Rattle.mds_request.specs.Configuration.{Configuration, Operator}
use Rattle.mds_request.specs.Request.{Request}
use Rattle.mds_request.specs.Reply.{Reply}
use Rattle.mds_machine.specs.Desks.{IsRun}
use Rattle.mds_machine.specs.Fronts.{Turn, last_front, replies_in, requests_in}
use Rattle.mds_machine.proofs.Runs.{turns_are_joined, turns_are_meant}
use Rattle.mds_machine.proofs.Views.{last_on, prefix_self}
use Rattle.mds_desk.specs.Desk.{DeskState, IsSameDesk, TakesRun}
use Rattle.server_state.specs.Turn.{IsTold, TakesToldRun}

-- a note leaves it the same desk, with its rows, and it knows no less
pub same_told : (d : DeskState) (note : Option (List Publication)) (told : DeskState) → IsTold d note told → IsSameDesk d told
same_told d None told is = record { configuration = ap (λ s. s.configuration) is; place = ap (λ s. s.place) is }
same_told d (Some list) told learns = learns.same

pub rows_told : (d : DeskState) (note : Option (List Publication)) (told : DeskState) → IsTold d note told → told.rows ≡ d.rows
rows_told d None told is = ap (λ s. s.rows) is
rows_told d (Some list) told learns = learns.rows

known_told : (d : DeskState) (note : Option (List Publication)) (told : DeskState) → IsTold d note told → IsPrefix d.known told.known
known_told d None told is = subst (IsPrefix d.known) (sym (ap (λ s. s.known) is)) (prefix_self d.known)
known_told d (Some list) told learns = learns.kept

-- after a turn the last front is the same, wherever one began
last_same : (a b : List Publication) (turns : List Turn) (request : Request) (more : List Request) → requests_in turns ≡ request ∷ more
    → last_front a turns ≡ last_front b turns
last_same a b [] request more is = absurd cc
last_same a b (turn ∷ turns) request more is = refl

-- a run, and after it one that begins with what is known then
run_on : (configuration : Configuration) (place : ℕ) (operator : Operator) (known met learnt : List Publication) (rows between after : Rows)
    (requests : List Request) (replies : List Reply) (request : Request) (more : List Request) (others : List Reply) (last : List Publication)
    → IsRun configuration place operator known rows requests replies met between → IsPrefix met learnt
    → IsRun configuration place operator learnt between (request ∷ more) others last after
    → IsRun configuration place operator known rows (requests ++ request ∷ more) (replies ++ others) last after
run_on configuration place operator known met learnt rows between after requests replies request more others last first begins then =
    let turns = first.turns ++ then.turns in
    let are = turns_are_joined configuration place operator known learnt rows between after first.turns then.turns first.are
    (subst (λ (l : List Publication). IsPrefix l learnt) first.last begins) then.are in
    let meant = turns_are_meant configuration place operator known rows after turns are in
    record {
      turns = turns;
      asks = map-append (λ turn. turn.request) first.turns then.turns ∙ ap (λ rs. rs ++ requests_in then.turns) first.asks ∙ ap (λ rs. requests ++ rs) then.asks;
      tells = map-append (λ turn. turn.reply) first.turns then.turns ∙ ap (λ rs. rs ++ replies_in then.turns) first.tells ∙ ap (λ rs. replies ++ rs) then.tells;
      are = are;
      rising = meant.0;
      meant = meant.1;
      last =
          then.last ∙ last_same learnt (last_front known first.turns) then.turns request more then.asks
          ∙ sym (last_on known first.turns then.turns);
    }

-- the same of a desk that learns a note before the second run
pub desk_run_on : (d between next : DeskState) (note : Option (List Publication)) (requests : List Request) (replies : List Reply) (request : Request)
    (more : List Request) (others : List Reply) → TakesRun d requests replies between → TakesToldRun between note (request ∷ more) others next
    → TakesRun d (requests ++ request ∷ more) (replies ++ others) next
desk_run_on d between next note requests replies request more others first then =
    let told = then.told in
    let met = same_told between note told then.learns in
    let same : IsSameDesk d told =
    record { configuration = met.configuration ∙ first.same.configuration; place = met.place ∙ first.same.place } in
    record {
      same = record { configuration = then.run.same.configuration ∙ same.configuration; place = then.run.same.place ∙ same.place };
      run = λ operator found.
          let there : slice_get told.configuration.operators told.place ≡ Some operator =
          ap (λ (c : Configuration). slice_get c.operators told.place) same.configuration ∙ ap (slice_get d.configuration.operators) same.place ∙ found in
          let own : IsRun d.configuration d.place operator told.known told.rows (request ∷ more) others next.known next.rows =
          subst (λ (c : Configuration). IsRun c d.place operator told.known told.rows (request ∷ more) others next.known next.rows) same.configuration
          (subst (λ (p : ℕ). IsRun told.configuration p operator told.known told.rows (request ∷ more) others next.known next.rows) same.place
          (then.run.run operator there)) in
          run_on d.configuration d.place operator d.known between.known told.known d.rows between.rows next.rows requests replies request more others next.known
          (first.run operator found) (known_told between note told then.learns)
          (subst (λ (rows : Rows). IsRun d.configuration d.place operator told.known rows (request ∷ more) others next.known next.rows)
          (rows_told between note told then.learns) own);
    }
