-- The result of a turn at a desk.
use Rattle.std.proofs.Common.{ℕ, List, Option, Some, None, Result, Ok, Err, IfOk, ap, ◌∙◌}
use Rattle.mds_catalog.specs.Publication.{Publication}
use Rattle.mds_request.specs.Configuration.{Configuration}
use Rattle.mds_request.specs.Request.{Request}
use Rattle.mds_request.specs.Reply.{Reply}
use Rattle.mds_desk.specs.Desk.{DeskState, IsSameDesk}
use Rattle.server_state.specs.Query.{DeskTells, Looks}
use Rattle.server_state.specs.Turn.{DeskReplies, DeskRuns, IsDeskAt, IsTold, TakesToldRun, TakesToldTurn}

-- a desk that learns a note stays the same desk
pub same_told : (d : DeskState) (note : Option (List Publication)) (told : DeskState) → IsTold d note told → IsSameDesk d told
same_told d None told is = record { configuration = ap (λ s. s.configuration) is; place = ap (λ s. s.place) is }
same_told d (Some list) told learns = learns.same

-- what holds of each response holds of a result that has one
pub of_ok : {R E : Type 0} {P Q : R → Type 0} (result : Result R E) → ((r : R) → P r → Q r) → IfOk result P → IfOk result Q
of_ok (Ok r) imply p = imply r p
of_ok (Err e) imply p = tt

-- a turn of the desk of the operator at this index gives its reply
pub desk_replies : (configuration : Configuration) (place : ℕ) (d : DeskState) (note : Option (List Publication)) (request : Request)
    (reply : Reply) (next : DeskState) → IsDeskAt configuration place d → TakesToldTurn d note request reply next → DeskReplies configuration place request reply
desk_replies configuration place d note request reply next its takes =
    let same = same_told d note takes.told takes.learns in
    record {
      before = takes.told;
      after = next;
      is_its = record { configured = same.configuration ∙ its.configured; placed = same.place ∙ its.placed };
      turn = takes.turn;
    }

-- a run of turns of the desk of the operator at this index gives its replies
pub desk_runs : {E : Type 0} {V : Type 0} (items : V → List Reply) (configuration : Configuration) (place : ℕ) (d : DeskState) (note : Option (List Publication))
    (requests : List Request) (result : Result V E) (next : DeskState) → IsDeskAt configuration place d
    → IfOk result (λ replies. TakesToldRun d note requests (items replies) next) → IfOk result (λ replies. DeskRuns configuration place requests (items replies))
desk_runs items configuration place d note requests result next its takes =
    of_ok result (λ replies run.
    let same = same_told d note run.told run.learns in
    record {
      before = run.told;
      after = next;
      is_its = record { configured = same.configuration ∙ its.configured; placed = same.place ∙ its.placed };
      run = run.run;
    }) takes

-- the answer to a query at the front of a look of the desk of the operator at this index
pub desk_tells : {T E : Type 0} (configuration : Configuration) (place : ℕ) (d : DeskState) (note : Option (List Publication)) (next : DeskState)
    (tells : List Publication → T → Type 0) (result : Result T E) → IsDeskAt configuration place d → Looks d note next
    → IfOk result (tells next.known) → IfOk result (DeskTells configuration place tells)
desk_tells configuration place d note next tells result its looks all =
    let same = same_told d note looks.told looks.learns in
    of_ok result (λ told is.
    record {
      before = looks.told;
      after = next;
      is_its = record { configured = same.configuration ∙ its.configured; placed = same.place ∙ its.placed };
      learnt = looks.learnt;
      tells = is;
    }) all
