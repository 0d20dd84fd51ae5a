-- Laws of the machine's steps, and of its drafts and publications.
use Rattle.std.specs.Prelude.{◌≡◌, ◌≢◌, ℕ, List, ◌++◌}
use Rattle.mds_text.specs.declared.draft_kind.DraftKind.{DraftKind}
use Rattle.mds_drafts.specs.Drafts.{draft_at}
use Rattle.mds_request.specs.Configuration.{Configuration, Operator as Configured, actor_of}
use Rattle.mds_request.specs.Request.{Request}
use Rattle.mds_request.specs.Reply.{Reply, refused}
use Rattle.mds_request.specs.declared.config.Actor.TheVariants.{Author, Operator}
use Rattle.mds_request.specs.declared.code.Code.TheVariants.{NoMemory}
use Rattle.mds_machine.specs.History.{draft_after, publications_after}
use Rattle.mds_machine.specs.Isolation.{Agree, AreKeyed}
use Rattle.mds_machine.specs.Meaning.{IsAnswer}
use Rattle.mds_machine.specs.Step.{State, Exchange, Step, Run, new_state}
use Rattle.mds_machine.specs.Views.{Seen}

-- every request has a possible reply
abbrev pub IsTotal : Type 0
IsTotal = (w : State) (request : Request) → (reply : Reply) × (next : State) × Step w request reply next

-- apart from running out of memory, a request has only one possible reply and only one next state
abbrev pub IsDetermined : Type 0
IsDetermined =
    (w : State) (request : Request) (reply other : Reply) (next apart : State)
    → Step w request reply next → Step w request other apart → reply ≢ refused NoMemory → other ≢ refused NoMemory
    → (reply ≡ other) × (next ≡ apart)

-- a reply other than a success doesn't change the state
abbrev pub RefusedLeaves : Type 0
RefusedLeaves =
    (w : State) (request : Request) (reply : Reply) (next : State)
    → Step w request reply next → reply.status ≢ 200 → next ≡ w

-- a reply with the status 503 says that memory ran out
abbrev pub MemoryAloneIsUnavailable : Type 0
MemoryAloneIsUnavailable =
    (w : State) (request : Request) (reply : Reply) (next : State)
    → Step w request reply next → reply.status ≡ 503 → reply ≡ refused NoMemory

-- a request of an operator keeps the drafts, and leads to a state that agrees with the old one for every other operator
abbrev pub LeavesOthers : Type 0
LeavesOthers =
    (w : State) (request : Request) (reply : Reply) (next : State) (place other : ℕ)
    → actor_of w.configuration request.token ≡ Operator place → Step w request reply next → other ≢ place
    → Agree next w other × (next.drafts ≡ w.drafts)

-- a request of the author changes no rows
abbrev pub LeavesRows : Type 0
LeavesRows =
    (w : State) (request : Request) (reply : Reply) (next : State)
    → actor_of w.configuration request.token ≡ Author → Step w request reply next → next.fleets ≡ w.fleets

-- after each view there is exactly one answer to a request
abbrev pub HasOneAnswer : Type 0
HasOneAnswer =
    (configuration : Configuration) (operator : Configured) (seen : List Seen) (request : Request)
    → ((reply : Reply) × IsAnswer configuration operator seen request reply)
    × ((reply other : Reply) → IsAnswer configuration operator seen request reply → IsAnswer configuration operator seen request other → reply ≡ other)

-- The state after a history, by the history alone: the drafts and the publications are what was put, dropped and
-- published with success in it.
pub record IsAfter (w : State) (history : List Exchange) (next : State) : Type 0 where
  pub configuration : next.configuration ≡ w.configuration
  pub publications : next.publications ≡ w.publications ++ publications_after w.configuration w.drafts history
  pub drafts : (kind : DraftKind) (id : List ℕ) → draft_at next.drafts kind id ≡ draft_after w.configuration w.drafts history kind id
  pub keyed : AreKeyed next.drafts

-- the machine's drafts and publications after a history are those of the history
abbrev pub GoesByHistory : Type 0
GoesByHistory = (w next : State) (history : List Exchange) → AreKeyed w.drafts → Run w history next → IsAfter w history next

-- in a new machine each draft, of which there are none, has its own identifier as its key
abbrev pub BeginsKeyed : Type 0
BeginsKeyed = (configuration : Configuration) → AreKeyed (new_state configuration).drafts
