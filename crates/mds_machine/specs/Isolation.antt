-- Isolation: an operator's replies in a history depend on what the operator sees of the history, and on nothing else.
use Rattle.std.specs.Prelude.{◌≡◌, ◌≢◌, ◌==◌, ℕ, Bool, ◌&&◌, not, List, ◌∷◌, ◌++◌, map, filter, true, Some, slice_get}
use Rattle.mds_text.specs.declared.draft_kind.DraftKind.{DraftKind}
use Rattle.mds_drafts.specs.Drafts.{Drafts, Document, draft_at, id_of}
use Rattle.mds_request.specs.Configuration.{Configuration, Operator}
use Rattle.mds_request.specs.Reply.{Reply, refused}
use Rattle.mds_request.specs.declared.code.Code.TheVariants.{NoMemory}
use Rattle.mds_machine.specs.Meaning.{IsAnswer, Shows}
use Rattle.mds_machine.specs.Step.{State, Exchange, Run, new_state}
use Rattle.mds_machine.specs.Views.{Seen, is_of, view}

-- two states agree for an operator: in the configuration, in the publications, and in that operator's rows
pub record Agree (w v : State) (place : ℕ) : Type 0 where
  pub configuration : w.configuration ≡ v.configuration
  pub publications : w.publications ≡ v.publications
  pub rows : slice_get w.fleets place ≡ slice_get v.fleets place

-- each draft has its own identifier as its key
abbrev pub AreKeyed : Drafts → Type 0
AreKeyed drafts =
    (kind : DraftKind) (id : List ℕ) (document : Document)
    → draft_at drafts kind id ≡ Some document → id_of document ≡ id

-- an exchange in a history, after those before it
abbrev pub StandsAfter : List Exchange → Exchange → List Exchange → Type 0
StandsAfter before e history = (rest : List Exchange) × (history ≡ before ++ e ∷ rest)

-- a request of an operator that was answered 503, as where memory runs out
abbrev pub is_unserved : Configuration → ℕ → Exchange → Bool
is_unserved configuration place e = is_of configuration place e.request && (e.reply.status == 503)

-- a history without such requests of an operator, which leave no trace in it
abbrev pub served_for : Configuration → ℕ → List Exchange → List Exchange
served_for configuration place history = filter (λ e. not (is_unserved configuration place e)) history

-- no request of an operator was refused because memory ran out
abbrev pub HasMemory : Configuration → ℕ → List Exchange → Type 0
HasMemory configuration place history =
    (before : List Exchange) (e : Exchange)
    → StandsAfter before e history → is_of configuration place e.request ≡ true → e.reply ≢ refused NoMemory

-- the replies to an operator's requests, in order
abbrev pub replies_to : Configuration → ℕ → List Exchange → List Reply
replies_to configuration place history = map (λ e. e.reply) (filter (λ e. is_of configuration place e.request) history)

-- Two histories. Take any other history, from a state that agrees for an operator and whose drafts have their own
-- identifiers as keys, as a machine's always have. If what the operator sees of both is the same, but for its requests
-- that were answered 503, the replies to the others are the same and the states afterwards agree for it, whatever
-- drafts and requests of others there are in them.
abbrev pub IsIsolatedFrom : State → List Exchange → State → Type 0
IsIsolatedFrom w history next =
    (v apart : State) (other : List Exchange) (place : ℕ) →
    let served = served_for w.configuration place history in
    let others = served_for v.configuration place other in
    AreKeyed v.drafts → Agree w v place → Run v other apart
    → view w.configuration w.drafts served place ≡ view v.configuration v.drafts others place
    → (replies_to w.configuration place served ≡ replies_to v.configuration place others) × Agree next apart place

-- Meaning. Take any view whose publications, and whose rows of an operator, are those of the initial state, and leave
-- out the operator's requests that were answered 503. Each other reply to it is the answer that this view defines,
-- followed by what the operator has seen of the history before; and the publications and the operator's rows afterwards
-- are those of all that it has seen.
abbrev pub IsMeantFrom : State → List Exchange → State → Type 0
IsMeantFrom w history next =
    (place : ℕ) (operator : Operator) (seen : List Seen) →
    let served = served_for w.configuration place history in
    slice_get w.configuration.operators place ≡ Some operator
    → Shows w.configuration operator place seen w
    → ((before : List Exchange) (e : Exchange) → StandsAfter before e served → is_of w.configuration place e.request ≡ true
    → IsAnswer w.configuration operator (seen ++ view w.configuration w.drafts before place) e.request e.reply)
    × Shows w.configuration operator place (seen ++ view w.configuration w.drafts served place) next

-- This holds in each history of the machine.
abbrev pub IsIsolatedThroughout : Type 0
IsIsolatedThroughout =
    (w next : State) (history : List Exchange) → AreKeyed w.drafts → Run w history next → IsIsolatedFrom w history next

abbrev pub IsMeantThroughout : Type 0
IsMeantThroughout =
    (w next : State) (history : List Exchange) → AreKeyed w.drafts → Run w history next → IsMeantFrom w history next

-- In a history from a new machine, an operator's answers are those that its view of the history alone defines, without
-- its requests that were answered 503.
abbrev pub IsMeantFromNew : Type 0
IsMeantFromNew =
    (configuration : Configuration) (next : State) (history : List Exchange) (place : ℕ) (operator : Operator)
    → Run (new_state configuration) history next → slice_get configuration.operators place ≡ Some operator
    → (before : List Exchange) (e : Exchange) → StandsAfter before e (served_for configuration place history)
    → is_of configuration place e.request ≡ true
    → IsAnswer configuration operator (view configuration (new_state configuration).drafts before place) e.request e.reply
