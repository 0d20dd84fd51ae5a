-- The author's room: one turn, and turns one after another.
use Rattle.std.specs.Prelude.{◌≡◌, Bool, true, false, List, [], ◌∷◌, filter, if◌then◌else◌, Result, Ok, Err}
use Rattle.mds_catalog.specs.Publication.{Publication}
use Rattle.mds_drafts.specs.Drafts.{Drafts}
use Rattle.mds_request.specs.Call.{call_of}
use Rattle.mds_request.specs.Configuration.{Configuration, actor_of}
use Rattle.mds_request.specs.Request.{Request}
use Rattle.mds_request.specs.Reply.{Reply}
use Rattle.mds_request.specs.declared.call.AuthorCall.{AuthorCall}
use Rattle.mds_request.specs.declared.call.Call.{Call}
use Rattle.mds_request.specs.declared.call.Call.TheVariants.{Author, Operator as OperatorAt}
use Rattle.mds_request.specs.declared.code.Code.{Code}
use Rattle.mds_request.specs.declared.code.Code.TheVariants.{Role}
use Rattle.mds_request.specs.declared.config.Actor.{Actor}
use Rattle.mds_request.specs.declared.config.Actor.TheVariants as actor
use Rattle.mds_machine.specs.Answer.{Gives, ◌>>=◌}
use Rattle.mds_machine.specs.Author.{author_does}
use Rattle.mds_machine.specs.Step.{Exchange}
use Rattle.mds_machine.specs.Desks.{refusal_of}

abbrev pub is_the_author : Actor → Bool
is_the_author actor.Author = true
is_the_author other = false

-- the request has the author's token
abbrev pub is_authors : Configuration → Request → Bool
is_authors configuration request = is_the_author (actor_of configuration request.token)

-- the author's own call; a call of an operator is none, and no request of the author has one
abbrev pub authors_call : Call → Result AuthorCall Code
authors_call (Author call) = Ok call
authors_call (OperatorAt place call) = Err Role

-- The room, with these drafts and publications: what the author calls for; a request with any other token is refused.
abbrev pub room_does : Configuration → Drafts × List Publication → Request → Result (Reply × (Drafts × List Publication)) Code
room_does configuration held request =
    if is_authors configuration request then (call_of configuration request >>= authors_call >>= λ call. author_does held.0 held.1 call request)
    else Err (refusal_of (call_of configuration request))

abbrev pub IsAuthorsCall : Configuration → Request → Type 0
IsAuthorsCall configuration request = (call : AuthorCall) × (call_of configuration request ≡ Ok (Author call))

-- one turn of the room; memory may run out for a call of the author
abbrev pub IsRoomTurn : Configuration → Drafts × List Publication → Request → Reply → Drafts × List Publication → Type 0
IsRoomTurn configuration held request reply after =
    Gives (IsAuthorsCall configuration request) held (room_does configuration held request) reply after

-- turns one after another
abbrev pub AreRoomTurns : Configuration → Drafts × List Publication → List Exchange → Drafts × List Publication → Type 0
AreRoomTurns configuration held [] after = after ≡ held
AreRoomTurns configuration held (e ∷ history) after =
    (between : Drafts × List Publication) × IsRoomTurn configuration held e.request e.reply between
    × AreRoomTurns configuration between history after

-- the author's exchanges in a history
abbrev pub authors_in : Configuration → List Exchange → List Exchange
authors_in configuration history = filter (λ e. is_authors configuration e.request) history
