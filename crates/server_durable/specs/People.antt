-- Answers for people, outside the protocol's calls: by the configuration's text, the publications and the drafts.
use Rattle.std.specs.Prelude.{◌≡◌, ◌⊎◌, ℕ, List, Option, Some, None, slice_get}
use Rattle.http.specs.declared.response.Response.{Response}
use Rattle.http_body_util.specs.declared.full.Full.{Full}
use Rattle.server_app.specs.OperatorNames.{Badges}
use Rattle.server_app.specs.DraftList.{drafts_reply}
use Rattle.server_app.specs.Whoami.{who_reply}
use Rattle.server_app.specs.Withdrawals.{withdrawals_reply}
use Rattle.mds_catalog.specs.Publication.{Publication}
use Rattle.mds_drafts.specs.Drafts.{Drafts as Held}
use Rattle.mds_request.specs.Configuration.{Configuration, Operator as Named}
use Rattle.mds_request.specs.Reply.{Reply, refused}
use Rattle.mds_request.specs.declared.code.Code.TheVariants.{NoMemory, NoSnapshot, Role, Token}
use Rattle.mds_request.specs.declared.config.Actor.TheVariants.{Author, Operator}
use Rattle.server_state.specs.Query.{DeskTells, RoomTells}
use Rattle.server_state.specs.Turn.{SaysOne}
use Rattle.server_routes.specs.declared.app.Question.{Question}
use Rattle.server_routes.specs.declared.app.Question.TheVariants.{Whoami, Withdrawals, Drafts}
use Rattle.server_durable.specs.declared.people.RoomQuestion.{RoomQuestion}
use Rattle.server_durable.specs.declared.people.RoomQuestion.TheVariants as room

-- which of an operator's policies are withdrawn
abbrev pub own_withdrawals : List Publication → Option Named → Reply
own_withdrawals publications None = refused Token
own_withdrawals publications (Some operator) = withdrawals_reply publications (Some operator.id)

-- The answer to the operator at this place: who it is (its own identifier and name), which of its own policies are
-- withdrawn, and no drafts. It depends on its own identifier and name, on the zone and on the publications, and on
-- nothing else.
abbrev pub operator_told : Configuration → Badges → ℕ → List Publication → Question → Reply
operator_told configuration badges place publications Whoami = who_reply badges (Operator place)
operator_told configuration badges place publications Withdrawals = own_withdrawals publications (slice_get configuration.operators place)
operator_told configuration badges place publications Drafts = refused Role

-- the answer to the author: who it is, with all operators' names, all that is withdrawn, and all drafts
abbrev pub author_told : Badges → Held → List Publication → Question → Reply
author_told badges drafts publications Whoami = who_reply badges Author
author_told badges drafts publications Withdrawals = withdrawals_reply publications None
author_told badges drafts publications Drafts = drafts_reply drafts

-- the reply is the answer to the operator at this place: of a front that its desk knows afterwards, where it asks what
-- is withdrawn
abbrev pub TellsOperator : Configuration → Badges → ℕ → Question → Reply → Type 0
TellsOperator configuration badges place Withdrawals reply =
    DeskTells configuration place (λ publications told. told ≡ operator_told configuration badges place publications Withdrawals) reply
TellsOperator configuration badges place question reply =
    (publications : List Publication) → reply ≡ operator_told configuration badges place publications question

-- the reply is the answer to the author: of the drafts and the publications of the author's room, where it asks about
-- these
abbrev pub TellsAuthor : Configuration → Badges → Question → Reply → Type 0
TellsAuthor configuration badges Whoami reply = (drafts : Held) (publications : List Publication) → reply ≡ author_told badges drafts publications Whoami
TellsAuthor configuration badges question reply =
    RoomTells configuration (λ drafts publications told. told ≡ author_told badges drafts publications question) reply

-- the answer about an author's room
abbrev pub room_told : RoomQuestion → Held → List Publication → Reply
room_told room.Withdrawals drafts publications = withdrawals_reply publications None
room_told room.Drafts drafts publications = drafts_reply drafts

-- such a reply, or the refusal for being out of memory or for there being no snapshot
abbrev pub IsToldReply : (Reply → Type 0) → Reply → Type 0
IsToldReply Kind reply = Kind reply ⊎ ((reply ≡ refused NoMemory) ⊎ (reply ≡ refused NoSnapshot))

-- the response has such a reply
abbrev pub SaysTold : (Reply → Type 0) → Response (Full (List ℕ)) → Type 0
SaysTold Kind response = SaysOne (IsToldReply Kind) response
