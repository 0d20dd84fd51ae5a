-- The reply to a call of the operator over what stood at a moment of the past.
use Rattle.std.specs.Prelude.{◌≡◌, ◌⊎◌, ℕ, Bool, List, slice_get, Some, Ok}
use Rattle.std.specs.List.{filter}
use Rattle.mds_fleet.specs.Books.{Rows}
use Rattle.mds_request.specs.Call.{call_of}
use Rattle.mds_request.specs.Reply.{Reply, refused}
use Rattle.mds_request.specs.Request.{Request}
use Rattle.mds_request.specs.declared.call.Call.TheVariants as call
use Rattle.mds_request.specs.declared.call.OperatorCall.{OperatorCall}
use Rattle.mds_request.specs.declared.code.Code.TheVariants.{NoMemory}
use Rattle.mds_machine.specs.Answer.{settled}
use Rattle.mds_machine.specs.Step.{State, answered}
use Rattle.journal_entry.specs.Entries.{Entry}
use Rattle.journal_entry.specs.Requests.{actor_by}
use Rattle.journal_samples.specs.Servers.{seen}
use Rattle.journal_samples.specs.Standing.{Standing, after_entries, call_does, counts, standing_at}

-- the reply to a call of the operator over what is held, as this request makes it
abbrev pub reply_over : Standing → OperatorCall → Request → Reply
reply_over s own request = (settled s (call_does s (call.Operator s.place own) request)).0

-- the same over what stood at the request's moment
abbrev pub reply_at : Standing → List Entry → OperatorCall → Request → Reply
reply_at s entries own request = reply_over (standing_at s entries request.at) own request

-- that reply, or the refusal for being out of memory
abbrev pub IsReplyAt : Standing → List Entry → OperatorCall → Request → Reply → Type 0
IsReplyAt s entries own request reply = (reply ≡ reply_at s entries own request) ⊎ (reply ≡ refused NoMemory)

-- The reply is the one that the whole server gives, which has these rows of the operator, to a request with this call.
abbrev pub RepliesAsServed : Type 0
RepliesAsServed =
    (w : State) (place : ℕ) (rows : Rows) (own : OperatorCall) (request : Request)
    → slice_get w.fleets place ≡ Some rows → call_of w.configuration request ≡ Ok (call.Operator place own)
    → reply_over (seen w place rows) own request ≡ (answered w request).0

-- an entry of the author, or of the operator
abbrev pub is_own : Standing → Entry → Bool
is_own s e = counts s.place (actor_by s.configuration e.client)

-- What stands of the operator is what the author's entries and its own make: those of others can be left out.
abbrev pub OthersCountForNothing : Type 0
OthersCountForNothing = (s : Standing) (entries : List Entry) → after_entries s entries ≡ after_entries s (filter (is_own s) entries)
