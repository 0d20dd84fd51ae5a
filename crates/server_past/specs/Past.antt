-- The past of operators' fleets: what an operator's own desk would have answered it at a moment of the past, by the entries
-- of a journal that tells of that moment.
use Rattle.std.specs.Prelude.{◌≡◌, ◌⊎◌, ◌<◌, ℕ, List, codes, length, map, nat_lt, if◌then◌else◌, Option, Some, None, slice_get, Result, Ok, Err, MatchResult}
use Rattle.std.specs.List.{range_with_len}
use Rattle.journal_entry.specs.Entries.{Entry}
use Rattle.journal_folder.specs.Startable.{HasEntries}
use Rattle.journal_samples.specs.Replies.{reply_at}
use Rattle.journal_samples.specs.Standing.{new_standing}
use Rattle.mds_machine.specs.Answer.{◌>>=◌}
use Rattle.mds_request.specs.Configuration.{Configuration, Operator}
use Rattle.mds_request.specs.Reply.{Reply, refused, success}
use Rattle.mds_request.specs.declared.call.OperatorCall.{OperatorCall}
use Rattle.mds_request.specs.declared.call.OperatorCall.TheVariants as operator
use Rattle.mds_request.specs.declared.code.Code.{Code}
use Rattle.mds_request.specs.declared.code.Code.TheVariants.{BadNumber, Busy, Future, NoMemory, NotFound, Role, Token}
use Rattle.server_app.specs.ComplianceList.{compliance_list}
use Rattle.server_app.specs.OperatorNames.{Badges}
use Rattle.server_durable.specs.FleetViews.{covers, own_request, place_of}
use Rattle.server_routes.specs.declared.app.FleetView.{FleetView}
use Rattle.server_routes.specs.declared.app.FleetView.TheVariants.{Compliance, Vehicles}
use Rattle.server_routes.specs.declared.past.PastQuestion.{PastQuestion}
use Rattle.server_routes.specs.declared.state.FleetQuestion.{FleetQuestion}
use Rattle.server_routes.specs.declared.state.FleetQuestion.TheVariants.{Own, Of, EachCompliance}
use Rattle.server_past.specs.declared.subject.PastSubject.{PastSubject}
use Rattle.server_past.specs.declared.subject.PastSubject.TheVariants.{One, Each}

-- the operator's call that has the view
abbrev pub call_for : FleetView → OperatorCall
call_for Compliance = operator.Compliance
call_for Vehicles = operator.Vehicles

-- the reply to an operator's own request for a view at a moment, over what stood then of the operator at this place
abbrev pub reply_of : Configuration → List Entry → FleetView → ℕ → ℕ → Option Operator → Reply
reply_of configuration entries view t place None = refused Token
reply_of configuration entries view t place (Some o) = reply_at (new_standing configuration place) entries (call_for view) (own_request o view t)

abbrev pub own_reply : Configuration → List Entry → FleetView → ℕ → ℕ → Reply
own_reply configuration entries view t place = reply_of configuration entries view t place (slice_get configuration.operators place)

-- the bodies of all operators' own replies about their compliance, in the configuration's order
abbrev pub each_body : Configuration → List Entry → ℕ → List (List ℕ)
each_body configuration entries t =
    map (λ place. (own_reply configuration entries Compliance t place).body) (range_with_len 0 (length configuration.operators))

-- the reply about whom it is asked
abbrev pub reply_about : Configuration → Badges → List Entry → ℕ → PastSubject → Reply
reply_about configuration badges entries t (One place view) = own_reply configuration entries view t place
reply_about configuration badges entries t Each = success (compliance_list t (each_body configuration entries t) badges.operators)

-- About whom it is asked, as far as oversight goes for the author: else the refusal, as of a question about fleets as they
-- are now. An operator that asks has its place in the configuration.
abbrev pub found_at : FleetView → Option ℕ → Result PastSubject Code
found_at view None = Err NotFound
found_at view (Some place) = Ok (One place view)

abbrev pub subject_of : Configuration → Badges → FleetQuestion → Result PastSubject Code
subject_of configuration badges (Own place view) =
    if nat_lt place (length configuration.operators) then Ok (One place view) else Err Token
subject_of configuration badges (Of view id) =
    if covers badges.oversight view then found_at view (place_of configuration id) else Err Role
subject_of configuration badges EachCompliance = if covers badges.oversight Compliance then Ok Each else Err Role

-- the subject's place is one of so many
abbrev pub IsSubjectWithin : ℕ → PastSubject → Type 0
IsSubjectWithin n (One place view) = place < n
IsSubjectWithin n Each = Unit {0}

-- the moment that is asked for: a number is needed, and it isn't after the request's own moment
abbrev pub moment_for : Option ℕ → ℕ → Result ℕ Code
moment_for None now = Err BadNumber
moment_for (Some t) now = if nat_lt now t then Err Future else Ok t

-- about whom and which moment a question asks at this moment, or the first refusal
abbrev pub subject_and_moment : Configuration → Badges → PastQuestion → ℕ → Result (PastSubject × ℕ) Code
subject_and_moment configuration badges question now = do
  subject ← subject_of configuration badges question.fleet
  t ← moment_for question.at now
  Ok (subject, t)

-- the reply where what stood then isn't kept any more: 410 (RFC 9110, section 15.5.11)
abbrev pub not_kept : Reply
not_kept = record { status = 410; body = codes "{\"error\":\"not_kept\"}" }

-- it isn't kept any more; or another question about the past is being worked out; or out of memory
abbrev pub IsUntold : Reply → Type 0
IsUntold reply = (reply ≡ not_kept) ⊎ ((reply ≡ refused Busy) ⊎ (reply ≡ refused NoMemory))

-- the reply by the entries of a journal with these bytes, or the refusal for being out of memory
abbrev pub IsToldBy : Configuration → Badges → List ℕ → PastSubject → ℕ → Reply → Type 0
IsToldBy configuration badges bytes subject t reply =
    (entries : List Entry) × HasEntries bytes entries
    × ((reply ≡ reply_about configuration badges entries t subject) ⊎ (reply ≡ refused NoMemory))

-- the same by a journal that tells of the moment, as `tells` says; or nothing is told
abbrev pub IsTold : Configuration → Badges → (ℕ → List ℕ → Type 0) → PastSubject → ℕ → Reply → Type 0
IsTold configuration badges tells subject t reply =
    IsUntold reply ⊎ ((bytes : List ℕ) × tells t bytes × IsToldBy configuration badges bytes subject t reply)

-- The reply to a question about the past.
abbrev pub IsPastReply : Configuration → Badges → (ℕ → List ℕ → Type 0) → PastQuestion → ℕ → Reply → Type 0
IsPastReply configuration badges tells question now reply =
    MatchResult (subject_and_moment configuration badges question now)
    (λ it. IsTold configuration badges tells it.0 it.1 reply)
    (λ code. reply ≡ refused code)
