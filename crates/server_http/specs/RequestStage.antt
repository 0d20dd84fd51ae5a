-- How far a request is, and which responses it may have.
use Rattle.std.specs.Prelude.{◌≡◌, ◌⊎◌, ⊤, ℕ, List, [], Result, Ok, IfOk, IfSome, IsSomeAnd, IsTrue, IsFalse}
use Rattle.std.specs.declared.alloc.AllocError.{AllocError}
use Rattle.http.specs.declared.request.Parts.{Parts}
use Rattle.http.specs.declared.response.Response.{Response}
use Rattle.http_body_util.specs.declared.full.Full.{Full}
use Rattle.server_admission.specs.Arrival.{body_in, closes_after}
use Rattle.server_admission.specs.declared.arrival.Arrived.{Arrived}
use Rattle.hyper.specs.declared.body.incoming.Incoming.{Incoming}
use Rattle.server_http.specs.Arrives.{IsArrival, MayArrive}
use Rattle.server_http.specs.Busy.{Closes, SaysBusy}
use Rattle.server_http.specs.Turn.{IsWaiting}
use Rattle.server_http.specs.declared.admitted_request.AdmittedRequest.{AdmittedRequest}
use Rattle.server_http.specs.declared.admitted_request.RequestStage.{RequestStage}
use Rattle.server_http.specs.declared.admitted_request.RequestStage.TheVariants.{Reading, Queued, Paused, Answering, Finished}
use Rattle.server_http.specs.declared.request_future.RequestFuture.{RequestFuture}
use Rattle.server_http.specs.declared.request_future.RequestFuture.TheVariants.{Admitted, Refused}

-- its turn isn't over, and its pending response may be polled
abbrev pub CanProceed : {F I : Type 0} → (F → Type 0) → RequestStage F I → Type 0
CanProceed can_poll (Reading body) = ⊤
CanProceed can_poll (Queued arrived turn) = IfSome turn IsWaiting
CanProceed can_poll (Paused arrived pause) = ⊤
CanProceed can_poll (Answering reply arrived) = can_poll reply
CanProceed can_poll Finished = ⊤

abbrev pub CanPoll : {P H F I : Type 0} → (F → Type 0) → RequestFuture P H F I → Type 0
CanPoll can_poll (Admitted request) = CanProceed can_poll request.stage
CanPoll can_poll (Refused request) = ⊤

-- a queued request has a pending response, or its connection is gone; the bytes of its body are released, and whether its
-- connection closes stays known
abbrev pub IsReleased : {F I : Type 0} → RequestStage F I → RequestStage F I → Type 0
IsReleased (Queued arrived turn) (Answering reply kept) = (body_in kept ≡ []) × (closes_after kept ≡ closes_after arrived)
IsReleased (Queued arrived turn) Finished = ⊤
IsReleased (Queued arrived turn) new = ⊥
IsReleased old new = ⊤

-- The response that is given of one that the service gave to a body that arrived so: the same, or, where the body wasn't
-- read whole, the same which says that the connection is closed after it.
pub record IsSent (arrived : Arrived) (told response : Response (Full (List ℕ))) : Type 0 where
  pub closes : IsTrue (closes_after arrived) → Closes told response
  pub same : IsFalse (closes_after arrived) → response ≡ told

-- the response is given of one that answers has for a body that arrived so
pub record IsAnswer (answers : Arrived → Response (Full (List ℕ)) → Type 0) (arrived : Arrived) (response : Response (Full (List ℕ))) : Type 0 where
  pub told : Response (Full (List ℕ))
  pub says : answers arrived told
  pub sent : IsSent arrived told response

-- The response that a request at this stage may have: by the body that is yet to arrive, by the body that arrived, or by
-- the pending response.
abbrev pub MayHave : {F I : Type 0} → (Arrived → Response (Full (List ℕ)) → Type 0) → (F → Result (Response (Full (List ℕ))) AllocError → Type 0)
    → RequestStage F I → Response (Full (List ℕ)) → Type 0
MayHave answers gives (Reading body) response = (arrived : Arrived) × MayArrive body.body arrived × IsAnswer answers arrived response
MayHave answers gives (Queued arrived turn) response = IsAnswer answers arrived response
MayHave answers gives (Paused arrived pause) response = IsAnswer answers arrived response
MayHave answers gives (Answering reply arrived) response = IsAnswer (λ _ told. gives reply (Ok told)) arrived response
MayHave answers gives Finished response = ⊥

-- the answers of the request's connection to its head
abbrev pub AnswersOf : {P H F I : Type 0} → (P → H → Arrived → Response (Full (List ℕ)) → Type 0) → AdmittedRequest P H F I → Arrived → Response (Full (List ℕ)) → Type 0
AnswersOf answers request arrived response = IsSomeAnd request.conn (λ conn. answers conn request.head arrived response)

module _ {P H F I : Type 0} (answers : P → H → Arrived → Response (Full (List ℕ)) → Type 0) (gives : F → Result (Response (Full (List ℕ))) AllocError → Type 0) where
  abbrev pub MayBeGiven : AdmittedRequest P H F I → Response (Full (List ℕ)) → Type 0
  MayBeGiven request = MayHave (AnswersOf answers request) gives request.stage

  -- what the request may be given later it may be given now
  abbrev pub GoesOn : (old new : AdmittedRequest P H F I) → Type 0
  GoesOn old new = (response : Response (Full (List ℕ))) → MayBeGiven new response → MayBeGiven old response

  -- a request that may wait is answered by the service or busy, any other is busy
  abbrev pub FutureGives : RequestFuture P H F I → Result (Response (Full (List ℕ))) AllocError → Type 0
  FutureGives (Admitted request) given = IfOk given (λ response. SaysBusy response ⊎ MayBeGiven request response)
  FutureGives (Refused request) given = IfOk given SaysBusy

-- The response is an answer to what this head was resolved to, with a body that may arrive of this one.
abbrev pub Answers : {P H I : Type 0} → (P → Parts → H → Type 0) → (P → H → Arrived → Response (Full (List ℕ)) → Type 0) → P → Parts → Incoming I → Response (Full (List ℕ)) → Type 0
Answers {H = H} resolves answers conn parts body response =
    (head : H) × resolves conn parts head × (arrived : Arrived) × IsArrival body arrived × IsAnswer (answers conn head) arrived response
