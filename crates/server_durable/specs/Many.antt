-- Many reports in one body, their records, and the lines that tell the replies.
use mathlib.Core.List.{IsPrefix}
use Rattle.std.specs.Prelude.{◌≡◌, ◌==◌, ◌<◌, ◌⊎◌, ℕ, List, [], ◌∷◌, ◌++◌, codes, length, map, filter, Option, Some, None, IfOk, Result, Err}
use Rattle.std.specs.List.{AllByRecursion, flat_map}
use Rattle.http_header.specs.FieldValue.{plain_value}
use Rattle.http.specs.Response.{head_of, body_of}
use Rattle.http.specs.declared.response.Response.{Response}
use Rattle.http_body_util.specs.declared.full.Full.{Full}
use Rattle.mds_script.specs.Answering.{status_text}
use Rattle.mds_script.specs.Input.{is_filled, lines}
use Rattle.mds_machine.specs.Step.{Exchange}
use Rattle.mds_request.specs.Configuration.{Configuration, actor_of}
use Rattle.mds_request.specs.Request.{Request}
use Rattle.mds_request.specs.Reply.{Reply, refused}
use Rattle.mds_request.specs.declared.code.Code.{Code}
use Rattle.mds_request.specs.declared.code.Code.TheVariants as code
use Rattle.mds_request.specs.declared.config.Actor.TheVariants.{Operator}
use Rattle.mds_request.specs.declared.request.Verb.TheVariants.{Post}
use Rattle.server_state.specs.Response.{Says, bytes_of}
use Rattle.server_state.specs.Turn.{TakesToldRun}
use Rattle.mds_desk.specs.Desk.{DeskState}
use Rattle.mds_catalog.specs.Publication.{Publication}
use Rattle.server_durable.specs.Records.{HasRecord, IsRecordOf}
use Rattle.server_durable.specs.Refusals.{SaysUnheld, SaysUnheldFor}
use Rattle.server_durable.specs.CacheControl.{Waits}
use Rattle.server_durable.specs.declared.batch.TheConstants.{MOST_REPORTS}
use Rattle.server_durable.specs.declared.many.Halt.{Halt}
use Rattle.server_durable.specs.declared.many.Halt.TheVariants.{Unheld, NotTold}
use Rattle.server_durable.specs.declared.pending.NoResponse.{NoResponse}
use Rattle.server_durable.specs.declared.pending.NoResponse.TheVariants.{NotTold as Untold}
use Rattle.server_durable.specs.declared.records.NoReservation.TheVariants.{Crowded, NoRoom, Stopping, Failed, NoMemory}

-- the report on a line: by the same client, at the same moment
abbrev pub report_of : Request → List ℕ → Request
report_of request line =
    record { at = request.at; token = request.token; verb = Post; target = codes "/fleet/events"; body = line }

-- a report for each line of the body that isn't empty
abbrev pub reports_of : Request → List Request
reports_of request = map (report_of request) (filter is_filled (lines request.body))

-- it is a report of the operator at this place
pub record IsReportBy (configuration : Configuration) (place : ℕ) (request : Request) : Type 0 where
  pub asks : actor_of configuration request.token ≡ Operator place
  pub verb : request.verb ≡ Post
  pub target : request.target ≡ codes "/fleet/events"

-- each of them is one
abbrev pub AreAskedBy : Configuration → ℕ → List Request → Type 0
AreAskedBy configuration place requests = AllByRecursion (IsReportBy configuration place) requests

-- the line for a reply: its body and its status as JSON (RFC 8259), whose members are in the byte order of their names
abbrev pub told_line : Reply → List ℕ
told_line reply = codes "{\"body\":" ++ reply.body ++ codes ",\"status\":" ++ status_text reply.status ++ codes "}" ++ 10 ∷ []

-- 200, with a line for each reply, and as a sequence of JSON texts by its type
pub record SaysAll (response : Response (Full (List ℕ))) (replies : List Reply) : Type 0 where
  pub status : (head_of response).status ≡ 200
  pub body : bytes_of (body_of response) ≡ flat_map told_line replies
  pub headers : (head_of response).headers ≡ (codes "content-type", plain_value (codes "application/x-ndjson") ∷ []) ∷ []

-- each request with its reply
abbrev pub exchanges : List Request → List Reply → List Exchange
exchanges [] replies = []
exchanges (request ∷ requests) [] = []
exchanges (request ∷ requests) (reply ∷ replies) = record { request = request; reply = reply } ∷ exchanges requests replies

-- those that were answered with success
abbrev pub accepted : List Exchange → List Exchange
accepted history = filter (λ e. e.reply.status == 200) history

-- a record for each request, in their order
abbrev pub AreRecordsOf : Configuration → List Request → List (List ℕ) → Type 0
AreRecordsOf configuration [] [] = Unit {0}
AreRecordsOf configuration (request ∷ requests) (text ∷ texts) = IsRecordOf configuration request text × AreRecordsOf configuration requests texts
AreRecordsOf configuration requests texts = ⊥

-- each that was answered with success has its record among these payloads
abbrev pub AreRecorded : Configuration → List Exchange → List (List ℕ) → Type 0
AreRecorded configuration history stamp = AllByRecursion (λ e. e.reply.status ≡ 200 → HasRecord configuration e.request stamp) history

-- Each of these requests has a turn, after those that the desk took before. Each that was answered with success has its
-- record among these later payloads, which begin with the known ones.
pub record Continues (configuration : Configuration) (before : DeskState) (known : List (List ℕ)) (requests : List Request) (after : DeskState) (replies : List Reply) (later : List (List ℕ)) : Type 0 where
  pub note : Option (List Publication)
  pub run : TakesToldRun before note requests replies after
  pub recorded : AreRecorded configuration (exchanges requests replies) later
  pub longer : IsPrefix known later

-- the refusal of requests that come after others of their body, where nothing more is reserved in the log; none where
-- it failed
abbrev pub refusal_behind : Halt → Option Code
refusal_behind (Unheld Crowded) = Some code.Busy
refusal_behind (Unheld Stopping) = Some code.Busy
refusal_behind (Unheld NoRoom) = Some code.NoRoom
refusal_behind (Unheld NoMemory) = Some code.NoMemory
refusal_behind (Unheld (Failed failure)) = None
refusal_behind (NotTold fault) = None

-- these requests aren't carried out, and each has the same refusal
pub record AreRefusedBehind (requests : List Request) (replies : List Reply) : Type 0 where
  pub code : Code
  pub why : (halt : Halt) × (refusal_behind halt ≡ Some code)
  pub replies_are : replies ≡ map (λ _. refused code) requests

-- there are more reports than one body may have, or out of memory for them
abbrev pub IsRefusedWhole : Request → Code → Type 0
IsRefusedWhole request c = (c ≡ code.NoMemory) ⊎ ((c ≡ code.TooLarge) × (MOST_REPORTS < length (reports_of request)))

-- none of them was carried out
abbrev pub IsUnasked : Request → Response (Full (List ℕ)) → Type 0
IsUnasked request response = SaysUnheld response ⊎ ((c : Code) × IsRefusedWhole request c × Says response (refused c))

-- the result where none of them was carried out: the response that waits has the refusal for the reason, or no response
-- may be sent
abbrev pub IsHalted : {V : Type 0} → (V → Option (Response (Full (List ℕ)))) → Halt → Result V NoResponse → Type 0
IsHalted reply (Unheld why) result = IfOk result (λ s. Waits (SaysUnheldFor why) (reply s))
IsHalted reply (NotTold fault) result = result ≡ Err (Untold fault)
