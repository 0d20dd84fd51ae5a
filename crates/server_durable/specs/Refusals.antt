-- The refusal of a request that may change something, and for which nothing is reserved in the log: it isn't carried
-- out.
use Rattle.std.specs.Prelude.{◌≡◌, ℕ, List, Result, Ok, Err}
use Rattle.http.specs.declared.response.Response.{Response}
use Rattle.http_body_util.specs.declared.full.Full.{Full}
use Rattle.journal_commit.specs.declared.backlog.ReserveFault.{ReserveFault}
use Rattle.journal_commit.specs.declared.backlog.ReserveFault.TheVariants as fault
use Rattle.journal_commit.specs.declared.commit_log.CommitFault.TheVariants as untold
use Rattle.mds_request.specs.Reply.{refused}
use Rattle.mds_request.specs.declared.code.Code.{Code}
use Rattle.mds_request.specs.declared.code.Code.TheVariants as code
use Rattle.server_state.specs.Response.{Says}
use Rattle.server_durable.specs.declared.pending.NoResponse.{NoResponse}
use Rattle.server_durable.specs.declared.pending.NoResponse.TheVariants as unanswered
use Rattle.server_durable.specs.declared.records.NoReservation.{NoReservation}
use Rattle.server_durable.specs.declared.records.NoReservation.TheVariants.{Crowded, NoRoom, Stopping, Failed, NoMemory}

-- by the fault of the reservation; a record that no log takes counts as out of memory
abbrev pub unreserved_by : ReserveFault → NoReservation
unreserved_by fault.Crowded = Crowded
unreserved_by fault.NoRoom = NoRoom
unreserved_by fault.Stopping = Stopping
unreserved_by (fault.Failed failure) = Failed failure
unreserved_by fault.Untaken = NoMemory

-- A full disk, a program that ends and being out of memory each have a refusal of their own. A request whose client's
-- share is used up may be tried again, and where the log failed no response is sent.
abbrev pub refusal_for : NoReservation → Result Code NoResponse
refusal_for NoRoom = Ok code.NoRoom
refusal_for Stopping = Ok code.Busy
refusal_for NoMemory = Ok code.NoMemory
refusal_for Crowded = Err unanswered.Crowded
refusal_for (Failed failure) = Err (unanswered.NotTold (untold.Failed failure))

-- the response has the refusal for this reason
abbrev pub SaysUnheldFor : NoReservation → Response (Full (List ℕ)) → Type 0
SaysUnheldFor why response = (c : Code) × (refusal_for why ≡ Ok c) × Says response (refused c)

-- the response has the refusal for one of the reasons
abbrev pub SaysUnheld : Response (Full (List ℕ)) → Type 0
SaysUnheld response = (why : NoReservation) × SaysUnheldFor why response
