-- What a journal persists of a history, and what is recovered from it.
use Rattle.std.specs.Prelude.{◌≡◌, ℕ, ◌==◌, ◌&&◌, Bool, true, false, List, [], ◌∷◌, ◌++◌, map, filter, bytes_eq, if◌then◌else◌, Result, Ok}
use Rattle.std.specs.List.{AllByRecursion}
use Rattle.mds_catalog.specs.Publication.{Publication}
use Rattle.mds_fleet.specs.Books.{Rows, Report}
use Rattle.mds_fleet.specs.History.{row_by}
use Rattle.mds_request.specs.Call.{call_of}
use Rattle.mds_request.specs.Configuration.{Configuration, Operator}
use Rattle.mds_request.specs.Request.{Request}
use Rattle.mds_request.specs.declared.call.AuthorCall.TheVariants.{PutDraft, DropDraft, Publish}
use Rattle.mds_request.specs.declared.call.Call.{Call}
use Rattle.mds_request.specs.declared.call.Call.TheVariants.{Author, Operator as OperatorAt}
use Rattle.mds_request.specs.declared.call.OperatorCall.TheVariants.{Report as Reports, RemoveVehicle}
use Rattle.mds_request.specs.declared.code.Code.{Code}
use Rattle.mds_machine.specs.Meaning.{own_step}
use Rattle.mds_machine.specs.Step.{State, Exchange, Run}

-- a call that may change something: the author's drafts and publications, an operator's reports and removals
abbrev pub may_change : Result Call Code → Bool
may_change (Ok (Author (PutDraft kind id))) = true
may_change (Ok (Author (DropDraft kind id))) = true
may_change (Ok (Author Publish)) = true
may_change (Ok (OperatorAt place Reports)) = true
may_change (Ok (OperatorAt place (RemoveVehicle device))) = true
may_change other = false

-- a journal persists the successes of such calls
abbrev pub is_kept : Configuration → Exchange → Bool
is_kept configuration e = may_change (call_of configuration e.request) && (e.reply.status == 200)

abbrev pub kept : Configuration → List Exchange → List Exchange
kept configuration history = filter (is_kept configuration) history

abbrev pub requests_in : List Exchange → List Request
requests_in history = map (λ e. e.request) history

abbrev pub AreSuccesses : List Exchange → Type 0
AreSuccesses history = AllByRecursion (λ e. e.reply.status ≡ 200) history

-- these exchanges are a replay of the history's persisted requests, each with success
abbrev pub AreAnsweredAgain : Configuration → List Exchange → List Exchange → Type 0
AreAnsweredAgain configuration history again = AreSuccesses again × (requests_in again ≡ requests_in (kept configuration history))

-- The persisted exchanges of a history are a history to the same state, with the same replies.
abbrev pub KeptLeadsThere : Type 0
KeptLeadsThere =
    (state after : State) (history : List Exchange) → Run state history after → Run state (kept state.configuration history) after

-- The persisted requests, replayed with success, have the same replies, and lead to the same state.
abbrev pub AnsweredAgainLeadsThere : Type 0
AnsweredAgainLeadsThere =
    (state after recovered : State) (history again : List Exchange) → Run state history after → Run state again recovered
    → AreAnsweredAgain state.configuration history again
    → (again ≡ kept state.configuration history) × (recovered ≡ after)

-- Each prefix of the persisted exchanges is what is persisted of a prefix of the history.
abbrev pub FrontsAreFronts : Type 0
FrontsAreFronts =
    (configuration : Configuration) (history front rest : List Exchange) → kept configuration history ≡ front ++ rest
    → (before : List Exchange) × (later : List Exchange) × (history ≡ before ++ later) × (kept configuration before ≡ front)

-- Over a restart there is one history: what ran before, and what runs on from the recovered state.
abbrev pub IsOneHistory : Type 0
IsOneHistory =
    (state left recovered last : State) (told again later : List Exchange) → Run state told left → Run state again recovered
    → AreAnsweredAgain state.configuration told again
    → Run recovered later last → Run state (told ++ later) last

-- What is published doesn't affect an operator's rows after its request.
abbrev pub RowsStandApart : Type 0
RowsStandApart =
    (configuration : Configuration) (operator : Operator) (publications others : List Publication) (rows : Rows) (request : Request)
    → (own_step configuration operator publications rows request).1 ≡ (own_step configuration operator others rows request).1

-- Nor does it affect the reply to a request that may change them.
abbrev pub ChangesStandApart : Type 0
ChangesStandApart =
    (configuration : Configuration) (operator : Operator) (publications others : List Publication) (rows : Rows) (request : Request)
    → may_change (call_of configuration request) ≡ true
    → own_step configuration operator publications rows request ≡ own_step configuration operator others rows request

-- the report that began the run of a state, which goes back from this report through the earlier ones, latest first
abbrev pub run_begun : List ℕ → Report → List Report → Report
run_begun state first [] = first
run_begun state first (report ∷ earlier) = if bytes_eq report.state state then run_begun state report earlier else first

-- what compaction keeps of a device's accepted reports, latest first: the last one, and the one that began its run
abbrev pub thinned : List Report → List Report
thinned [] = []
thinned (last ∷ earlier) = last ∷ run_begun last.state last earlier ∷ []

-- Compaction keeps the row.
abbrev pub ThinnedIsTheSame : Type 0
ThinnedIsTheSame = (reports : List Report) → row_by (thinned reports) ≡ row_by reports
