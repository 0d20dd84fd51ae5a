-- What a server holds of one operator between two entries of a journal, and what an entry makes of it: as a request of
-- the author or of that operator, answered by the server's definitions. Another operator's entry changes nothing of it.
use Rattle.std.specs.Prelude.{ℕ, ◌==◌, Bool, true, false, List, [], ◌∷◌, slice_get, if◌then◌else◌, Option, Some, None, Result, Ok}
use Rattle.std.specs.FinMap.{empty}
use Rattle.mds_catalog.specs.Publication.{Publication}
use Rattle.mds_drafts.specs.Drafts.{Drafts}
use Rattle.mds_fleet.specs.Books.{Rows}
use Rattle.mds_request.specs.Call.{call_of}
use Rattle.mds_request.specs.Configuration.{Configuration, Operator}
use Rattle.mds_request.specs.Reply.{Reply}
use Rattle.mds_request.specs.Request.{Request}
use Rattle.mds_request.specs.declared.call.Call.{Call}
use Rattle.mds_request.specs.declared.call.Call.TheVariants as call
use Rattle.mds_request.specs.declared.code.Code.{Code}
use Rattle.mds_request.specs.declared.code.Code.TheVariants.{Token}
use Rattle.mds_request.specs.declared.config.Actor.{Actor}
use Rattle.mds_request.specs.declared.config.Actor.TheVariants.{Author, Operator as OperatorAt, Nobody}
use Rattle.mds_machine.specs.Answer.{or_code, settled, ◌>>=◌}
use Rattle.mds_machine.specs.Author.{author_does}
use Rattle.mds_machine.specs.Operator.{operator_does}
use Rattle.journal_entry.specs.Entries.{Entry}
use Rattle.journal_entry.specs.Requests.{actor_by, request_by}
use Rattle.journal_folder.specs.Choosing.{in_time}

-- the operator is the one at this place of the configuration
pub record Standing : Type 0 where
  pub configuration : Configuration
  pub place : ℕ
  pub publications : List Publication
  pub drafts : Drafts
  pub rows : Rows

abbrev pub operator_of : Standing → Option Operator
operator_of s = slice_get s.configuration.operators s.place

abbrev pub with_documents : Standing → Drafts × List Publication → Standing
with_documents s after =
    record { configuration = s.configuration; place = s.place; publications = after.1; drafts = after.0; rows = s.rows }

abbrev pub with_rows : Standing → Rows → Standing
with_rows s rows =
    record { configuration = s.configuration; place = s.place; publications = s.publications; drafts = s.drafts; rows = rows }

-- what a call does, the author's or the operator's
abbrev pub call_does : Standing → Call → Request → Result (Reply × Standing) Code
call_does s (call.Author own) request =
    author_does s.drafts s.publications own request >>= λ after. Ok (after.0, with_documents s after.1)
call_does s (call.Operator place own) request = do
  operator ← or_code Token (operator_of s)
  after ← operator_does s.configuration.zone operator s.publications s.rows own request
  Ok (after.0, with_rows s after.1)

abbrev pub after_request : Standing → Request → Standing
after_request s request = (settled s (call_of s.configuration request >>= λ call. call_does s call request)).1

abbrev pub after_asked : Standing → Option Request → Standing
after_asked s None = s
after_asked s (Some request) = after_request s request

-- the author, or the operator at this place
abbrev pub counts : ℕ → Actor → Bool
counts place Author = true
counts place (OperatorAt other) = other == place
counts place Nobody = false

abbrev pub after_entry : Standing → Entry → Standing
after_entry s e =
    if counts s.place (actor_by s.configuration e.client) then after_asked s (request_by s.configuration e) else s

abbrev pub after_entries : Standing → List Entry → Standing
after_entries s [] = s
after_entries s (e ∷ entries) = after_entries (after_entry s e) entries

abbrev pub new_standing : Configuration → ℕ → Standing
new_standing configuration place =
    record {
      configuration = configuration;
      place = place;
      publications = [];
      drafts = record { policies = empty; geographies = empty };
      rows = empty;
    }

-- What stood at a moment: what the entries make of it that stand in front of the first one whose moment is later. Where
-- the clock went back there may be entries of earlier moments behind that one, which don't count.
abbrev pub standing_at : Standing → List Entry → ℕ → Standing
standing_at s entries t = after_entries s (in_time (Some t) entries)
