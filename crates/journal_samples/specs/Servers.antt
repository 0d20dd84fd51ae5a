-- What stands of an operator after a journal's entries is what the whole server had of it that did what they tell. So a
-- sample is what that server would have answered, whatever other operators asked.
use Rattle.std.specs.Prelude.{◌≡◌, ◌<◌, ℕ, false, List, [], ◌∷◌, length, slice_get, Some}
use Rattle.mds_fleet.specs.Books.{Rows}
use Rattle.mds_request.specs.Configuration.{Configuration, ids, repeats}
use Rattle.mds_machine.specs.Step.{Exchange, Run, State, new_state}
use Rattle.journal_entry.specs.Entries.{Entry}
use Rattle.journal_entry.specs.Requests.{entry_by}
use Rattle.journal_samples.specs.Standing.{Standing, after_entries, new_standing}

-- what a server has of the operator at this place, whose rows these are
abbrev pub seen : State → ℕ → Rows → Standing
seen w place rows =
    record { configuration = w.configuration; place = place; publications = w.publications; drafts = w.drafts; rows = rows }

abbrev pub Holds : ℕ → Standing → State → Type 0
Holds place s w = (rows : Rows) × (slice_get w.fleets place ≡ Some rows) × (s ≡ seen w place rows)

-- each entry is that of an exchange with success
abbrev pub AreOf : Configuration → List Entry → List Exchange → Type 0
AreOf configuration [] [] = Unit {0}
AreOf configuration (e ∷ entries) (x ∷ history) =
    (entry_by configuration x.request ≡ Some e) × (x.reply.status ≡ 200) × AreOf configuration entries history
AreOf configuration entries history = ⊥

abbrev pub StandsAsServed : Type 0
StandsAsServed =
    (configuration : Configuration) (place : ℕ) (entries : List Entry) (history : List Exchange) (next : State)
    → repeats (ids configuration.operators) ≡ false → place < length configuration.operators
    → AreOf configuration entries history → Run (new_state configuration) history next
    → Holds place (after_entries (new_standing configuration place) entries) next
