use Rattle.std.proofs.Common.{◌≡◌, ℕ, List, [], ◌∷◌, codes, refl, sym, subst}
use Rattle.std.specs.FinMap.{get}
use Rattle.mds_fleet.specs.Books.{outcome, rows_after}
use Rattle.mds_fleet.specs.History.{Event, arrival, accepted_reports, row_by}
use Rattle.mds_fleet.proofs.ByHistory.{follows_history}
use Rattle.mds_machine.specs.Meaning.{IsAnswer, own_step, events_of}
use Rattle.mds_machine.specs.Views.{Seen, asked, published, view}
use Rattle.tests_examples_core.specs.Computed.{documents, places, zones}
use Rattle.tests_examples_core.specs.Histories.{no_drafts, ask_for_cap, before_question, question, answer}
use Rattle.tests_examples_core.specs.Machine.{report}
use Rattle.tests_examples_core.specs.Publications.{first_publication}
use Rattle.tests_examples_core.specs.Requests.{alfa, configuration}
use Rattle.tests_examples_core.specs.Vehicles.{first_report, one_row}
use Rattle.tests_examples_core.proofs.Rows.{no_rows, none_first, none_count, one_entry}
use Rattle.tests_examples_core.proofs.histories.meaning.Goals as goal

-- the only report in the view leads to one row

abbrev reports : List Event
reports = arrival (first_report 2000) 2000 ∷ []

taken : rows_after no_rows (first_report 2000) (outcome no_rows 2 (first_report 2000) 2000) ≡ one_row
taken = rw (none_first, none_count, none_first) refl

abbrev AreTheirs : List Event → Type 0
AreTheirs events = (device : List ℕ) → get one_row device ≡ row_by (accepted_reports 2 events device)

rows_of_reports : AreTheirs reports
rows_of_reports device = follows_history 2 reports one_row device (no_rows, refl, sym taken)

events_are : events_of configuration (report 2000 (codes "401") ∷ ask_for_cap ∷ []) ≡ reports
unfolding documents
events_are = refl

abbrev before : List Seen
before = asked (report 2000 (codes "401")) ∷ asked ask_for_cap ∷ published first_publication ∷ []

view_is : view configuration no_drafts before_question 0 ≡ before
unfolding documents
view_is = refl

replied : answer ≡ (own_step configuration alfa (first_publication ∷ []) one_row question).0
unfolding documents places zones
replied = rw one_entry refl

pub returns : goal.returns
returns c =
    record {
      of_the_view = subst (λ seen. IsAnswer configuration alfa seen question answer) (sym view_is) (one_row, subst AreTheirs (sym events_are) rows_of_reports, replied);
    }
