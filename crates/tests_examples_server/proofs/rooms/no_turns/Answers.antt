use Rattle.std.proofs.Common.{[], inl, inr, refl, sym, ap, is_some, ◌∙◌}
use Rattle.std.specs.Prelude.{◌==◌}
use Rattle.std.specs.FinMap.{get}
use Rattle.std.proofs.lemmas.Bool.{false≢true}
use Rattle.mds_request.specs.declared.code.Code.TheVariants.{NoMemory}
use Rattle.mds_machine.specs.Answer.{settled}
use Rattle.mds_machine.proofs.Served.{not_unavailable}
use Rattle.tests_examples_core.proofs.DraftCounts.{no_square, the_square}
use Rattle.tests_examples_core.specs.Histories.{no_drafts}
use Rattle.tests_examples_core.specs.Ids.{square_id}
use Rattle.tests_examples_server.proofs.AtRoom.{puts_square}
use Rattle.tests_examples_server.proofs.rooms.no_turns.Goals as goal

pub returns-clause-kept : goal.returns-clause-kept
returns-clause-kept c =
    λ is. elim is [
      | inl a ↦ false≢true (sym (ap (λ r. r.status == 503) (a.0 ∙ ap (λ d. (settled (no_drafts, []) d).0) puts_square)))
      | inr a ↦ false≢true (ap is_some (sym no_square) ∙ ap (λ h. is_some (get h.0.geographies square_id)) (sym a.2) ∙ ap is_some the_square)
    ]

pub returns-clause-lost : goal.returns-clause-lost
returns-clause-lost c =
    λ is. elim is [
      | inl a ↦ false≢true (ap is_some (sym no_square) ∙ ap (λ h. is_some (get h.0.geographies square_id)) (a.1 ∙ ap (λ d. (settled (no_drafts, []) d).1) puts_square) ∙ ap is_some the_square)
      | inr a ↦ not_unavailable _ NoMemory refl refl a.1
    ]
