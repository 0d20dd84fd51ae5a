use Rattle.std.proofs.Common.{inl, inr, refl, sym, ap, ◌∙◌}
use Rattle.std.specs.Prelude.{◌==◌}
use Rattle.std.specs.FinMap.{len}
use Rattle.std.proofs.lemmas.Bool.{false≢true}
use Rattle.mds_request.specs.declared.code.Code.TheVariants.{NoSnapshot, NoMemory}
use Rattle.mds_machine.proofs.Served.{not_unavailable}
use Rattle.tests_examples_core.proofs.Rows.{none_count, one_count}
use Rattle.tests_examples_server.proofs.AtDesk.{reports}
use Rattle.tests_examples_server.proofs.desks.no_turns.Goals as goal

pub returns-clause-taken : goal.returns-clause-taken
returns-clause-taken c =
    λ is. elim is.answer [
      | inl a ↦ false≢true (sym (ap (λ r. r.status == 503) (a.0 ∙ ap (λ s. s.0) reports)))
      | inr a ↦ false≢true (ap (λ n. n == 1) (sym none_count ∙ sym (ap len a.1) ∙ one_count))
    ]

pub returns-clause-lost : goal.returns-clause-lost
returns-clause-lost c =
    λ is. elim is.answer [
      | inl a ↦ false≢true (ap (λ n. n == 1) (sym none_count ∙ ap len (a.1 ∙ ap (λ s. s.1) reports) ∙ one_count))
      | inr a ↦ elim a.0 [
        | inl r ↦ not_unavailable _ NoSnapshot refl refl r
        | inr r ↦ not_unavailable _ NoMemory refl refl r
      ]
    ]
