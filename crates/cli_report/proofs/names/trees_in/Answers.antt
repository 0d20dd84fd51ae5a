use Rattle.std.proofs.Common.{map, ap, ◌∙◌}
use Rattle.std.proofs.lemmas.Result.{IfOk-weaker}
use Rattle.mds_catalog.specs.Catalogue.{lent_policy}
use Rattle.cli_report.proofs.names.trees_in.Goals as goal

pub returns : goal.returns
returns c =
    IfOk-weaker c.policy_trees.result _ _
    (λ trees h. h ∙ ap (λ ps. map (λ p. p.document) (map lent_policy ps)) c.deref.ensures.value ∙ ap (map (λ p. p.document)) c.in_ok-policies.ensures)
    c.policy_trees.ensures
