use Rattle.std.proofs.Common.{Bool, sym, ap, ◌∙◌}
use Rattle.std.proofs.lemmas.Bool.{false≢true}
use Rattle.std.proofs.lemmas.List.Quantifiers.{position-Some}
use Rattle.std.proofs.lemmas.Option.{get_or_from_slice_get}
use Rattle.mds_policy.specs.Policy.{Rule}
use Rattle.mds_match.specs.Matching.{meets}
use Rattle.mds_match.proofs.laws.first_is_least.Goals as goal

pub returns : goal.returns
returns c policy polygons row local n found =
    let meet : Rule → Bool = λ rule. meets rule polygons row local in (
      λ rule here. ap meet (sym (get_or_from_slice_get policy.rules n rule rule here)) ∙ (position-Some meet policy.rules n rule found).1,
      λ k rule before here met. false≢true (sym ((position-Some meet policy.rules n rule found).2 k before) ∙ ap meet (get_or_from_slice_get policy.rules k rule rule here) ∙ met),
    )
