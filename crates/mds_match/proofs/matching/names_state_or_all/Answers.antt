use Rattle.std.proofs.Common.{◌∙◌}
use Rattle.mds_policy.specs.Policy.{states_document}
use Rattle.mds_match.specs.Resolved.{names_state}
use Rattle.mds_match.proofs.Mapped.{empty_or-map}
use Rattle.mds_match.proofs.matching.names_state_or_all.Goals as goal

pub returns-else-is_empty : goal.returns-else-is_empty
returns-else-is_empty c =
    c.any_names_state.ensures ∙ empty_or-map (names_state c.args.state) states_document c.args.states.now c.if-is_empty.ensures
