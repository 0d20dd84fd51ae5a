use Rattle.std.proofs.Common.{◌∙◌}
use Rattle.mds_policy.specs.Policy.{states_document}
use Rattle.mds_match.specs.Matching.{state_fits}
use Rattle.mds_match.specs.Row.{row_of}
use Rattle.mds_match.proofs.Mapped.{empty_or-map}
use Rattle.mds_bitmaps.proofs.criteria.state_fits_or_all.Goals as goal

pub returns-else-is_empty : goal.returns-else-is_empty
returns-else-is_empty c =
    c.any_state_fits.ensures ∙ empty_or-map (state_fits (row_of c.args.vehicle.now)) states_document c.args.states.now c.if-is_empty.ensures
