use Rattle.std.proofs.Common.{◌≡◌, false, sym, ◌∙◌}
use Rattle.mds_geometry.specs.Bounds.{lies_in}
use Rattle.mds_geometry.proofs.Banded.{barren_block}
use Rattle.mds_geometry.proofs.blocks.ray_test_of_block.Goals as goal

pub returns-else-holds-clause-border : goal.returns-else-holds-clause-border
returns-else-holds-clause-border c =
    let off : lies_in c.args.band.now c.args.at.now.lat ≡ false = sym c.holds.ensures ∙ c.if-holds.false in
    let barren = barren_block c.args.band.now c.args.at.now c.args.block.now c.requires.banded off in
    ((λ h. absurd (cc)), (λ h. sym h ∙ barren.off))

pub returns-else-holds-clause-odd : goal.returns-else-holds-clause-odd
returns-else-holds-clause-odd c =
    let off : lies_in c.args.band.now c.args.at.now.lat ≡ false = sym c.holds.ensures ∙ c.if-holds.false in
    sym (barren_block c.args.band.now c.args.at.now c.args.block.now c.requires.banded off).even
