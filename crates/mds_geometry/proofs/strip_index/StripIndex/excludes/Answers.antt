use Rattle.std.proofs.Common.{◌≡◌, false, ap, sym, ◌∙◌}
use Rattle.mds_geometry.specs.Area.{area_holds}
use Rattle.mds_geometry.specs.Bounds.{is_within}
use Rattle.mds_geometry.proofs.Outside.{holds_outside}
use Rattle.mds_geometry.proofs.strip_index.StripIndex.excludes.Goals as goal

pub returns : goal.returns
returns c = λ excluded.
    (let outside : is_within c.self.inside.bounds c.args.position.now ≡ false = sym c.holds.ensures ∙ c.if-holds.false in
    sym (ap (λ polygons. area_holds polygons c.args.position.now) c.self.view_is)
    ∙ holds_outside c.self.inside.bounds c.args.position.now c.self.inside.polygons.items outside c.self.invariant.bounded)
