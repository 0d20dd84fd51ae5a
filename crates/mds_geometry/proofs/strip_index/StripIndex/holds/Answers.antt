use Rattle.std.proofs.Common.{false, ap, sym, ◌∙◌}
use Rattle.mds_geometry.specs.Area.{area_holds}
use Rattle.mds_geometry.specs.Strips.{any_holds, edges_at, strip_of}
use Rattle.mds_geometry.proofs.Indexed.{strip_at, strip_tells, strip_within}
use Rattle.mds_geometry.proofs.strip_index.StripIndex.holds.Goals as goal

pub returns : goal.returns
returns c =
    let within = strip_within c.self.inside.polygons.items c.self.inside.bounds c.self.inside.scale c.self.inside.strips.items c.args.position c.self.invariant in
    let here = strip_at c.self.inside.strips.items c.strip_of-strip.result (strip_of c.self.inside.scale c.args.position.lat) c.index.result.now c.index.ensures c.strip_of-strip.ensures.value within in
    let told = strip_tells c.self.inside.polygons.items c.self.inside.bounds c.self.inside.scale c.self.inside.strips.items c.args.position c.self.invariant in
    let polygons = c.polygons.ensures ∙ sym c.self.view_is in
    c.holds.ensures ∙ ap (λ all. any_holds c.args.position 0 false (edges_at all c.index.result.now)) polygons ∙ ap (λ starts. any_holds c.args.position 0 false (edges_at c.self.inside.polygons.items starts)) here ∙ told
    ∙ ap (λ polygons. area_holds polygons c.args.position) c.self.view_is
