use Rattle.std.proofs.Common.{◌≡◌, ◌⊎◌, inl, inr, sym, ap, ◌∙◌, ◌++◌, map, length}
use Rattle.std.proofs.lemmas.List.{append-nil}
use Rattle.mds_geometry.specs.Strips.{edge_of}
use Rattle.mds_geometry.proofs.Seen.{zip_empty}
use Rattle.mds_geometry.proofs.gather.gather_ring.Goals as goal

pub returns : goal.returns
returns c =
    let ended : (length c.loop-from.from-iterator.a.rest.now ≡ 0) ⊎ (length c.loop-from.from-iterator.b.rest.now ≡ 0) =
    elim c.in-None.ensures.steps [ inl a ↦ inl a.1.0 | inr b ↦ inr b.1.0 ] in
    let none = zip_empty c.loop-from.from-iterator.a.rest.now c.loop-from.from-iterator.b.rest.now ended in
    sym (append-nil c.loop-from.all.items)
    ∙ ap (λ es. c.loop-from.all.items ++ map (edge_of c.args.polygon) es) (sym none)
    ∙ c.loop-from.invariant
