use Rattle.std.proofs.Common.{◌≡◌, ◌⊎◌, inl, inr, sym, ◌∙◌, length}
use Rattle.mds_geometry.proofs.Seen.{seen_all}
use Rattle.mds_geometry.proofs.ray.ray_test.Goals as goal

pub returns-clause-border : goal.returns-clause-border
returns-clause-border c =
    let ended : (length c.loop-from.from-iterator.a.rest.now ≡ 0) ⊎ (length c.loop-from.from-iterator.b.rest.now ≡ 0) =
    elim c.in-None.ensures.steps [ inl a ↦ inl a.1.0 | inr b ↦ inr b.1.0 ] in
    let seen = seen_all _ _ _ _ _ c.loop-from.invariant ended in
    ((λ h. absurd (cc)), (λ h. sym h ∙ seen.0))

pub returns-clause-odd : goal.returns-clause-odd
returns-clause-odd c =
    let ended : (length c.loop-from.from-iterator.a.rest.now ≡ 0) ⊎ (length c.loop-from.from-iterator.b.rest.now ≡ 0) =
    elim c.in-None.ensures.steps [ inl a ↦ inl a.1.0 | inr b ↦ inr b.1.0 ] in
    (seen_all _ _ _ _ _ c.loop-from.invariant ended).1
