use Rattle.std.proofs.Common.{◌≡◌, ◌<◌, ◌≤◌, Bor, List, map, max, ap, subst, sym, ◌∙◌, arith}
use Rattle.std.specs.Result.{IfOk}
use Rattle.mds_policy.specs.Policy.{policy_document}
use Rattle.mds_parallel.specs.Chunks.{IsTallyBy}
use Rattle.rayon.specs.Lists.{chunks_of, chunks_slice, chunks_size, min_len_base}
use Rattle.rayon.proofs.ListFacts.{AllZip-through, IfOk-then}
use Rattle.rayon.proofs.ToStd.{chunks_of-concat}
use Rattle.mds_match.specs.Row.{Row, row_of}
use Rattle.mds_match.specs.declared.vehicle.Vehicle.{Vehicle}
use Rattle.mds_verdict.proofs.Numbered.{map-map}
use Rattle.mds_parallel.proofs.Pieces.{whole, whole-map}
use Rattle.mds_parallel.proofs.chunked.tallies.Goals as goal

abbrev row : Bor Vehicle → Row
row v = row_of v.now

abbrev rows_of : Bor (List (Bor Vehicle)) → List Row
rows_of chunk = map row chunk.now

pub returns : goal.returns
returns g c =
    IfOk-then c.collect.result _ _ c.collect.ensures (λ v h.
    let chain = h.1 in
    let base = ap min_len_base c.map.ensures.base ∙ c.with_min_len.ensures.base in
    let slice = ap chunks_slice base ∙ c.par_chunks.ensures.slice in
    let size = ap chunks_size base ∙ c.par_chunks.ensures.size in
    let cut = chain.1 ∙ (λ i. chunks_of (max (size i) 1) (slice i)) in
    let together = ap whole cut ∙ chunks_of-concat (max c.max-size.result 1) c.args.vehicles.now (omega arith) in (
      map rows_of chain.0,
      ap whole (sym (map-map (map row) (λ (chunk : Bor (List (Bor Vehicle))). chunk.now) chain.0)) ∙ whole-map row (map (λ (chunk : Bor (List (Bor Vehicle))). chunk.now) chain.0) ∙ ap (map row) together,
      λ polygons finds. rw h.2 (AllZip-through rows_of _ _ (λ z y is. IfOk-then y _ _ (subst (λ f. IfOk y (IsTallyBy f.1.now (policy_document f.2.now) (rows_of z) f.3.now f.4.now)) c.map.ensures.f is) (λ tally made. made polygons finds)) chain.0 h.0 chain.2),
    ))
