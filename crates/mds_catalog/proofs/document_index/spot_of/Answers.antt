use Rattle.std.proofs.Common.{Some, ap, sym, ◌∙◌}
use Rattle.mds_catalog.proofs.Ordered.{find_at, find_gap}
use Rattle.mds_catalog.proofs.document_index.spot_of.Goals as goal

pub returns-in-Ok : goal.returns-in-Ok
returns-in-Ok c = ap Some c.index-spots-at.is ∙ sym (find_at (λ s. s.id) _ c.args.id _ c.index-spots-at.result c.requires c.in-Ok.ensures.found)

pub returns-in-Err : goal.returns-in-Err
returns-in-Err c = sym (find_gap (λ s. s.id) _ c.args.id _ c.in-Err.ensures.gap)
