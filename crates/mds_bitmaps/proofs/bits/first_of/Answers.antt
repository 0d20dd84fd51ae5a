use Rattle.std.proofs.Common.{sym, arith}
use Rattle.std.proofs.lemmas.Nat.{and_le_l}
use Rattle.mds_match.specs.Matching.{meets}
use Rattle.mds_bitmaps.specs.Masks.{is_open_at, matches}
use Rattle.mds_bitmaps.proofs.WordBits.{nowhere, lowest}
use Rattle.mds_bitmaps.proofs.Split.{row_and_time}
use Rattle.mds_bitmaps.proofs.bits.first_of.Goals as goal

pub returns-then-met-eq0-clause-first : goal.returns-then-met-eq0-clause-first
returns-then-met-eq0-clause-first c policy polygons row local few opens masks =
    sym (nowhere (is_open_at local) (matches polygons row) (λ r. meets r polygons row local) policy.rules c.args.active c.args.mask (λ r. row_and_time r polygons row local) few opens masks c.if-met-eq0.true)

pub returns-clause-first : goal.returns-clause-first
returns-clause-first c policy polygons row local few opens masks =
    sym (lowest (is_open_at local) (matches polygons row) (λ r. meets r polygons row local) policy.rules c.args.active c.args.mask (λ r. row_and_time r polygons row local) few opens masks
    (omega (arith, c.if-met-eq0.false)) (omega (arith, and_le_l c.args.active c.args.mask, c.ranges.active)))
