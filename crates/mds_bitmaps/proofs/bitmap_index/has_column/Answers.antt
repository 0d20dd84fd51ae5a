use Rattle.std.proofs.Common.{rules, tests, bytes_eq}
use Rattle.std.proofs.lemmas.Iterator.{YieldsList-from_slice}
use Rattle.std.proofs.lemmas.Iterator.Search.{any_from_yields_List}
use Rattle.mds_bitmaps.proofs.bitmap_index.has_column.Goals as goal

pub returns : goal.returns
returns c =
    any_from_yields_List (λ column. bytes_eq column.policy c.args.policy) _ _ _ c.any.ensures.ran
    (YieldsList-from_slice c.args.columns.now c.iter.ensures.rest)
    (λ x b q k. search (rules, tests))
