use Rattle.std.proofs.Common.{rules, tests}
use Rattle.std.proofs.lemmas.Iterator.Search.{find_from_yields_List}
use Rattle.std.proofs.lemmas.Iterator.Splits.{YieldsList-from_slice_split}
use Rattle.server_public.specs.Period.{begins, is_ampersand}
use Rattle.server_public.proofs.period.parameter.Goals as goal

pub returns : goal.returns
returns c =
    find_from_yields_List (begins c.args.name.now) _ _ _ c.find.ensures.ran
    (YieldsList-from_slice_split _ is_ampersand c.args.query.now c.split.ensures.rest c.split.ensures.done c.split.ensures.closure (λ x b q k. search (rules, tests)))
    (λ x b q k. search (rules, tests))
