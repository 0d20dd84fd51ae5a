use Rattle.std.proofs.Common.{rules, tests}
use Rattle.std.proofs.lemmas.Iterator.Search.{find_from_yields_List}
use Rattle.std.proofs.lemmas.Iterator.Splits.{YieldsList-from_slice_split}
use Rattle.server_routes.specs.Query.{is_ampersand, is_at}
use Rattle.server_routes.proofs.query.first_at.Goals as goal

pub returns : goal.returns
returns c =
    find_from_yields_List is_at _ _ _ c.find.ensures.ran
    (YieldsList-from_slice_split _ is_ampersand c.args.query.now c.split.ensures.rest c.split.ensures.done c.split.ensures.closure (λ x b q k. search (rules, tests)))
    (λ x b q k. search (rules, tests))
