use Rattle.std.proofs.Common.{rules, tests}
use Rattle.std.proofs.lemmas.Iterator.Search.{any_from_yields_List}
use Rattle.std.proofs.lemmas.Iterator.Splits.{YieldsList-from_slice_split}
use Rattle.server_public.specs.AcceptField.{is_comma, takes}
use Rattle.server_public.proofs.accept_field.line_takes.Goals as goal

pub returns : goal.returns
returns c =
    any_from_yields_List takes _ _ _ c.any.ensures.ran
    (YieldsList-from_slice_split _ is_comma c.args.line.now c.split.ensures.rest c.split.ensures.done c.split.ensures.closure (λ x b q k. search (rules, tests)))
    (λ x b q k. search (rules, tests))
