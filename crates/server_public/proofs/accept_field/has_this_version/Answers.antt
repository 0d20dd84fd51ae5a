use Rattle.std.proofs.Common.{rules, tests}
use Rattle.std.proofs.lemmas.Iterator.Search.{all_from_yields_List}
use Rattle.std.proofs.lemmas.Iterator.Splits.{YieldsList-from_slice_split}
use Rattle.server_public.specs.AcceptField.{is_semicolon, is_this_version, trimmed}
use Rattle.server_public.proofs.accept_field.has_this_version.Goals as goal

pub returns : goal.returns
returns c =
    all_from_yields_List (λ p. is_this_version (trimmed p)) _ _ _ c.all.ensures.ran
    (YieldsList-from_slice_split _ is_semicolon c.args.range.now c.split.ensures.rest c.split.ensures.done c.split.ensures.closure (λ x b q k. search (rules, tests)))
    (λ x b q k. search (rules, tests))
