use Rattle.std.proofs.Common.{rules, tests, ◌≡◌, ◌∙◌, false, sym, bytes_eq}
use Rattle.std.specs.List.{list_any}
use Rattle.std.proofs.lemmas.Iterator.{YieldsList-from_slice}
use Rattle.std.proofs.lemmas.Iterator.Search.{any_from_yields_List}
use Rattle.cli_report_command.specs.Reports.{is_nothing}
use Rattle.cli_report_command.proofs.reporting.is_reported.Goals as goal

pub returns-else-is_empty : goal.returns-else-is_empty
returns-else-is_empty c =
    let named : c.any.result ≡ list_any (bytes_eq c.args.known.now.id) c.args.ids.now =
    any_from_yields_List (bytes_eq c.args.known.now.id) _ _ _ c.any.ensures.ran
    (YieldsList-from_slice c.args.ids.now c.iter.ensures.rest)
    (λ x b q k. search (rules, tests)) in
    let some : is_nothing c.args.ids.now ≡ false = sym c.is_empty.ensures ∙ c.if-is_empty.false in
    rw some named
