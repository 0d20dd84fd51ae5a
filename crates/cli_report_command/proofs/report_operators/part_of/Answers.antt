use Rattle.std.proofs.Common.{◌≡◌, ◌<◌, ℕ, List, get_or, length, map, sym, ap, ◌∙◌, subst, arith}
use Rattle.std.specs.Prelude.{Some, option_map, slice_get}
use Rattle.std.proofs.lemmas.List.{length-map}
use Rattle.std.proofs.lemmas.Option.{slice_get-map, slice_get-get_or}
use Rattle.mds_match.specs.Zone.{ZoneKind}
use Rattle.mds_catalog.specs.Catalogue.{publications_of}
use Rattle.mds_request.specs.Configuration.{Operator, configuration, operator}
use Rattle.journal_samples.specs.declared.sample.RuleSample.{RuleSample}
use Rattle.cli_report.specs.Names.{policies_in}
use Rattle.cli_report.specs.Rows as rows
use Rattle.cli_report_command.specs.Parts.{IsReportOf, told_of}
use Rattle.cli_report_command.proofs.report_operators.part_of.Goals as goal

-- the bytes are of the operator at this place, and of what the journals tell of it
pub returns : goal.returns
returns c =
    let source = c.args.source.now in
    let place = c.args.place in
    let known = c.operators.result.now in
    let one = get_or known place c.index-operators-place.result in
    let bytes = c.in_ok-bytes.bytes in
    let span = source.head.span in
    let reported : rows.Operator = record { id = one.id; name = c.name.result.now } in
    let policies = policies_in (publications_of c.catalogue.result.now) in
    let within : place < length known = omega (arith, ap length c.operators.ensures.all, length-map known operator, c.requires) in
    record {
      operator = reported;
      policies = policies;
      named =
          ap (λ (os : List Operator). option_map (λ o. o.id) (slice_get os place)) (sym c.operators.ensures.all)
          ∙ ap (option_map (λ o. o.id)) (slice_get-map operator known place
          ∙ ap (option_map operator) (slice_get-get_or known place c.index-operators-place.result within));
      says =
          subst (λ (zone : ZoneKind). IsReportOf zone span reported policies (told_of source place) bytes) c.zone.ensures
          (subst (λ (samples : List RuleSample). IsReportOf c.zone.result.now span reported policies samples bytes)
          (c.deref.ensures.value ∙ c.in-Ok.ensures)
          c.in_ok-bytes.ensures);
      counted = grind (arith, c.len.ensures, ap length c.in-Ok.ensures);
    }
