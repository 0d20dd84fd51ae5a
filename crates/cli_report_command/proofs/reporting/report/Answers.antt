use Rattle.std.proofs.Common.{◌<◌, ℕ, List, length, map, sym, ap, ◌∙◌, subst}
use Rattle.std.specs.Prelude.{All}
use Rattle.std.proofs.lemmas.List.{length-map}
use Rattle.mds_request.specs.Configuration.{configuration, operator}
use Rattle.cli_report_command.proofs.reporting.report.Goals as goal

-- the places are of operators of the configuration
pub write_report-requires-after_bounds : goal.write_report-requires-after_bounds
write_report-requires-after_bounds g c κs within =
    let config = configuration c.in_ok-config.config in
    let known = c.operators-3.result.now in
    let places = c.in_ok-places.places.items in
    subst (λ (ps : List ℕ). All (λ (place : ℕ). place < length config.operators) ps) (sym c.deref-7.ensures.value)
    (subst (λ (count : ℕ). All (λ (place : ℕ). place < count) places)
    (sym (length-map known operator) ∙ ap length c.operators-3.ensures.all)
    c.in_ok-places.ensures.within)
