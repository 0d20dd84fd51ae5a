use Rattle.std.proofs.Common.{◌≡◌, ◌-◌, ◌++◌, ◌∷◌, drop, length, map, sym, ap, ◌∙◌, arith}
use Rattle.std.proofs.lemmas.Bool.Decides.{nat_tests}
use Rattle.std.proofs.lemmas.List.{length-drop, length-take-le, map_push}
use Rattle.cli_report.specs.Days.{grouped_by, is_of_rule}
use Rattle.cli_report.specs.Ranks.{span_view, spans, spans_from}
use Rattle.cli_report.proofs.Ruled.{all_found, one_more}
use Rattle.cli_report.proofs.ranking.rules_in.Goals as goal

pub rules-preserved : goal.rules-preserved
rules-preserved c =
    let all = c.args.ordered.now in
    let left = c.rules.left.now in
    let count = c.count_of_rule-count.result in
    let group = c.front_of-group.result.now in
    let rest = c.rest_of-rest.result.now in
    let within = c.count_of_rule-count.ensures.within in
    let long : length group ≡ count = ap length c.front_of-group.ensures ∙ length-take-le count left within in
    let over : length rest ≡ length left - count = ap length c.rest_of-rest.ensures ∙ length-drop count left in
    record {
      within = omega (arith, over, c.rules.invariant.within);
      found =
          ap (λ found. found ++ spans_from (length all - length rest) (grouped_by is_of_rule rest))
          (ap (map span_view) c.in_ok-push.ensures.items ∙ map_push span_view c.rules.rules.items c.in_ok-rule.rule)
          ∙ one_more (map span_view c.rules.rules.items) (spans all) left rest group (length all - length left) (length all - length rest)
          (span_view c.in_ok-rule.rule)
          (c.count_of_rule-count.ensures.group
          ∙ ap (λ g. g ∷ grouped_by is_of_rule (drop count left)) (sym c.front_of-group.ensures)
          ∙ ap (λ r. group ∷ grouped_by is_of_rule r) (sym c.rest_of-rest.ensures))
          c.in_ok-rule.ensures
          (omega (arith, long, over, within, c.rules.invariant.within))
          c.rules.invariant.found;
    }

pub returns : goal.returns
returns c =
    all_found (map span_view c.rules.rules.items) (spans c.args.ordered.now) c.rules.left.now (length c.args.ordered.now - length c.rules.left.now)
    (grind (arith, nat_tests, c.is_empty.ensures, c.rules-test.false)) c.rules.invariant.found
