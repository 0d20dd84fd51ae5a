use Rattle.std.proofs.Common.{◌≡◌, ℕ, ◌+◌, Bool, List, not, map, drop, find, Some, None, ap, sym, ◌∙◌, arith}
use Rattle.std.specs.List.{flat_map}
use Rattle.std.specs.Option.{option_or}
use Rattle.mds_policy.specs.Policy.{rule_document}
use Rattle.mds_catalog.specs.Publication.{publication_of, is_geography_there}
use Rattle.mds_catalog.specs.Catalogue.{publications_of}
use Rattle.mds_catalog.proofs.Found.{rules_at}
use Rattle.mds_catalog.proofs.catalogue.Catalogue.missing_in_rules.Goals as goal

pub returns-in-Some : goal.returns-in-Some
returns-in-Some c =
    let p : List ℕ → Bool = λ id. not (is_geography_there (publications_of c.args.self.now) (publication_of c.args.batch.now) id) in
    let rest = find p (flat_map (λ rule. rule.geographies) (map rule_document (drop (c.loop-rule.rule-index + 1) c.args.rules.now))) in
    let turn = rules_at p c.args.rules.now c.loop-rule.rule-index c.rule-item.result (omega arith) (cc) in
    let found : Some c.in-Some.id ≡ find p c.rule-item.result.geographies.items = c.in-Some.ensures ∙ ap (find p) c.deref.ensures.value in
    ap (λ o. option_or o rest) found ∙ sym turn ∙ c.loop-rule.invariant

pub loop-rule-preserved : goal.loop-rule-preserved
loop-rule-preserved c =
    let p : List ℕ → Bool = λ id. not (is_geography_there (publications_of c.args.self.now) (publication_of c.args.batch.now) id) in
    let rest = find p (flat_map (λ rule. rule.geographies) (map rule_document (drop (c.loop-rule.rule-index + 1) c.args.rules.now))) in
    let turn = rules_at p c.args.rules.now c.loop-rule.rule-index c.rule-item.result (omega arith) (cc) in
    let none : None ≡ find p c.rule-item.result.geographies.items = c.in_default.ensures ∙ ap (find p) c.deref.ensures.value in
    ap (λ o. option_or o rest) none ∙ sym turn ∙ c.loop-rule.invariant
