use Rattle.std.proofs.Common.{◌≡◌, Bool, map, take, subst, sym, ap, ◌∙◌, arith}
use Rattle.std.proofs.lemmas.List.{take_all}
use Rattle.mds_policy.specs.Policy.{Rule, rule_document}
use Rattle.mds_policy.specs.declared.rule.Rule as program
use Rattle.mds_bitmaps.specs.Masks.{HasBits, is_open_at}
use Rattle.mds_bitmaps.proofs.Split.{map-map}
use Rattle.mds_bitmaps.proofs.open_rules.open_bitmap.Goals as goal

pub returns : goal.returns
returns c =
    let test : Rule → Bool = is_open_at c.args.local in
    let rules = c.rules-rule-items.result.now in
    let of_program : program.Rule → Bool = λ r. test (rule_document r) in
    let all : map of_program (take c.loop-number.number rules) ≡ map test (map rule_document c.args.policy.now.rules.items) =
    ap (map of_program) (take_all c.loop-number.number rules (omega arith)) ∙ sym (map-map test rule_document rules) ∙ ap (map test) c.rules-rule-items.ensures in
    subst (λ bits. HasBits bits c.loop-number.mask) all c.loop-number.invariant
