use Rattle.std.proofs.Common.{ap, sym, ◌∙◌}
use Rattle.std.specs.List.{list_any}
use Rattle.mds_policy.specs.Policy.{rule_document}
use Rattle.mds_catalog.specs.Publication.{is_among}
use Rattle.server_public.proofs.Listed.{any_map}
use Rattle.server_public.proofs.making.names.Goals as goal

pub returns : goal.returns
returns c =
    c.is_in_rules.ensures
    ∙ sym (any_map (λ rule. is_among rule.geographies c.args.id) rule_document c.rules.result.now)
    ∙ ap (list_any (λ rule. is_among rule.geographies c.args.id)) c.rules.ensures
