use Rattle.std.proofs.Common.{◌∙◌}
use Rattle.server_app.specs.OperatorNames.{badge_view}
use Rattle.mds_text.specs.Printed.{comma_if}
use Rattle.server_app.proofs.Listed.{entry_is}
use Rattle.server_app.proofs.compliance_list.push_compliance.Goals as goal

pub returns : goal.returns
returns c =
    entry_is c.args.text.now.items (comma_if c.args.is_later) c.args.body.now (badge_view c.args.operator.now) _ _ _ c.in_ok-push_comma.ensures
    (c.deref.ensures.value ∙ c.in_ok-name.ensures) c.in_ok-push_object.ensures
