use Rattle.std.proofs.Common.{ap, sym, ◌∙◌}
use Rattle.uuid.specs.Text.{parsed}
use Rattle.server_routes.proofs.Identified.{of_none, of_text}
use Rattle.server_routes.proofs.public_target.identifier.Goals as goal

pub returns-in-Ok : goal.returns-in-Ok
returns-in-Ok c =
    c.read.ensures ∙ ap parsed c.in-Ok.ensures.cases.0 ∙ sym (of_text c.args.text.now c.in-Ok.ensures.cases.1)

pub returns-in-Err : goal.returns-in-Err
returns-in-Err c = sym (of_none c.args.text.now c.in-Err.ensures.cases.0)
