use Rattle.std.proofs.Common.{ap, sym, ◌∙◌}
use Rattle.server_public.specs.Period.{as_given, number_in}
use Rattle.server_public.proofs.Numbers.{at_none, at_text}
use Rattle.server_public.proofs.period.moment_at.Goals as goal

pub returns-in-Ok : goal.returns-in-Ok
returns-in-Ok c =
    c.as_given.ensures ∙ ap as_given c.number.ensures ∙ ap (λ text. as_given (number_in text)) c.in-Ok.ensures.cases.0
    ∙ sym (at_text c.args.value.now c.in-Ok.ensures.cases.1)

pub returns-in-Err : goal.returns-in-Err
returns-in-Err c = sym (at_none c.args.value.now c.in-Err.ensures.cases.0)
