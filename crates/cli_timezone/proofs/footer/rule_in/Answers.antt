use Rattle.std.proofs.Common.{rules}
use Rattle.cli_timezone.proofs.Lines.{not_plain}
use Rattle.cli_timezone.proofs.footer.rule_in.Goals as goal

pub returns-in_default-from_utf8 : goal.returns-in_default-from_utf8
returns-in_default-from_utf8 c = (c.in-Some.line.now, record { tzif = search rules; later = search rules; footer = c.in-Some.ensures }, not_plain c.in-Some.line.now c.in_default-from_utf8.ensures.cases.0)
