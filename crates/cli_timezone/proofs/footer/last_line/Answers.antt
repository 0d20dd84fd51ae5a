use Rattle.std.proofs.Common.{arith}
use Rattle.cli_timezone.proofs.Lines.{behind, no_line}
use Rattle.cli_timezone.proofs.footer.last_line.Goals as goal

pub returns-in-Some : goal.returns-in-Some
returns-in-Some c = behind c.args.text.now c.in-Some.place c.in-Some.ensures.0.high c.in-Some.ensures.1 (λ k low. c.in-Some.ensures.0.after k low)

pub returns-in-None : goal.returns-in-None
returns-in-None c line is = no_line c.args.text.now line (λ k. c.in-None.ensures k (omega arith)) is
