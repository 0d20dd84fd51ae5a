use Rattle.std.proofs.Common.{arith, sym, ◌∙◌}
use Rattle.std.proofs.lemmas.Bool.{eqb-false}
use Rattle.cli_timezone.proofs.Lines.{footer_of}
use Rattle.cli_timezone.proofs.footer.footer_of.Goals as goal

pub returns : goal.returns
returns c =
    let other = eqb-false _ 0 (sym c.is_empty.ensures ∙ c.if-is_empty.false) in
    footer_of (λ t. t.now) c.args.file.now c.last_line.result (omega (arith, other)) c.if-file-ne10.false c.last_line.ensures
