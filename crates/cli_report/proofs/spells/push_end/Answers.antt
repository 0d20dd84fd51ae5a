use Rattle.std.proofs.Common.{ap, subst, ◌∙◌}
use Rattle.std.proofs.lemmas.Result.{on_ok_weaker}
use Rattle.cli_report.specs.Page.{end_with, spell_pieces}
use Rattle.cli_report.specs.Pieces.{IsWritten}
use Rattle.cli_report.specs.Texts.{Appends}
use Rattle.cli_report.proofs.spells.push_end.Goals as goal

pub returns-in_ok-spell-in-Some : goal.returns-in_ok-spell-in-Some
returns-in_ok-spell-in-Some c =
    on_ok_weaker c.push_spell.result
    (λ made. subst (λ pieces. Appends (IsWritten c.args.zone.now pieces) c.args.out.now.items c.push_spell.new.out.items)
    (ap spell_pieces c.in_ok-spell-in-Some.ensures ∙ ap (end_with c.args.span.now c.args.samples.now) c.in-Some.ensures) made)
    c.push_spell.ensures

pub returns-in-None : goal.returns-in-None
returns-in-None c =
    on_ok_weaker c.push_pieces.result
    (λ made. subst (λ pieces. Appends (IsWritten c.args.zone.now pieces) c.args.out.now.items c.push_pieces.new.out.items)
    (ap (end_with c.args.span.now c.args.samples.now) c.in-None.ensures) made)
    c.push_pieces.ensures
