use Rattle.std.proofs.Common.{arith}
use Rattle.std.proofs.lemmas.Bool.{MatchBool-at_true}
use Rattle.cli_config.specs.Grammar.{standing}
use Rattle.cli_config.proofs.Turns.{fault_on}
use Rattle.cli_config.proofs.grammar.fault_at.Goals as goal

pub loop-place-preserved : goal.loop-place-preserved
loop-place-preserved c =
    fault_on c.args.text.now (standing c.loop-place.stand) (standing c.step.new.self) c.args.marks.now c.loop-place.place _ (omega arith)
    (MatchBool-at_true {b = c.in_ok-step.field-0} _ _ c.if-not-branch.false c.in_ok-step.ensures) c.loop-place.invariant
