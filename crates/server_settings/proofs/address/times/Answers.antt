use Rattle.std.proofs.Common.{sym, ap, ◌∙◌, arith}
use Rattle.server_settings.specs.Address.{begins_with}
use Rattle.server_settings.proofs.Words.{taken, passed}
use Rattle.server_settings.proofs.address.times.Goals as goal
use Rattle.server_settings.proofs.address.times.Goals.{then-begins_with, else-begins_with}

pub loop-place-preserved : goal.loop-place-preserved
loop-place-preserved c =
    let w = c.args.word.now in
    let t = c.args.text.now in
    let i = c.loop-place.place in
    let here = c.begins_with.ensures ∙ ap (begins_with w) c.split_at.ensures.back in
    elim c.if-begins_with.branch [
      | then-begins_with b ↦
          let one = taken w t i c.loop-place-test.true (sym here ∙ b.if-begins_with.true) in (
            omega (arith, b.count-is, c.loop-place.invariant.0),
            omega (arith, b.count-is, one, c.loop-place.invariant.1),
          )
      | else-begins_with b ↦
          let none = passed w t i c.loop-place-test.true (sym here ∙ b.if-begins_with.false) in (
            omega (arith, b.count-is, c.loop-place.invariant.0),
            omega (arith, b.count-is, none, c.loop-place.invariant.1),
          )
    ]
