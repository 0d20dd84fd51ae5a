use Rattle.std.proofs.Common.{◌-◌, take, ap, sym, ◌∙◌}
use Rattle.std.specs.Io.BufRead.{ends_with_byte}
use Rattle.mds_script.proofs.Gathered.{return_dropped, no_return}
use Rattle.mds_script.proofs.gather.close.Goals as goal
use Rattle.mds_script.proofs.gather.close.Goals.{then-ends_with_return, else-ends_with_return}

pub returns-clause-line : goal.returns-clause-line
returns-clause-line c =
    let old = c.args.line.now in
    let test = c.ends_with_return.ensures ∙ ap (ends_with_byte 13) c.deref.ensures.value in
    elim c.if-ends_with_return.branch [
      | then-ends_with_return w ↦
          return_dropped old.items c.if-ends_with_return.line.items (sym test ∙ w.if-ends_with_return.true)
          (ap (λ v. v.items) w.line-is ∙ (w.pop.ensures.rest ∙ ap (λ n. take (n - 1) old.items) old.ok.0))
      | else-ends_with_return w ↦
          ap (λ v. v.items) w.line-is ∙ no_return old.items (sym test ∙ w.if-ends_with_return.false)
    ]
