use Rattle.std.proofs.Common.{◌≡◌, ℕ, ◌+◌, suc, List, ◌++◌, sym, ap, subst, arith}
use Rattle.journal_register.specs.declared.transaction.Transaction.{Transaction}
use Rattle.journal_register.specs.Register.{Register, Message}
use Rattle.journal_remote.specs.Passing.{Exchanges}
use Rattle.journal_remote.specs.Laid.{Lays}
use Rattle.journal_remote.proofs.Passing.{between_with}
use Rattle.journal_remote.proofs.Laying.{part_is, part_puts, lay_part}
use Rattle.journal_remote.proofs.group.put_behind.Goals as goal

pub returns-in-Applied-clause-laid : goal.returns-in-Applied-clause-laid
returns-in-Applied-clause-laid g c =
    let x = c.in-Applied.ensures.goes in
    let t = c.in-Some.transaction in
    let owner = c.args.tenure.owner in
    let head = c.args.tenure.head in
    let place = c.args.place in
    let bytes = c.args.bytes.now in
    let sends = g.E.Engine.sends c.args.engine.now in
    let more = g.E.Engine.sends c.send.new.engine in
    let is_own = g.E.Engine.is_own c.args.engine.now in
    let sent : Message = record { transaction = t; bytes = bytes } in
    let is = part_is owner head place t (sym c.in-Some.ensures) in
    let e : suc place ≡ place + 1 = omega arith in
    between_with (g.E.Engine.register c.args.engine.now) (g.E.Engine.register c.send.new.engine) (Exchanges is_own more sent x.0)
    (λ l m. (k : Register) (done : List ℕ) → Lays owner head place done sends k l → Lays owner head (place + 1) (done ++ bytes) more k m)
    x.2
    (λ l m _ _ y k done lays. subst (λ (n : ℕ). Lays owner head n (done ++ bytes) more k m) e
    (lay_part owner head place done is_own sends more k l m sent x.0 (part_puts owner head place t is)
    (ap (λ (z : Transaction). z.new_head) is) c.in-Applied.ensures.sent c.requires.own y (sym x.1) lays))
