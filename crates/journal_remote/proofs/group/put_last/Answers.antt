use Rattle.std.proofs.Common.{◌≡◌, ℕ, List, ◌++◌, sym, ap, subst, ◌∙◌}
use Rattle.std.specs.Prelude.{Some}
use Rattle.journal_register.specs.declared.head.Head.{Head}
use Rattle.journal_register.specs.declared.transaction.Transaction.{Transaction}
use Rattle.journal_register.specs.Register.{Register, Message}
use Rattle.journal_remote.specs.Kept.{AreSettled}
use Rattle.journal_remote.specs.Passing.{Between, Exchanges}
use Rattle.journal_remote.specs.Laid.{Lays, Appended, moved_head}
use Rattle.journal_remote.proofs.Passing.{between_with}
use Rattle.journal_remote.proofs.Laying.{last_is, last_puts, lay_last, no_later_on, settled_on, moved_later, some_head}
use Rattle.journal_remote.proofs.group.put_last.Goals as goal

pub returns-in-Applied-clause-head : goal.returns-in-Applied-clause-head
returns-in-Applied-clause-head g c =
    let t = c.in-Some.transaction in
    let moved = moved_head c.args.tenure.head c.args.place c.args.end in
    let is = last_is c.args.tenure.owner c.args.tenure.head c.args.place c.args.end t (sym c.in-Some.ensures) in
    some_head c.in-Some-new_head.next moved (sym c.in-Some-new_head.is ∙ ap (λ (z : Transaction). z.new_head) is)

pub returns-in-Applied-clause-appended : goal.returns-in-Applied-clause-appended
returns-in-Applied-clause-appended g c =
    let x = c.in-Applied.ensures.goes in
    let t = c.in-Some.transaction in
    let owner = c.args.tenure.owner in
    let head = c.args.tenure.head in
    let place = c.args.place in
    let end = c.args.end in
    let bytes = c.args.bytes.now in
    let a = g.E.Engine.register c.args.engine.now in
    let b = g.E.Engine.register c.send.new.engine in
    let sends = g.E.Engine.sends c.args.engine.now in
    let more = g.E.Engine.sends c.send.new.engine in
    let is_own = g.E.Engine.is_own c.args.engine.now in
    let sent : Message = record { transaction = t; bytes = bytes } in
    let moved = moved_head head place end in
    let is = last_is owner head place end t (sym c.in-Some.ensures) in
    let moves : t.new_head ≡ Some moved = ap (λ (z : Transaction). z.new_head) is in
    let next : c.in-Some-new_head.next ≡ moved = some_head c.in-Some-new_head.next moved (sym c.in-Some-new_head.is ∙ moves) in
    let appends : Head → Register → Register → Type 0 = λ n l m. (k : Register) (done : List ℕ) → Lays owner head place done sends k l → Appended owner head n (done ++ bytes) k m in
    subst (λ (n : Head). Between a b (appends n)) (sym next)
    (between_with a b (Exchanges is_own more sent x.0) (appends moved) x.2
    (λ l m _ _ y k done lays. lay_last owner head place end done is_own sends more k l m sent x.0 (last_puts owner head place end t is)
    moves c.in-Applied.ensures.sent c.requires.no_later c.requires.own y (sym x.1) lays))

pub returns-in-Applied-clause-settled : goal.returns-in-Applied-clause-settled
returns-in-Applied-clause-settled g c =
    let t = c.in-Some.transaction in
    let owner = c.args.tenure.owner in
    let head = c.args.tenure.head in
    let place = c.args.place in
    let end = c.args.end in
    let sends = g.E.Engine.sends c.args.engine.now in
    let more = g.E.Engine.sends c.send.new.engine in
    let sent : Message = record { transaction = t; bytes = c.args.bytes.now } in
    let moved = moved_head head place end in
    let is = last_is owner head place end t (sym c.in-Some.ensures) in
    let next : c.in-Some-new_head.next ≡ moved = some_head c.in-Some-new_head.next moved (sym c.in-Some-new_head.is ∙ ap (λ (z : Transaction). z.new_head) is) in
    subst (λ (n : Head). AreSettled more owner n) (sym next)
    (settled_on owner head moved more (moved_later head place end)
    (no_later_on owner head place sends more sent (last_puts owner head place end t is) c.in-Applied.ensures.sent c.requires.no_later))
