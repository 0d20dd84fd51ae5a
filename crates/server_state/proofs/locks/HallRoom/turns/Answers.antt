use Rattle.std.proofs.Common.{rules, ◌≡◌, ap, false}
use Rattle.std.proofs.Math.Logic.{∥∥₁_map}
use Rattle.server_state.proofs.locks.HallRoom.turns.Goals as goal

pub returns-then-not-self-clause-turns : goal.returns-then-not-self-clause-turns
returns-then-not-self-clause-turns g c =
    let r = c.args.self.now in
    let kept : r.is_lost ≡ false = search rules in
    let same = ap (λ f. f.seen.log) c.turns.ensures in
    rw same (∥∥₁_map r.listed (λ are. are kept))
