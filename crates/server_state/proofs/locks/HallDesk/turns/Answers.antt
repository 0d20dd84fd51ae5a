use Rattle.std.proofs.Common.{rules, ◌≡◌, ◌∙◌, ap, false}
use Rattle.std.proofs.Math.Logic.{∥∥₁_map}
use Rattle.server_state.proofs.locks.HallDesk.turns.Goals as goal

pub returns-else-self-clause-turns : goal.returns-else-self-clause-turns
returns-else-self-clause-turns g c =
    let d = c.args.self.now in
    let kept : d.is_lost ≡ false = search rules in
    let same = ap (λ f. f.seen.log) c.turns.ensures.front in
    rw (c.turns.ensures.place ∙ d.listed_there, same) (∥∥₁_map d.listed (λ are. are kept))
