use Rattle.std.proofs.Common.{sym, subst, ◌∙◌}
use Rattle.std.proofs.Math.Logic.{∥∥₁_map}
use Rattle.server_durable.specs.Logged.{OwnsTurns}
use Rattle.server_durable.proofs.Logging.{of_some}
use Rattle.server_durable.proofs.desk_records.DeskRecords.learn.Goals as goal

pub invariant_of-self : goal.invariant_of-self
invariant_of-self g c =
    let mine = c.args.self.now in
    record {
      owned = mine.owned;
      numbered = mine.numbered;
      of_desk = of_some c.in-Some.turns (λ t. t.place) mine.place (c.in-Some.ensures.place ∙ sym c.requires.desk);
      logged = ∥∥₁_map (c.requires.logged c.in-Some.ensures.whole.0)
          (λ are kept. subst (OwnsTurns g.K.HallName.configuration g.N.LogName.client_of mine.own) (sym c.in-Some.ensures.whole.1) are);
    }
