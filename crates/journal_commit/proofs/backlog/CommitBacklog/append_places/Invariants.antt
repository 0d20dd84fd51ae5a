use Rattle.std.proofs.Common.{◌≡◌, ◌++◌, true, map}
use Rattle.std.specs.Vec.Iter.{into_iter_items}
use Rattle.journal_commit.specs.Clients.{AreOf}
use Rattle.journal_commit.specs.Durable.{chosen}
use Rattle.journal_commit.proofs.backlog.CommitBacklog.append_places.Given as goal

-- what was appended, with what is chosen of the payloads that are left, is what is to be appended; these are of the client
abbrev pub invariant-loop-text : goal.invariant-loop-text
invariant-loop-text g l = record {
  settled : l.is_settled ≡ true
      → l.self.queue.appended ++ chosen l.rest (map (λ v. v.items) (into_iter_items l.text-iterator))
      ≡ l.fn.self.queue.appended ++ chosen l.fn.kept (map (λ v. v.items) l.fn.places.texts.items);
  taken : l.self.queue.taken ≡ l.fn.self.queue.taken;
  owned : AreOf g.K.LogName.client_of l.fn.owner (map (λ v. v.items) (into_iter_items l.text-iterator));
}
