use Rattle.std.proofs.Common.{◌≡◌, ◌++◌, map, drop}
use Rattle.journal_swap.proofs.catch_up_buffer.CatchUpBuffer.copy.Given as goal

-- those copied so far and those left are all
abbrev pub invariant-loop-text : goal.invariant-loop-text
invariant-loop-text l =
    record {
      copied : map (λ v. v.items) l.self.texts.items ++ map (λ v. v.items) (drop l.text-index l.texts) ≡ map (λ v. v.items) l.fn.self.texts.items ++ map (λ v. v.items) l.texts;
      keeping : l.self.is_keeping ≡ l.fn.self.is_keeping;
      seal : l.self.seal ≡ l.fn.self.seal;
    }
