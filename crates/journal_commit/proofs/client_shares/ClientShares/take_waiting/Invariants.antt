use Rattle.std.proofs.Common.{◌≡◌, ◌+◌, ◌++◌, map, take, drop, length}
use Rattle.journal_commit.specs.Tables.{bytes_in, untaken}
use Rattle.journal_commit.proofs.client_shares.ClientShares.take_waiting.Given as goal

-- what was taken so far, and what each has then
abbrev pub invariant-loop-client : goal.invariant-loop-client
invariant-loop-client l = record {
  bytes : l.bytes + bytes_in l.self.each.items ≡ bytes_in l.fn.self.each.items;
  taken : l.self.each.items ≡ map untaken (take l.client l.fn.self.each.items) ++ drop l.client l.fn.self.each.items;
  clients : length l.self.each.items ≡ length l.fn.self.each.items;
}
