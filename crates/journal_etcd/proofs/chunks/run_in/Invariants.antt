use Rattle.std.proofs.Common.{◌≡◌, ◌-◌, ◌≤◌, []}
use Rattle.json.specs.Value.{value_view}
use Rattle.journal_etcd.specs.Chunks.{chunks_from}
use Rattle.journal_etcd.proofs.chunks.run_in.Given as goal

-- what is left to be read goes on from what was read
abbrev pub invariant-chunks : goal.invariant-chunks
invariant-chunks l = record {
  within : l.count ≤ l.fn.most;
  on : chunks_from l.fn.keys.prefix.now l.fn.from (value_view l.fn.pairs) (l.fn.most - l.count) l.count l.bytes.items
      ≡ chunks_from l.fn.keys.prefix.now l.fn.from (value_view l.fn.pairs) l.fn.most 0 [];
}

abbrev pub decreases-chunks : goal.decreases-chunks
decreases-chunks l = l.fn.most - l.count
