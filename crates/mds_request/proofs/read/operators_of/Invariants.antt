use Rattle.std.proofs.Common.{◌≡◌, map, drop, vec_len}
use Rattle.mds_text.specs.Fields.{each}
use Rattle.mds_json.specs.Node.{node_view}
use Rattle.mds_text.proofs.Lists.{with_front}
use Rattle.mds_request.specs.Configuration.{operator, operator_of}
use Rattle.mds_request.proofs.read.operators_of.Given as goal

-- what was read and what is left are the whole list
abbrev pub invariant-loop-entry : goal.invariant-loop-entry
invariant-loop-entry l =
    record {
      count : vec_len l.operators ≡ l.entry-index;
      whole : with_front (map operator l.operators.items) (each operator_of (map node_view (drop l.entry-index l.entries))) ≡ each operator_of (map node_view l.entries);
    }
