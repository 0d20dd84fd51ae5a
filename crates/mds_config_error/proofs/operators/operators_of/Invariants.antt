use Rattle.std.proofs.Common.{◌≡◌, map, drop, vec_len}
use Rattle.mds_json.specs.Node.{node_view}
use Rattle.mds_config_error.specs.Diagnosis.{each_from}
use Rattle.mds_config_error.specs.Relations.{operator}
use Rattle.mds_config_error.proofs.Turns.{with_front}
use Rattle.mds_config_error.proofs.operators.operators_of.Given as goal

-- what was read and what is left are the whole list
abbrev pub invariant-loop-entry : goal.invariant-loop-entry
invariant-loop-entry l =
    record {
      count : vec_len l.operators ≡ l.entry-index;
      whole : with_front (map operator l.operators.items) (each_from l.entry-index (map node_view (drop l.entry-index l.entries))) ≡ each_from 0 (map node_view l.entries);
    }
