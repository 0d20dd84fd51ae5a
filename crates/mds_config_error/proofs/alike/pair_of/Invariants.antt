use Rattle.std.proofs.Common.{◌≡◌, map, drop}
use Rattle.mds_config_error.specs.Diagnosis.{key_of, pair_from, pair_of}
use Rattle.mds_config_error.specs.Relations.{operator}
use Rattle.mds_config_error.proofs.alike.pair_of.Given as goal

-- no pair begins before this place
abbrev pub invariant-loop-place : goal.invariant-loop-place
invariant-loop-place l =
    pair_from l.place (map (key_of l.fn.key) (map operator (drop l.place l.fn.operators))) ≡ pair_of l.fn.key (map operator l.fn.operators)
