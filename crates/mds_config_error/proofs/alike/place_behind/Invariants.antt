use Rattle.std.proofs.Common.{◌≡◌, ◌+◌, map, drop, bytes_eq}
use Rattle.std.specs.List.{position_from}
use Rattle.mds_config_error.specs.Diagnosis.{key_of}
use Rattle.mds_config_error.specs.Relations.{operator}
use Rattle.mds_config_error.proofs.alike.place_behind.Given as goal

-- a search from here on finds what the whole search finds
abbrev pub invariant-loop-behind : goal.invariant-loop-behind
invariant-loop-behind l =
    position_from (bytes_eq (key_of l.fn.key (operator l.fn.first))) (l.fn.from + l.behind) (map (key_of l.fn.key) (map operator (drop l.behind l.fn.others)))
    ≡ position_from (bytes_eq (key_of l.fn.key (operator l.fn.first))) l.fn.from (map (key_of l.fn.key) (map operator l.fn.others))
