use Rattle.std.proofs.Common.{◌≡◌, map, drop, bytes_eq}
use Rattle.std.specs.List.{position_from}
use Rattle.mds_request.specs.Configuration.{tokens}
use Rattle.mds_config_error.specs.Relations.{operator}
use Rattle.mds_config_error.proofs.alike.place_of_token.Given as goal

-- a search from here on finds what the whole search finds
abbrev pub invariant-loop-place : goal.invariant-loop-place
invariant-loop-place l =
    position_from (bytes_eq l.fn.token) l.place (tokens (map operator (drop l.place l.fn.operators))) ≡ position_from (bytes_eq l.fn.token) 0 (tokens (map operator l.fn.operators))
