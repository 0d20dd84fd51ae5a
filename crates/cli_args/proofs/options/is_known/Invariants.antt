use Rattle.std.proofs.Common.{◌≡◌, map, drop, bytes_eq}
use Rattle.std.specs.List.{list_any}
use Rattle.cli_args.proofs.options.is_known.Given as goal

-- the word is among the names that are left, if it is among all
abbrev pub invariant-loop-name : goal.invariant-loop-name
invariant-loop-name l =
    list_any (bytes_eq l.word) (map (λ n. n.now) (drop l.name-index l.names)) ≡ list_any (bytes_eq l.word) (map (λ n. n.now) l.names)
