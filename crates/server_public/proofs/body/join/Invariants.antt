use Rattle.std.proofs.Common.{◌≡◌, ◌++◌, ◌∷◌, map, take}
use Rattle.std.specs.List.{flat_map}
use Rattle.server_public.proofs.body.join.Given as goal

-- those so far, each after a comma
abbrev pub invariant-loop-text : goal.invariant-loop-text
invariant-loop-text l = l.body.items ≡ l.initial.body.items ++ flat_map (λ t. 44 ∷ t) (map (λ t. t.now) (take l.text-index l.rest))
