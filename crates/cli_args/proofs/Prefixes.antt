-- Lists of texts without their last one.
use Rattle.std.proofs.Common.{◌≡◌, ◌-◌, List, length, map, take, ap, ◌∙◌}
use Rattle.std.proofs.lemmas.List.{length-map, take-map}

-- to map and to leave out the last may be exchanged
pub front_of_texts : {X Y : Type 0} (f : X → Y) (xs : List X) → take (length (map f xs) - 1) (map f xs) ≡ map f (take (length xs - 1) xs)
front_of_texts f xs = ap (λ n. take (n - 1) (map f xs)) (length-map xs f) ∙ take-map f (length xs - 1) xs
