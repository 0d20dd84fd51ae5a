-- BoundingBox that are widened element by element.
use Rattle.std.proofs.Common.{subst, ◌≡◌, sym, ℕ, ◌+◌, ◌<◌, ◌≤◌, true, List, length, take, get_or}
use Rattle.std.specs.List.{All}
use Rattle.std.proofs.lemmas.List.{take_all}
use Rattle.std.proofs.lemmas.List.Elements.{All-more, All-weaker, All-same}
use Rattle.mds_geometry.specs.declared.position.Position.{Position}
use Rattle.mds_geometry.specs.declared.bounds.BoundingBox.{BoundingBox}
use Rattle.mds_geometry.specs.Bounds.{is_within, AreWider, IsBounded}

-- what was proved of the first elements, weakened, and of the next one
pub all_more : {X : Type 0} (P Q : X → Type 0) (xs : List X) (i : ℕ) (x : X)
    → ((y : X) → P y → Q y) → i < length xs → x ≡ get_or xs i x → All P (take i xs) → Q x → All Q (take (i + 1) xs)
all_more P Q xs i x weaker lt is before here = All-more Q xs i x lt (All-weaker P Q weaker (take i xs) before) (subst Q is here)

pub all_taken : {X : Type 0} (P : X → Type 0) (xs : List X) (i : ℕ) → length xs ≤ i → All P (take i xs) → All P xs
all_taken P xs i le all = All-same P xs (take i xs) (sym (take_all i xs le)) all

pub bounded_wider : (narrow wide : BoundingBox) → AreWider narrow wide → (ring : List Position) → IsBounded narrow ring → IsBounded wide ring
bounded_wider narrow wide wider ring b =
    record { linear = b.linear; within = All-weaker (λ at. is_within narrow at ≡ true) (λ at. is_within wide at ≡ true) wider ring b.within }

pub all_bounded_wider : (narrow wide : BoundingBox) → AreWider narrow wide → (rings : List (List Position)) → All (IsBounded narrow) rings → All (IsBounded wide) rings
all_bounded_wider narrow wide wider rings b = All-weaker (IsBounded narrow) (IsBounded wide) (bounded_wider narrow wide wider) rings b
