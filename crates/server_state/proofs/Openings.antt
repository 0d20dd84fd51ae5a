-- How the list of a room or a desk begins.
use mathlib.Core.List.{IsPrefix}
use Rattle.std.proofs.Common.{◌≡◌, ℕ, ◌<◌, List, ◌++◌, length, get_or, map, Some, slice_get, option_map, refl, sym, ap, ◌∙◌, append_assoc}
use Rattle.std.proofs.lemmas.Option.{slice_get-map, slice_get_read}
use Rattle.server_state.specs.Openings.{BeginsAt, Openings}
use Rattle.server_state.specs.TurnItem.{TurnItem}

-- a list with more behind it begins as it did
pub prefix_more : {A : Type 0} (first items more all : List A) → IsPrefix first items → all ≡ items ++ more → IsPrefix first all
prefix_more first items more all (rest, whole) is = (rest ++ more, sym (append_assoc first rest more) ∙ ap (λ xs. xs ++ more) whole ∙ sym is)

-- the same of a desk's list
pub begins_more : (openings : Openings) (place : ℕ) (items more all : List TurnItem) → BeginsAt openings place items → all ≡ items ++ more → BeginsAt openings place all
begins_more openings place items more all begins is =
    record { opening = begins.opening; is_its = begins.is_its; begins = prefix_more begins.opening items more all begins.begins is }

-- what is read of the lock at an index
pub read_at : {L X : Type 0} (f : L → X) (locks : List L) (k : ℕ) (lock : L) → k < length locks → lock ≡ get_or locks k lock → slice_get (map f locks) k ≡ Some (f lock)
read_at f locks k lock within is = slice_get-map f locks k ∙ ap (option_map f) (slice_get_read locks (length locks) k lock refl within is)
