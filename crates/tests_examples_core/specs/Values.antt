-- JSON values.
use Rattle.std.specs.Prelude.{ℕ, zero, suc}
use Rattle.mds_text.specs.Tree.{Json, list, no_items, item}

-- an empty list within so many lists
abbrev pub nested : ℕ → Json
nested zero = list no_items
nested (suc n) = list (item (nested n) no_items)
