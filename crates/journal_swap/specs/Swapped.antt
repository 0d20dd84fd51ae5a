-- A log whose file may be a compacted one with the same effect.
use Rattle.std.specs.Prelude.{◌≡◌, ℕ, Bool, true, false, List, ◌++◌, length}
use Rattle.journal_file.specs.LogEnds.{IsSealed}
use Rattle.journal_file.specs.declared.log_end.LogEnd.{LogEnd}
use Rattle.journal_swap.specs.Leading.{Leads}

-- these are the payloads after the log end
abbrev pub AreBehind : LogEnd → (since held : List (List ℕ)) → Type 0
AreBehind seal since held = (part : List (List ℕ)) × (held ≡ part ++ since) × IsSealed seal part

-- All that was appended is this list. The log of its file may hold one that is equivalent to it, which is this list
-- itself where no other log took its place; and where copies of the payloads after a log end are kept, they are those
-- of the file.
pub record IsRolled (same : List (List ℕ) → List (List ℕ) → Type 0) (may_be : List (List ℕ) → Type 0) (is_exchanged is_keeping : Bool) (seal : LogEnd)
    (since : List (List ℕ)) (count : ℕ) (list : List (List ℕ)) : Type 0 where
  pub held : List (List ℕ)
  pub may : may_be held
  pub leads : Leads same held list
  pub counted : count ≡ length list
  pub own : is_exchanged ≡ false → held ≡ list
  pub behind : is_keeping ≡ true → AreBehind seal since held

-- The log may hold a list that is equivalent to one with this log end followed by these payloads: it ends with the same
-- ones.
pub record IsCaughtUp (same : List (List ℕ) → List (List ℕ) → Type 0) (may_be : List (List ℕ) → Type 0) (seal : LogEnd) (since : List (List ℕ)) : Type 0 where
  pub front : List (List ℕ)
  pub before : List (List ℕ)
  pub may : may_be (front ++ since)
  pub leads : Leads same front before
  pub sealed : IsSealed seal before
