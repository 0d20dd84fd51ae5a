-- Durability: what no crash takes away.
use Rattle.std.specs.Prelude.{◌≡◌, ℕ, Bool, List, [], ◌∷◌, ◌++◌, if◌then◌else◌}
use mathlib.Core.List.{IsPrefix}
use Rattle.journal_commit.specs.History.{AreSynced}

module _ {L : Type 0} (may_be : L → List (List ℕ) → Type 0) (is_synced : L → Type 0) where
  -- synced payloads begin with these
  abbrev pub AreDurable : List (List ℕ) → Type 0
  AreDurable texts = (synced : List (List ℕ)) × IsPrefix texts synced × AreSynced may_be is_synced synced

-- the payloads end with this one
abbrev pub IsLast : List ℕ → List (List ℕ) → Type 0
IsLast text texts = (before : List (List ℕ)) × (texts ≡ before ++ text ∷ [])

-- the payloads end with these, in their order and with nothing between
abbrev pub AreLast : List (List ℕ) → List (List ℕ) → Type 0
AreLast last texts = (before : List (List ℕ)) × (texts ≡ before ++ last)

-- those of a list whose flags are set; none after the last flag
abbrev pub chosen : {A : Type 0} → List Bool → List A → List A
chosen [] items = []
chosen (flag ∷ flags) [] = []
chosen (flag ∷ flags) (item ∷ items) = if flag then item ∷ chosen flags items else chosen flags items
