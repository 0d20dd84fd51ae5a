-- Texts that are put together of others.
use Rattle.std.specs.Prelude.{◌≡◌, ℕ, List, [], ◌∷◌, ◌++◌}

-- the text of each of these, in turn
abbrev pub Spells : {A : Type 0} → (A → List ℕ → Type 0) → List A → List ℕ → Type 0
Spells {A} IsText [] text = text ≡ []
Spells {A} IsText (x ∷ xs) text = (first rest : List ℕ) × IsText x first × Spells IsText xs rest × (text ≡ first ++ rest)

-- the new one is the old one with such a text behind it
abbrev pub Appends : (List ℕ → Type 0) → List ℕ → List ℕ → Type 0
Appends IsText old new = (text : List ℕ) × IsText text × (new ≡ old ++ text)
