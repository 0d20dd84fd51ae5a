-- Texts to which a member is appended.
use Rattle.std.proofs.Common.{◌≡◌, ℕ, List, ◌++◌, Option, ap, ◌∙◌}
use Rattle.mds_text.specs.Tree.{Json}

-- a known text, and behind it a member whose value is known
pub behind : (shown : Option Json → List ℕ) (before : List ℕ) {t u s : List ℕ} {v w : Option Json} → t ≡ u ++ before ++ shown v → u ≡ s → v ≡ w → t ≡ s ++ before ++ shown w
behind shown before {s = s} {v = v} e p q = e ∙ ap (λ x. x ++ before ++ shown v) p ∙ ap (λ x. s ++ before ++ shown x) q
