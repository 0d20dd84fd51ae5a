-- Bytes of which none is below 32 have no line feed among them.
use Rattle.std.proofs.Common.{◌≡◌, ℕ, ◌≤◌, ◌==◌, List, [], ◌∷◌, true, not, ◌&&◌, refl, ap, ◌∙◌, arith}
use Rattle.std.specs.List.{All, AllByRecursion}
use Rattle.std.proofs.lemmas.List.Elements.{recursion_from_All}
use Rattle.std.proofs.lemmas.Bool.Decides.{nat_tests}
use Rattle.mds_request.specs.Reply.{is_line}

no_feed : (b : ℕ) → 32 ≤ b → not (b == 10) ≡ true
no_feed b h = grind (arith, nat_tests)

lines : (bytes : List ℕ) → AllByRecursion (λ b. 32 ≤ b) bytes → is_line bytes ≡ true
lines [] h = refl
lines (b ∷ bytes) h = ap (λ first. first && is_line bytes) (no_feed b h.0) ∙ lines bytes h.1

pub one_line : (bytes : List ℕ) → All (λ b. 32 ≤ b) bytes → is_line bytes ≡ true
one_line bytes h = lines bytes (recursion_from_All _ bytes h)
