-- Words that compared equal.
use Rattle.std.proofs.Common.{◌≡◌, ℕ, Bool, true, false, ◌&&◌, List, refl, sym}
use Rattle.std.proofs.lemmas.Slice.Eq.{bytes_eq-Decides}
use Rattle.std.specs.Str.{bytes_eq}

both_hold : (a b : Bool) → (a && b) ≡ true → (a ≡ true) × (b ≡ true)
both_hold true b h = (refl, h)
both_hold false b h = cc

-- two pairs of words are equal where the tests say so
pub both_same : (xs ys zs ws : List ℕ) → (bytes_eq xs ys && bytes_eq zs ws) ≡ true → (ys ≡ xs) × (ws ≡ zs)
both_same xs ys zs ws h =
    let hold = both_hold (bytes_eq xs ys) (bytes_eq zs ws) h in
    (sym ((bytes_eq-Decides xs ys).0 hold.0), sym ((bytes_eq-Decides zs ws).0 hold.1))
