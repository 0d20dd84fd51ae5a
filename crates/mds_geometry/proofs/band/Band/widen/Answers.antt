use Rattle.std.proofs.Common.{arith, ◌≡◌, true, ◌&&◌, ℤ}
use Rattle.std.specs.Prelude.{◌≤ℤ◌, int_le}
use Rattle.std.proofs.lemmas.Int.{ints}
use Rattle.mds_geometry.proofs.band.Band.widen.Goals as goal

wider : (a b c d x : ℤ) → c ≤ℤ a → b ≤ℤ d → (int_le a x && int_le x b) ≡ true → (int_le c x && int_le x d) ≡ true
wider a b c d x low high h = grind (arith, ints)

pub returns-clause-wider : goal.returns-clause-wider
returns-clause-wider c = λ x h.
    wider c.args.self.now.least c.args.self.now.greatest _ _ x
    (omega (arith, ints, c.min-self.ensures.self_bound)) (omega (arith, ints, c.max-self.ensures.self_bound)) h
