-- Of a file without bytes nothing is read.
use Rattle.std.proofs.Common.{◌≡◌, ℕ, List, [], ◌∷◌, refl, arith}
use Rattle.journal_file.specs.Groups.{listed}
use Rattle.journal_file.specs.Records.{extent}

pub nothing_listed : (texts : List (List ℕ)) → 0 ≡ extent texts → listed texts ≡ []
nothing_listed [] none = refl
nothing_listed (text ∷ texts) none = absurd (omega (arith, none))
