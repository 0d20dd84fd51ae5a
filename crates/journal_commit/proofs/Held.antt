-- What is reserved for payloads is enough for their records.
use Rattle.std.proofs.Common.{ℕ, ◌≤◌, List, [], ◌∷◌, arith}
use Rattle.journal_file.specs.Records.{extent}
use Rattle.journal_commit.specs.Reservations.{held_for}

pub extent_held : (texts : List (List ℕ)) → extent texts ≤ held_for texts
extent_held [] = omega arith
extent_held (text ∷ texts) = omega (arith, extent_held texts)
