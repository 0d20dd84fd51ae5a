-- Payloads where all are one client's.
use Rattle.std.proofs.Common.{◌≡◌, ℕ, List, [], ◌∷◌}
use Rattle.journal_commit.specs.Clients.{AreOf}

pub all_are : (client_of : List ℕ → ℕ) (client : ℕ) (texts : List (List ℕ)) → ((text : List ℕ) → client_of text ≡ client) → AreOf client_of client texts
all_are client_of client [] alone = tt
all_are client_of client (text ∷ texts) alone = (alone text, all_are client_of client texts alone)
