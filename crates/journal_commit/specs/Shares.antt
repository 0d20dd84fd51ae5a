-- What may wait is shared out among the clients.
use Rattle.std.specs.Prelude.{◌≡◌, ℕ, ◌+◌, ◌*◌, ◌≤◌, max, List, ◌∷◌, ◌++◌, sum_by}
use Rattle.journal_commit.specs.declared.decisions.Usage.{Usage}
use Rattle.journal_commit.specs.declared.decisions.TheConstants.{MOST_TEXTS, MOST_BYTES, MOST_TEXTS_OF_ONE, MOST_BYTES_OF_ONE, LEAST_BYTES}

-- with so much more it has no more than its share, and next to what all have then there is one reservation for each
-- other that has nothing
abbrev pub MayReserve : Usage → Usage → ℕ → Usage → Type 0
MayReserve own all without more =
    (own.texts + more.texts ≤ MOST_TEXTS_OF_ONE)
    × (own.bytes + more.bytes ≤ MOST_BYTES_OF_ONE)
    × (all.texts + more.texts + without ≤ MOST_TEXTS)
    × (all.bytes + more.bytes + without * LEAST_BYTES ≤ MOST_BYTES)

-- how many payloads a client counts for: what it has, and at least one
abbrev pub texts_kept : Usage → ℕ
texts_kept usage = max usage.texts 1

-- how many bytes it counts for: what it has, and at least `LEAST_BYTES`
abbrev pub bytes_kept : Usage → ℕ
bytes_kept usage = max usage.bytes LEAST_BYTES

-- what all count for is within the limits
abbrev pub IsShared : List Usage → Type 0
IsShared usages = (sum_by texts_kept usages ≤ MOST_TEXTS) × (sum_by bytes_kept usages ≤ MOST_BYTES)

-- What all have, and how many others have nothing, from one client's view: it counts by what it has, and each other
-- client that has something by what that counts for.
abbrev pub AreCounted : Usage → List Usage → Usage → ℕ → Type 0
AreCounted own others all without =
    (all.texts + without ≡ own.texts + sum_by texts_kept others) × (all.bytes + without * LEAST_BYTES ≡ own.bytes + sum_by bytes_kept others)

-- both together
abbrev pub both : Usage → Usage → Usage
both one other = record { texts = one.texts + other.texts; bytes = one.bytes + other.bytes }

-- One reservation is left for each: what may be reserved keeps all within the limits, and where all are, a client that
-- has nothing may reserve a payload, of LEAST_BYTES at the most.
abbrev pub OneIsLeftForEach : Type 0
OneIsLeftForEach =
    (before after : List Usage) (own all more : Usage) (without : ℕ) → IsShared (before ++ own ∷ after) → AreCounted own (before ++ after) all without
    → (MayReserve own all without more → IsShared (before ++ both own more ∷ after))
    × (own ≡ record { texts = 0; bytes = 0 } → more.texts ≡ 1 → more.bytes ≤ LEAST_BYTES → MayReserve own all without more)
