-- When one journal was found to be the compacted form of another.
use Rattle.std.specs.Prelude.{◌≡◌, ℕ, List, Ok}
use Rattle.mds_request.specs.Configuration.{Configuration, read_configuration}
use Rattle.journal_compaction.specs.Compaction.{IsCompacted}

-- By the configuration of this text the one list is the compacted form of the other, and servers of both were found to
-- answer alike at some moment.
abbrev pub IsCompactedBy : List ℕ → (one other : List (List ℕ)) → Type 0
IsCompactedBy text one other =
    (configuration : Configuration) × (read_configuration text ≡ Ok configuration) × (at : ℕ) × IsCompacted configuration at one other
