-- The disk space reserved for payloads before they are appended.
use Rattle.std.specs.Prelude.{ℕ, ◌+◌, ◌≤◌, List, [], ◌∷◌, length}
use Rattle.journal_file.specs.Records.{extent}
use Rattle.journal_file.specs.Groups.{group_of}
use Rattle.journal_commit.specs.declared.backlog.TheConstants.{RECORD_OVERHEAD}

-- how many bytes are reserved for these payloads
abbrev pub held_for : List (List ℕ) → ℕ
held_for [] = 0
held_for (text ∷ texts) = length text + RECORD_OVERHEAD + held_for texts

-- However payloads are grouped, what is reserved for them is enough for their records and the mark.
abbrev pub PlacesAreEnough : Type 0
PlacesAreEnough =
    (position synced : ℕ) (text : List ℕ) (texts : List (List ℕ)) → extent (group_of position synced (text ∷ texts)) ≤ held_for (text ∷ texts)
