use Rattle.std.proofs.Common.{◌≡◌, ◌++◌, List, map, length}
use denote.Shadow.{shadow}
use denote.Text.{Utf8}
use Rattle.journal_folder.specs.Compactions.{Compaction, compaction_of, AreCompactions, text_of}
use Rattle.journal_folder.proofs.compactions.read_compactions.Given as goal

-- Those so far are compactions, and theirs is the text in front of the rest. Any compactions of the whole text have behind
-- them such as the rest is of.
abbrev pub invariant-loop-line : goal.invariant-loop-line
invariant-loop-line l = shadow (Utf8 l.rest)
    × (AreCompactions (map compaction_of l.compactions.items)
    × (text_of (map compaction_of l.compactions.items) ++ l.rest ≡ l.fn.text)
    × ((all : List Compaction) → AreCompactions all → text_of all ≡ l.fn.text
    → (more : List Compaction) × AreCompactions more × (text_of more ≡ l.rest)))

abbrev pub decreases-loop-line : goal.decreases-loop-line
decreases-loop-line l = length l.rest
