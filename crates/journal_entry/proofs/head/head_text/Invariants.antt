use Rattle.std.proofs.Common.{◌≡◌, ◌∷◌, ◌++◌, map, take}
use Rattle.journal_entry.specs.Heads.{share_of, shares_text, head_word}
use Rattle.journal_entry.specs.declared.head.TheConstants.{LAYOUT}
use Rattle.journal_entry.proofs.head.head_text.Given as goal

abbrev pub invariant-loop-share : goal.invariant-loop-share
invariant-loop-share l = l.text.items ≡ head_word ++ (LAYOUT ∷ shares_text (map share_of (take l.share-index l.shares)))
