use Rattle.std.proofs.Common.{◌≡◌, map, take}
use Rattle.mds_text.specs.Tree.{text}
use Rattle.mds_text.specs.View.{view}
use Rattle.mds_world.proofs.bodies.words_tree.Given as goal

abbrev pub invariant-loop-word : goal.invariant-loop-word
invariant-loop-word l = map view l.texts.items ≡ map text (take l.word-index l.words)
