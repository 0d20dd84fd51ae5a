-- The entries of a list, as JSON, and which errors a value that is no list has.
use Rattle.std.specs.Prelude.{List, [], ◌∷◌, map, Result, Ok, Err}
use Rattle.mds_text.specs.Fault.{Fault, IsCaused}
use Rattle.mds_text.specs.Tree.{Json}
use Rattle.mds_text.specs.declared.fault.TextFault.{TextFault}
use Rattle.mds_json.specs.Node.{node_view}
use Rattle.mds_json.specs.declared.entries.Entries.{Entries}
use Rattle.mds_json.specs.declared.node.Node.{Node}

-- those that were built, where there are any, else those that are borrowed
abbrev pub made_or_lent : List Node → List Node → List Node
made_or_lent [] lent = lent
made_or_lent (n ∷ made) lent = n ∷ made

abbrev pub entries_view : Entries → List Json
entries_view e = map node_view (made_or_lent e.made.items e.lent.now)

-- Where the definition refuses, an error names a reason and isn't out of memory: the value is refused before anything
-- is allocated.
abbrev pub IsCausedWhere : {X Y : Type 0} → Result Y Fault → Result X TextFault → Type 0
IsCausedWhere (Ok y) result = Unit {0}
IsCausedWhere (Err fault) result = IsCaused result
