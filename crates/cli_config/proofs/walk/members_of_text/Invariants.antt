use Rattle.std.proofs.Common.{◌≡◌, ◌≤◌, ◌++◌, map, drop}
use Rattle.cli_config.specs.LocatedMembers.{seen, spots_from, start}
use Rattle.cli_config.proofs.walk.members_of_text.Given as goal

-- what was found and what is left to find are the whole, and neither count is beyond the lexemes
abbrev pub invariant-loop-place : goal.invariant-loop-place
invariant-loop-place l =
    record {
      whole : map seen l.spots.items ++ spots_from l.fn.text l.walk (drop l.place l.fn.marks) ≡ spots_from l.fn.text start l.fn.marks;
      depth : l.walk.depth ≤ l.place;
      number : l.walk.place ≤ l.place;
    }
