-- Tables of the rules that vehicles can meet.
use Rattle.std.specs.Prelude.{List, All}
use Rattle.mds_match.specs.declared.resolved.ResolvedPolicy.{ResolvedPolicy}
use Rattle.mds_match.specs.Resolved.{Suffices}
use Rattle.mds_parallel.specs.declared.table.CandidateRules.{CandidateRules}
use Rattle.mds_parallel.specs.declared.table.CandidateTable.{CandidateTable}

-- the first rule that vehicles of this pair meet is among its rules
abbrev pub IsServed : ResolvedPolicy → CandidateRules → Type 0
IsServed resolved pair = Suffices resolved pair.vehicle_type pair.state pair.numbers.items

-- the same for each pair of the table
abbrev pub IsTableOf : ResolvedPolicy → CandidateTable → Type 0
IsTableOf resolved table = All (IsServed resolved) table.pairs.items
