use Rattle.std.proofs.Common.{◌≡◌, map, drop}
use Rattle.mds_text.specs.Tree.{items_of, members_of}
use Rattle.mds_text.specs.View.{view, member_view}
use Rattle.cli_documents.specs.Documents.{decimal_in, decimal_among}
use Rattle.cli_documents.proofs.drafting.+decimal_at.Given as goal

-- what was passed has no such number
abbrev pub invariant-decimal_in-loop-entry : goal.invariant-decimal_in-loop-entry
invariant-decimal_in-loop-entry l = decimal_in l.name (items_of (map view (drop l.entry-index l.entries))) ≡ decimal_in l.name (items_of (map view l.entries))

abbrev pub invariant-decimal_among-loop-member : goal.invariant-decimal_among-loop-member
invariant-decimal_among-loop-member l = decimal_among (members_of (map member_view (drop l.member-index l.members))) ≡ decimal_among (members_of (map member_view l.members))
