use Rattle.std.proofs.Common.{◌≡◌, true, string_bytes}
use Rattle.std.specs.List.{All}
use Rattle.journal_gateway.specs.Members.{is_member}
use Rattle.journal_gateway.proofs.members.members_in.Given as goal

-- each of those so far may be one
abbrev pub invariant-members : goal.invariant-members
invariant-members l = All (λ member. is_member (string_bytes member) ≡ true) l.members.items
