use Rattle.std.proofs.Common.{◌≡◌, filter, map, take}
use Rattle.mds_text.specs.View.{member_view}
use Rattle.server_public.specs.Withdrawal.{is_not_end}
use Rattle.server_public.proofs.with_end.members_with_end.Given as goal

-- the members so far, but for the end
abbrev pub invariant-loop-member : goal.invariant-loop-member
invariant-loop-member l = map member_view l.told.items ≡ filter is_not_end (map member_view (take l.member-index l.members))
