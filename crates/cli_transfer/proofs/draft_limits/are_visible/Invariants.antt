use Rattle.std.proofs.Common.{◌≡◌, drop}
use Rattle.std.specs.List.{list_all}
use Rattle.cli_transfer.specs.DraftLimits.{is_visible_byte}
use Rattle.cli_transfer.proofs.draft_limits.are_visible.Given as goal

-- what was passed is visible
abbrev pub invariant-loop-byte : goal.invariant-loop-byte
invariant-loop-byte l = list_all is_visible_byte (drop l.byte-index l.bytes) ≡ list_all is_visible_byte l.bytes
