-- How much room a journal may take in etcd.
use Rattle.std.specs.Prelude.{ℕ, ◌+◌, nat_le, Bool, if◌then◌else◌, Option, Some, None}
use Rattle.journal_register.specs.declared.head.Head.{Head}
use Rattle.journal_remote.specs.declared.budget.LogBudget.{LogBudget}
use Rattle.journal_remote.specs.declared.budget.LogUsage.{LogUsage}

-- A budget is at most half of etcd's quota: the quota is of its file, which has more bytes than the chunks, and doesn't
-- shrink where some are deleted.
abbrev pub budget_within : ℕ → ℕ → Option LogBudget
budget_within most quota = if nat_le (most + most) quota then Some (record { most = most }) else None

-- what the chunks take by a head: those of its generation, and those of the one that it left, until they are deleted
abbrev pub usage_of : Head → Bool → ℕ → ℕ → LogUsage
usage_of head is_left_deleted staged reserved = record {
  current = head.extent.end.position;
  left = if is_left_deleted then 0 else head.switch.from.end.position;
  staged = staged;
  reserved = reserved;
}

abbrev pub bytes_used : LogUsage → ℕ
bytes_used usage = usage.current + usage.left + usage.staged + usage.reserved

-- with so many bytes more the journal is within its budget
abbrev pub has_room : LogBudget → LogUsage → ℕ → Bool
has_room budget usage more = nat_le (bytes_used usage + more) budget.most
