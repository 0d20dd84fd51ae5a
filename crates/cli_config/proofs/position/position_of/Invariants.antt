use Rattle.std.proofs.Common.{◌≡◌, ◌+◌, ◌≤◌, drop, take, min, length}
use Rattle.cli_config.specs.Positions.{place_at, place_behind}
use Rattle.cli_config.proofs.position.position_of.Given as goal

-- the rest leads to where the whole leads, and neither count is beyond the bytes
abbrev pub invariant-loop-byte : goal.invariant-loop-byte
invariant-loop-byte l =
    record {
      rest : place_behind (record { line = l.line; column = l.column }) (drop l.byte-index (take (min l.fn.offset (length l.fn.text)) l.fn.text)) ≡ place_at l.fn.text l.fn.offset;
      line : l.line ≤ l.byte-index + 1;
      column : l.column ≤ l.byte-index + 1;
    }
