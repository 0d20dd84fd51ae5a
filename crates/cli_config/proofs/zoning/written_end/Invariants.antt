use Rattle.std.proofs.Common.{◌≡◌, ◌+◌, drop}
use Rattle.cli_config.specs.Pieces.{piece}
use Rattle.cli_config.specs.Zoning.{ended, written_end}
use Rattle.cli_config.proofs.zoning.written_end.Given as goal

-- the rest ends where the whole does
abbrev pub invariant-loop-byte : goal.invariant-loop-byte
invariant-loop-byte l =
    record {
      rest : ended l.at l.end (drop l.byte-index (piece l.fn.text l.fn.value.from l.fn.value.to)) ≡ written_end l.fn.text l.fn.value;
      place : l.at ≡ l.fn.value.from + l.byte-index;
    }
