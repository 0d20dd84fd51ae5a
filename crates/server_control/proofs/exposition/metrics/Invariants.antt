use Rattle.std.proofs.Common.{◌≡◌, string_bytes, flat_map, take}
use Rattle.server_control.specs.Lines.{line_text}
use Rattle.server_control.proofs.exposition.metrics.Given as goal

abbrev pub invariant-loop-line : goal.invariant-loop-line
invariant-loop-line l = string_bytes l.text ≡ flat_map line_text (take l.line-index l.lines)
