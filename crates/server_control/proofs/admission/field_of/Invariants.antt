use Rattle.std.proofs.Common.{◌≡◌, map, drop}
use Rattle.httparse.specs.Spans.{header_bytes}
use Rattle.server_control.specs.Admission.{field_of}
use Rattle.server_control.proofs.admission.field_of.Given as goal

-- the fields so far have another name
abbrev pub invariant-loop-header : goal.invariant-loop-header
invariant-loop-header l = field_of l.name (map (header_bytes l.bytes) (drop l.header-index l.headers)) ≡ field_of l.name (map (header_bytes l.bytes) l.headers)
