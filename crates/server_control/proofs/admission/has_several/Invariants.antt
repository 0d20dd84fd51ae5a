use Rattle.std.proofs.Common.{◌≡◌, map, drop, if◌then◌else◌}
use Rattle.httparse.specs.Spans.{header_bytes}
use Rattle.server_control.specs.Admission.{has_field, has_several}
use Rattle.server_control.proofs.admission.has_several.Given as goal

-- after the first, one more is enough
abbrev pub invariant-loop-header : goal.invariant-loop-header
invariant-loop-header l =
    (if l.is_found then has_field l.name (map (header_bytes l.bytes) (drop l.header-index l.headers))
    else has_several l.name (map (header_bytes l.bytes) (drop l.header-index l.headers)))
    ≡ has_several l.name (map (header_bytes l.bytes) l.headers)
