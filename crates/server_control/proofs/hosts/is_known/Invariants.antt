use Rattle.std.proofs.Common.{◌≡◌, map, drop, string_bytes}
use Rattle.server_control.specs.Hosts.{is_known}
use Rattle.server_control.proofs.hosts.is_known.Given as goal

abbrev pub invariant-loop-name : goal.invariant-loop-name
invariant-loop-name l = is_known (map string_bytes (drop l.name-index l.names)) l.host ≡ is_known (map string_bytes l.names) l.host
