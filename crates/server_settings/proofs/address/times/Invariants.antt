use Rattle.std.proofs.Common.{◌≡◌, ◌≤◌, ◌+◌, drop}
use Rattle.server_settings.specs.Address.{times}
use Rattle.server_settings.proofs.address.times.Given as goal

-- the places so far, and those at and behind this one
abbrev pub invariant-loop-place : goal.invariant-loop-place
invariant-loop-place l = (l.count ≤ l.place) × (l.count + times l.word (drop l.place l.text) ≡ times l.word l.text)
