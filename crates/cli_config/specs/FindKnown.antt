-- A member that the server reads, by its name.
use Rattle.std.specs.Prelude.{ℕ, List, Option, bytes_eq, find}
use Rattle.cli_config.specs.declared.members.KnownMember.{KnownMember}
use Rattle.cli_config.specs.Names.{name_of}

-- the one of these with this name
abbrev pub find_known : List ℕ → List KnownMember → Option KnownMember
find_known name members = find (λ k. bytes_eq name (name_of k)) members
