-- The host names of a control port.
use Rattle.std.specs.Prelude.{◌≡◌, ℕ, List, [], ◌∷◌, ◌++◌, map, Bool, bytes_eq, codes, decimal, Option, None, Some, string_bytes}
use Rattle.std.specs.Char.{to_ascii_lowercase}
use Rattle.std.specs.List.{list_any}
use Rattle.server_control.specs.declared.hosts.Hosts.{Hosts}
use Rattle.server_control.specs.declared.hosts.Hosts.TheVariants.{Any, Named}

-- the same name, whatever the case of its letters (RFC 9110, sections 4.2.3 and 5.1)
abbrev pub same_name : List ℕ → List ℕ → Bool
same_name name other = bytes_eq (map to_ascii_lowercase name) (map to_ascii_lowercase other)

-- a name alone, and a name with the port
abbrev pub authorities : List ℕ → ℕ → List (List ℕ)
authorities name port = name ∷ (name ++ codes ":" ++ decimal port) ∷ []

abbrev pub configured : Option (List ℕ) → ℕ → List (List ℕ)
configured None port = []
configured (Some name) port = authorities name port

-- the address that it listens at, the one that a connection came to, the machine itself, and the
-- configured name
abbrev pub hosts_of : List ℕ → List ℕ → ℕ → Option (List ℕ) → List (List ℕ)
hosts_of listening reached port name =
    authorities listening port ++ authorities reached port ++ authorities (codes "localhost") port ++ configured name port

-- one of the hosts has this name
abbrev pub is_known : List (List ℕ) → List ℕ → Bool
is_known hosts host = list_any (λ known. same_name known host) hosts

-- these are the hosts, and no others
abbrev pub AreHosts : Hosts → List (List ℕ) → Type 0
AreHosts Any hosts = ⊥
AreHosts (Named names) hosts = map string_bytes names.items ≡ hosts
