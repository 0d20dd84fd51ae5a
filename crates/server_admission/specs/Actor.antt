-- The index of a client among all clients.
use Rattle.std.specs.Prelude.{ℕ, ◌+◌, min}
use Rattle.mds_request.specs.declared.config.Actor.{Actor}
use Rattle.mds_request.specs.declared.config.Actor.TheVariants.{Author, Operator, Nobody}

-- anonymous, the author, and then the operators, as long as the index is a machine number
abbrev pub index_of : Actor → ℕ
index_of Nobody = 0
index_of Author = 1
index_of (Operator place) = min (place + 2) 0xFFFF_FFFF_FFFF_FFFF
