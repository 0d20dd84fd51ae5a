-- The keys of a register, under a prefix of its own.
use Rattle.std.specs.Prelude.{ℕ, List, ◌++◌, codes}
use Rattle.journal_register.specs.declared.head.Generation.{Generation}
use Rattle.journal_etcd.specs.Values.{hex_text}

unfoldable pub head_key : List ℕ → List ℕ
head_key prefix = prefix ++ codes "/head"

unfoldable pub owner_key : List ℕ → List ℕ
owner_key prefix = prefix ++ codes "/owner"

-- the first key behind these two
unfoldable pub behind_owner : List ℕ → List ℕ
behind_owner prefix = prefix ++ codes "/p"

-- what the keys of a generation's chunks begin with
unfoldable pub chunks_prefix : List ℕ → Generation → List ℕ
chunks_prefix prefix generation =
    prefix ++ codes "/c/" ++ hex_text generation.epoch ++ hex_text generation.attempt

unfoldable pub chunk_key : List ℕ → Generation → ℕ → List ℕ
chunk_key prefix generation index = chunks_prefix prefix generation ++ codes "/" ++ hex_text index

-- the first key of all of a generation's chunks, or before it, and the first behind them: `0` follows `/`
unfoldable pub chunks_begin : List ℕ → Generation → List ℕ
chunks_begin prefix generation = chunks_prefix prefix generation ++ codes "/"

unfoldable pub chunks_end : List ℕ → Generation → List ℕ
chunks_end prefix generation = chunks_prefix prefix generation ++ codes "0"
