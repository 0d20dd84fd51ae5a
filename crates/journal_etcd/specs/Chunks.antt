-- A generation's chunks from one on, as they are asked for and answered.
use Rattle.std.specs.Prelude.{ℕ, ◌+◌, ◌-◌, ◌^◌, zero, suc, List, [], ◌++◌, codes, min, Option, Some, None, Result, Ok, Err}
use Rattle.std.specs.Fmt.{decimal}
use Rattle.json.specs.Find.{at}
use Rattle.json.specs.Json.{Json}
use Rattle.journal_register.specs.declared.head.Generation.{Generation}
use Rattle.journal_register.specs.declared.transaction.ChunkKey.{ChunkKey}
use Rattle.journal_etcd.specs.declared.fault.AnswerFault.{AnswerFault}
use Rattle.journal_etcd.specs.Keys.{chunk_key, chunks_end}
use Rattle.journal_etcd.specs.Reading.{◌>>=◌, member, value_in, json_of}
use Rattle.journal_etcd.specs.Requests.{range_members}

-- all from this chunk on to the last of its generation, so many at most
unfoldable pub chunks_json : List ℕ → ChunkKey → ℕ → List ℕ
chunks_json prefix from most =
    codes "{" ++ range_members (chunk_key prefix from.generation from.index) (chunks_end prefix from.generation)
    ++ codes ",\"limit\":\"" ++ decimal most ++ codes "\"}"

-- the bytes of a chunk, whose key and value a pair is
unfoldable pub chunk_in : List ℕ → Generation → ℕ → Json → Result (List ℕ) AnswerFault
chunk_in prefix generation index pair = value_in (chunk_key prefix generation index) pair

-- how many chunks there are, and their bytes
abbrev pub Run : Type 0
Run = ℕ × List ℕ

-- what is read where there is a further pair, and where there is none
abbrev pub if_pair : {A : Type 0} → Option Json → A → (Json → A) → A
if_pair None none some = none
if_pair (Some pair) none some = some pair

-- the chunks from an index on that pairs are from a place on, so many at most, behind those before that place
unfoldable pub chunks_from : List ℕ → ChunkKey → Json → ℕ → ℕ → List ℕ → Result Run AnswerFault
chunks_from prefix from pairs zero count bytes = Ok (count, bytes)
chunks_from prefix from pairs (suc most) count bytes =
    if_pair (at count pairs) (Ok (count, bytes)) (λ pair.
    chunk_in prefix from.generation (from.index + count) pair >>= λ chunk.
    chunks_from prefix from pairs most (count + 1) (bytes ++ chunk))

-- how many indices there are from a chunk's on, so many at most: they are below 2 ^ 64 - 1
abbrev pub places_from : ChunkKey → ℕ → ℕ
places_from from most = min most (2 ^ 64 - 1 - from.index)

unfoldable pub chunks_of : List ℕ → ChunkKey → ℕ → List ℕ → Result Run AnswerFault
chunks_of prefix from most body = do
  answer ← json_of body
  pairs ← member (codes "kvs") answer
  chunks_from prefix from pairs (places_from from most) 0 []
