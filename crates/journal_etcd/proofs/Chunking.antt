-- Steps of reading chunks: what is left to be read goes on from what was read.
use Rattle.std.proofs.Common.{◌≡◌, ℕ, ◌+◌, ◌-◌, ◌<◌, ◌≤◌, zero, suc, List, ◌++◌, Option, Some, None, Result, Ok, Err, refl, sym, ap, ◌∙◌, arith}
use Rattle.json.specs.Find.{at}
use Rattle.json.specs.Json.{Json}
use Rattle.journal_register.specs.declared.transaction.ChunkKey.{ChunkKey}
use Rattle.journal_etcd.specs.declared.fault.AnswerError.{AnswerError}
use Rattle.journal_etcd.specs.declared.fault.AnswerError.TheVariants.{NoMemory, Fault}
use Rattle.journal_etcd.specs.declared.fault.AnswerFault.{AnswerFault}
use Rattle.journal_etcd.specs.Chunks.{Run, chunk_in, chunks_from}
use Rattle.journal_etcd.specs.Reading.{Fails}

some_left : (most count : ℕ) → count < most → most - count ≡ suc (most - (count + 1))
some_left most count less = omega (arith, less)

none_left : (most count : ℕ) → most ≤ count → most - count ≡ zero
none_left most count more = omega (arith, more)

chunk_on : (prefix : List ℕ) (from : ChunkKey) (pairs pair : Json) (most count : ℕ) (bytes chunk : List ℕ)
    → at count pairs ≡ Some pair → chunk_in prefix from.generation (from.index + count) pair ≡ Ok chunk
    → chunks_from prefix from pairs (suc most) count bytes ≡ chunks_from prefix from pairs most (count + 1) (bytes ++ chunk)
unfolding chunks_from
chunk_on prefix from pairs pair most count bytes chunk is found = rw (is, found) refl

chunk_bad : (prefix : List ℕ) (from : ChunkKey) (pairs pair : Json) (most count : ℕ) (bytes : List ℕ) (fault : AnswerFault)
    → at count pairs ≡ Some pair → chunk_in prefix from.generation (from.index + count) pair ≡ Err fault
    → chunks_from prefix from pairs (suc most) count bytes ≡ Err fault
unfolding chunks_from
chunk_bad prefix from pairs pair most count bytes fault is found = rw (is, found) refl

chunk_none : (prefix : List ℕ) (from : ChunkKey) (pairs : Json) (most count : ℕ) (bytes : List ℕ) → at count pairs ≡ None
    → chunks_from prefix from pairs most count bytes ≡ Ok (count, bytes)
unfolding chunks_from
chunk_none prefix from pairs zero count bytes is = refl
chunk_none prefix from pairs (suc most) count bytes is = rw is refl

chunk_last : (prefix : List ℕ) (from : ChunkKey) (pairs : Json) (count : ℕ) (bytes : List ℕ)
    → chunks_from prefix from pairs zero count bytes ≡ Ok (count, bytes)
unfolding chunks_from
chunk_last prefix from pairs count bytes = refl

-- a further chunk is read
pub chunks_on : (prefix : List ℕ) (from : ChunkKey) (pairs pair : Json) (most count : ℕ) (bytes chunk : List ℕ) (read : Result Run AnswerFault)
    → chunks_from prefix from pairs (most - count) count bytes ≡ read
    → count < most → Some pair ≡ at count pairs → chunk_in prefix from.generation (from.index + count) pair ≡ Ok chunk
    → chunks_from prefix from pairs (most - (count + 1)) (count + 1) (bytes ++ chunk) ≡ read
chunks_on prefix from pairs pair most count bytes chunk read on less is found =
    sym (chunk_on prefix from pairs pair (most - (count + 1)) count bytes chunk (sym is) found)
    ∙ sym (ap (λ n. chunks_from prefix from pairs n count bytes) (some_left most count less)) ∙ on

-- a pair isn't the next chunk
pub chunks_bad : (prefix : List ℕ) (from : ChunkKey) (pairs pair : Json) (most count : ℕ) (bytes : List ℕ) (error : AnswerError) (read : Result Run AnswerFault)
    → chunks_from prefix from pairs (most - count) count bytes ≡ read
    → count < most → Some pair ≡ at count pairs → Fails error (chunk_in prefix from.generation (from.index + count) pair)
    → Fails error read
chunks_bad prefix from pairs pair most count bytes NoMemory read on less is found = tt
chunks_bad prefix from pairs pair most count bytes (Fault fault) read on less is found =
    sym on ∙ ap (λ n. chunks_from prefix from pairs n count bytes) (some_left most count less)
    ∙ chunk_bad prefix from pairs pair (most - (count + 1)) count bytes fault (sym is) found

-- there is no further pair
pub chunks_end : (prefix : List ℕ) (from : ChunkKey) (pairs : Json) (most count : ℕ) (bytes : List ℕ) (read : Result Run AnswerFault)
    → chunks_from prefix from pairs (most - count) count bytes ≡ read → None ≡ at count pairs
    → read ≡ Ok (count, bytes)
chunks_end prefix from pairs most count bytes read on is =
    sym on ∙ chunk_none prefix from pairs (most - count) count bytes (sym is)

-- all that were asked for are read
pub chunks_done : (prefix : List ℕ) (from : ChunkKey) (pairs : Json) (most count : ℕ) (bytes : List ℕ) (read : Result Run AnswerFault)
    → chunks_from prefix from pairs (most - count) count bytes ≡ read → most ≤ count
    → read ≡ Ok (count, bytes)
chunks_done prefix from pairs most count bytes read on more =
    sym on ∙ ap (λ n. chunks_from prefix from pairs n count bytes) (none_left most count more)
    ∙ chunk_last prefix from pairs count bytes
