-- The register of a journal as etcd keeps it, and what becomes of it by transactions, in whatever order they come:
-- late, more than once, or not at all.
use Rattle.std.specs.Prelude.{ℕ, suc, ◌==◌, ◌&&◌, Bool, true, false, List, [], ◌∷◌, if◌then◌else◌}
use Rattle.std.specs.Prelude.{Option, Some, None, unwrap_or}
use Rattle.journal_register.specs.declared.owner.Owner.{Owner}
use Rattle.journal_register.specs.declared.head.Generation.{Generation}
use Rattle.journal_register.specs.declared.head.Head.{Head}
use Rattle.journal_register.specs.declared.transaction.ChunkKey.{ChunkKey}
use Rattle.journal_register.specs.declared.transaction.Transaction.{Transaction}
use Rattle.journal_register.specs.Order.{is_owner, is_generation, is_head}

-- etcd's revision, which rises with each transaction that changes something; the values of the two keys; and the value
-- of the key of a generation's chunk, where there is one.
pub record Register : Type 0 where
  pub revision : ℕ
  pub owner : Owner
  pub head : Head
  pub chunk : Generation → ℕ → Option (List ℕ)

-- A transaction as it is sent, with the bytes of the chunk that it puts, where it puts one.
pub record Message : Type 0 where
  pub transaction : Transaction
  pub bytes : List ℕ

abbrev pub has_head : Option Head → Head → Bool
has_head None head = true
has_head (Some compared) head = is_head compared head

-- all that the transaction compares holds
abbrev pub holds : Register → Transaction → Bool
holds k t = is_owner t.owner k.owner && has_head t.head k.head

-- this chunk is put
abbrev pub is_at : Option ChunkKey → Generation → ℕ → Bool
is_at None generation index = false
is_at (Some key) generation index = is_generation key.generation generation && (key.index == index)

-- this generation's chunks are deleted
abbrev pub is_of : Option Generation → Generation → Bool
is_of None generation = false
is_of (Some deleted) generation = is_generation deleted generation

abbrev pub chunk_with : Register → Message → Generation → ℕ → Option (List ℕ)
chunk_with k m generation index =
    if is_at m.transaction.chunk generation index then Some m.bytes
    else if is_of m.transaction.deleted generation then None
    else k.chunk generation index

-- the register with all that the message puts and deletes
abbrev pub with_writes : Register → Message → Register
with_writes k m = record {
  revision = suc k.revision;
  owner = unwrap_or m.transaction.new_owner k.owner;
  head = unwrap_or m.transaction.new_head k.head;
  chunk = chunk_with k m;
}

-- a message comes: all of it is done where all that it compares holds, else nothing
abbrev pub after : Register → Message → Register
after k m = if holds k m.transaction then with_writes k m else k

-- these messages come, in this order
abbrev pub after_all : Register → List Message → Register
after_all k [] = k
after_all k (m ∷ ms) = after_all (after k m) ms
