-- The register in memory: what it holds, and what was sent to it.
use Rattle.std.specs.Prelude.{◌≡◌, ◌⊎◌, ℕ, ◌==◌, ◌&&◌, ◌||◌, Bool, true, false, List, [], ◌∷◌, bytes_eq}
use Rattle.std.specs.Prelude.{if◌then◌else◌, Option, Some, None}
use Rattle.journal_register.specs.declared.owner.Owner.{Owner}
use Rattle.journal_register.specs.declared.head.Generation.{Generation}
use Rattle.journal_register.specs.declared.outcome.Answer.{Answer}
use Rattle.journal_register.specs.declared.outcome.Answer.TheVariants.{Missing}
use Rattle.journal_register.specs.declared.transaction.ChunkKey.{ChunkKey}
use Rattle.journal_register.specs.declared.transaction.Transaction.{Transaction}
use Rattle.journal_register.specs.Lawful.{IsLawful}
use Rattle.journal_register.specs.Order.{is_owner, is_generation, is_head}
use Rattle.journal_register.specs.Outcomes.{answer_of}
use Rattle.journal_register.specs.Register.{Register, Message, is_at, is_of, after}
use Rattle.journal_remote.specs.declared.memory_register.ChunkWrite.{ChunkWrite}
use Rattle.journal_remote.specs.declared.memory_register.MemoryRegister.{MemoryRegister}
use Rattle.journal_remote.specs.declared.memory_engine.MemoryMessage.{MemoryMessage}

-- the chunk with this index of a generation, by what was written to chunks, the latest first
abbrev pub chunk_in : List ChunkWrite → Generation → ℕ → Option (List ℕ)
chunk_in [] generation index = None
chunk_in (w ∷ ws) generation index =
    if is_at w.put generation index then Some w.bytes.items
    else if is_of w.deleted generation then None
    else chunk_in ws generation index

abbrev pub register_of : MemoryRegister → Register
register_of r = record { revision = r.revision; owner = r.owner; head = r.head; chunk = chunk_in r.writes.items }

-- both stand there and are the same by the test, or neither does
abbrev pub is_option : {X : Type 0} → (X → X → Bool) → Option X → Option X → Bool
is_option same None None = true
is_option same None (Some y) = false
is_option same (Some x) None = false
is_option same (Some x) (Some y) = same x y

abbrev pub is_key : ChunkKey → ChunkKey → Bool
is_key one other = is_generation one.generation other.generation && (one.index == other.index)

abbrev pub is_transaction : Transaction → Transaction → Bool
is_transaction t u =
    is_owner t.owner u.owner && is_option is_head t.head u.head && is_option is_owner t.new_owner u.new_owner
    && is_option is_head t.new_head u.new_head && is_option is_key t.chunk u.chunk
    && is_option is_generation t.deleted u.deleted

abbrev pub is_message : Message → Message → Bool
is_message m n = is_transaction m.transaction n.transaction && bytes_eq m.bytes n.bytes

abbrev pub message_of : MemoryMessage → Message
message_of m = record { transaction = m.transaction; bytes = m.bytes.items }

-- the message is among those that were sent
abbrev pub is_sent : List MemoryMessage → Message → Bool
is_sent [] m = false
is_sent (x ∷ xs) m = is_message m (message_of x) || is_sent xs m

-- every owner's messages but claims are sent by way of the one engine
abbrev pub any_owner : Owner → Bool
any_owner owner = true

-- A message comes and is answered; or it is lost, and nothing comes back.
abbrev pub Comes : Message → Answer → Register → Register → Type 0
Comes m answer k l =
    ((answer ≡ Missing) × (l ≡ k))
    ⊎ (IsLawful m.transaction × (answer ≡ answer_of k m.transaction) × (l ≡ after k m))
