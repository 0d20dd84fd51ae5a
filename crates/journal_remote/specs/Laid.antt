-- A group of chunks that is put behind the head, before the head moves.
use Rattle.std.specs.Prelude.{◌≡◌, ◌⊎◌, ◌<◌, ◌+◌, ℕ, Bool, true, List, ◌++◌, Some, None, IsSomeAnd}
use Rattle.journal_file.specs.declared.log_end.LogEnd.{LogEnd}
use Rattle.journal_register.specs.declared.owner.Owner.{Owner}
use Rattle.journal_register.specs.declared.head.Head.{Head}
use Rattle.journal_register.specs.Register.{Register, Message}
use Rattle.journal_remote.specs.Joined.{Joins}
use Rattle.journal_remote.specs.Kept.{IsOf, compares_earlier}

-- The message put one of the first so many chunks behind the head, where its bytes stand: if it comes again, it changes
-- nothing.
pub record IsLaid (head : Head) (count : ℕ) (k : Register) (m : Message) : Type 0 where
  pub compared : m.transaction.head ≡ Some head
  pub moves_nothing : m.transaction.new_head ≡ None
  pub deletes_nothing : m.transaction.deleted ≡ None
  pub stands : IsSomeAnd m.transaction.chunk (λ key.
      (key.generation ≡ head.extent.generation) × (key.index < head.extent.chunks + count)
      × (k.chunk key.generation key.index ≡ Some m.bytes))

-- What was sent for this owner compares a head before this one, or put one of the chunks behind it.
abbrev pub AreLaid : (Message → Bool) → Owner → Head → ℕ → Register → Type 0
AreLaid sends owner head count k =
    (m : Message) → sends m ≡ true → IsOf owner m.transaction
    → (compares_earlier m.transaction.head head ≡ true) ⊎ IsLaid head count k m

-- From one register on the head stayed, and so many chunks with these bytes came to stand behind it.
pub record Laid (owner : Owner) (head : Head) (count : ℕ) (bytes : List ℕ) (sends : Message → Bool)
    (k l : Register) : Type 0 where
  pub began : k.owner ≡ owner
  pub owned : l.owner ≡ owner
  pub headed : l.head ≡ head
  pub joined : (before : List ℕ) → Joins (k.chunk head.extent.generation) head.extent.chunks before
      → Joins (l.chunk head.extent.generation) (head.extent.chunks + count) (before ++ bytes)
  pub sent : AreLaid sends owner head count l

-- or another owner has come since
abbrev pub Lays : Owner → Head → ℕ → List ℕ → (Message → Bool) → Register → Register → Type 0
Lays owner head count bytes sends k l = (owner.epoch < l.owner.epoch) ⊎ Laid owner head count bytes sends k l

-- what was sent for this owner compares no head behind this one
abbrev pub CompareNoLater : (Message → Bool) → Owner → Head → Type 0
CompareNoLater sends owner head =
    (m : Message) → sends m ≡ true → IsOf owner m.transaction
    → (compares_earlier m.transaction.head head ≡ true) ⊎ (m.transaction.head ≡ Some head)

-- the head behind a group whose last chunk stands so many places behind the head
abbrev pub moved_head : Head → ℕ → LogEnd → Head
moved_head head place end = record head {
  extent = record {
    generation = head.extent.generation;
    chunks = head.extent.chunks + place + 1;
    end = end;
  };
}

-- From one register to the other its owner moved the head over a group with these bytes.
pub record Appended (owner : Owner) (head next : Head) (bytes : List ℕ) (k l : Register) : Type 0 where
  pub began : k.owner ≡ owner
  pub owned : l.owner ≡ owner
  pub headed : l.head ≡ next
  pub joined : (before : List ℕ) → Joins (k.chunk head.extent.generation) head.extent.chunks before
      → Joins (l.chunk next.extent.generation) next.extent.chunks (before ++ bytes)
