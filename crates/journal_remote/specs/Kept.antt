-- What an owner knows of its register.
use Rattle.std.specs.Prelude.{◌≡◌, ◌&&◌, ◌||◌, nat_lt, ℕ, Bool, true, false, List, Option, Some, None}
use Rattle.journal_register.specs.declared.owner.Owner.{Owner}
use Rattle.journal_register.specs.declared.head.Head.{Head}
use Rattle.journal_register.specs.declared.transaction.Transaction.{Transaction}
use Rattle.journal_register.specs.Order.{is_owner, is_head, is_before}
use Rattle.journal_register.specs.Register.{Register, Message}
use Rattle.journal_remote.specs.Joined.{Joins}
use Rattle.journal_remote.specs.Ends.{EndsBehind, no_end}

-- a transaction of this owner, and no claim
abbrev pub IsOf : Owner → Transaction → Type 0
IsOf owner t = (t.owner ≡ owner) × (t.new_owner ≡ None)

-- it compares a head before this one
abbrev pub compares_earlier : Option Head → Head → Bool
compares_earlier None head = false
compares_earlier (Some compared) head = is_before compared head

-- All that was sent for this owner compares a head before this one: once the register has this head, none of it is done
-- any more, however late it comes.
abbrev pub AreSettled : (Message → Bool) → Owner → Head → Type 0
AreSettled sends owner head =
    (m : Message) → sends m ≡ true → IsOf owner m.transaction → compares_earlier m.transaction.head head ≡ true

-- the register has this owner and this head, or another owner has come since
abbrev pub is_current : Owner → Head → Register → Bool
is_current owner head k = nat_lt owner.epoch k.owner.epoch || (is_owner owner k.owner && is_head head k.head)

-- While the register has this owner, the chunks below the head are these bytes. They are whole records, whose list ends
-- where the head says: at its position, with its checksum and its count.
pub record Keeps (owner : Owner) (head : Head) (bytes : List ℕ) (register : Option Register) : Type 0 where
  pub joined : (k : Register) → register ≡ Some k → k.owner ≡ owner
      → Joins (k.chunk head.extent.generation) head.extent.chunks bytes
  pub ended : EndsBehind no_end bytes head.extent.end
