-- Whether a transaction keeps to the protocol, as a test: `IsLawful` follows from it.
use Rattle.std.specs.Prelude.{◌+◌, ◌==◌, ◌&&◌, ◌||◌, nat_lt, nat_le, not, Bool, true, false, Option, Some, None, unwrap_or}
use Rattle.journal_register.specs.declared.owner.Owner.{Owner}
use Rattle.journal_register.specs.declared.owner.TheConstants.{MOST_COUNT}
use Rattle.journal_register.specs.declared.head.Generation.{Generation}
use Rattle.journal_register.specs.declared.head.Head.{Head}
use Rattle.journal_register.specs.declared.transaction.ChunkKey.{ChunkKey}
use Rattle.journal_register.specs.declared.transaction.Transaction.{Transaction}
use Rattle.journal_register.specs.Order.{is_generation, is_before}

-- the owner that is put, where one is, is of the next epoch
abbrev pub claims_next : Owner → Option Owner → Bool
claims_next owner None = true
claims_next owner (Some next) = nat_lt owner.epoch MOST_COUNT && (next.epoch == owner.epoch + 1)

-- a head that is put comes behind one that is compared
abbrev pub moves_on : Option Head → Option Head → Bool
moves_on None head = true
moves_on (Some next) None = false
moves_on (Some next) (Some head) = is_before head next

-- it has the same generation, or one that isn't of a later owner
abbrev pub names_own : Option Head → Option Head → Owner → Bool
names_own None head owner = true
names_own (Some next) None owner = nat_le next.extent.generation.epoch owner.epoch
names_own (Some next) (Some head) owner =
    is_generation next.extent.generation head.extent.generation || nat_le next.extent.generation.epoch owner.epoch

-- a chunk is put behind the head that is compared, where one is
abbrev pub puts_behind : Option ChunkKey → Option Head → Bool
puts_behind None head = true
puts_behind (Some key) None = true
puts_behind (Some key) (Some head) =
    is_generation key.generation head.extent.generation && nat_le head.extent.chunks key.index

-- another generation is deleted than that of the head that is compared
abbrev pub deletes_left : Option Generation → Option Head → Bool
deletes_left None head = true
deletes_left (Some generation) None = false
deletes_left (Some generation) (Some head) = not (is_generation generation head.extent.generation)

abbrev pub is_lawful : Transaction → Bool
is_lawful t =
    claims_next t.owner t.new_owner && moves_on t.new_head t.head
    && names_own t.new_head t.head (unwrap_or t.new_owner t.owner) && puts_behind t.chunk t.head
    && deletes_left t.deleted t.head
