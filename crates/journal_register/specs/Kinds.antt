-- The transactions of the protocol, where one may be made.
use Rattle.std.specs.Prelude.{ℕ, ◌+◌, ◌==◌, ◌&&◌, nat_lt, if◌then◌else◌, Option, Some, None, option_map}
use Rattle.journal_file.specs.declared.log_end.LogEnd.{LogEnd}
use Rattle.journal_register.specs.declared.owner.Owner.{Owner}
use Rattle.journal_register.specs.declared.owner.TheConstants.{MOST_COUNT}
use Rattle.journal_register.specs.declared.head.Extent.{Extent}
use Rattle.journal_register.specs.declared.head.Generation.{Generation}
use Rattle.journal_register.specs.declared.head.Head.{Head}
use Rattle.journal_register.specs.declared.head.TheConstants.{NO_HEAD, FIRST_HEAD}
use Rattle.journal_register.specs.declared.transaction.Transaction.{Transaction}
use Rattle.journal_register.specs.Order.{is_generation, is_earlier}

-- it compares the owner, and writes nothing
abbrev pub comparing : Owner → Transaction
comparing owner =
    record { owner = owner; head = None; new_owner = None; new_head = None; chunk = None; deleted = None }

-- it compares both
abbrev pub comparing_both : Owner → Head → Transaction
comparing_both owner head = record (comparing owner) { head = Some head }

-- Makes the next owner from the one that was seen. The first claim of all puts the first head too.
abbrev pub claim_of : Owner → ℕ → Option Transaction
claim_of seen nonce =
    if nat_lt seen.epoch MOST_COUNT then Some (record (comparing seen) {
      head = if seen.epoch == 0 then Some NO_HEAD else None;
      new_owner = Some (record { epoch = seen.epoch + 1; nonce = nonce });
      new_head = if seen.epoch == 0 then Some FIRST_HEAD else None;
    })
    else None

-- the index of a chunk so many places behind the head
abbrev pub index_behind : Head → ℕ → Option ℕ
index_behind head place =
    if nat_lt (head.extent.chunks + place) MOST_COUNT then Some (head.extent.chunks + place) else None

-- puts a chunk behind the head, which stays
abbrev pub chunk_behind : Owner → Head → ℕ → Option Transaction
chunk_behind owner head place =
    option_map (λ index. record (comparing_both owner head) {
      chunk = Some (record { generation = head.extent.generation; index = index });
    }) (index_behind head place)

-- puts the last chunk of a group, and the head behind it, with the journal's end there
abbrev pub append_of : Owner → Head → ℕ → LogEnd → Option Transaction
append_of owner head place end =
    option_map (λ index. record (comparing_both owner head) {
      chunk = Some (record { generation = head.extent.generation; index = index });
      new_head = Some (record head {
        extent = record { generation = head.extent.generation; chunks = index + 1; end = end };
      });
    }) (index_behind head place)

-- shows that the owner lives
abbrev pub beat_of : Owner → Head → Option Transaction
beat_of owner head =
    if nat_lt head.beat MOST_COUNT then Some (record (comparing_both owner head) {
      new_head = Some (record head { beat = head.beat + 1 });
    })
    else None

-- puts a chunk of a generation that the owner makes: a later one than the head's
abbrev pub stage_of : Owner → Head → Generation → ℕ → Option Transaction
stage_of owner head generation index =
    if (generation.epoch == owner.epoch) && is_earlier head.extent.generation generation
    then Some (record (comparing owner) { chunk = Some (record { generation = generation; index = index }) })
    else None

-- puts a head of such a generation, as far as it was made
abbrev pub switch_of : Owner → Head → Extent → Option Transaction
switch_of owner head to =
    if (to.generation.epoch == owner.epoch) && is_earlier head.extent.generation to.generation
    then Some (record (comparing_both owner head) {
      new_head = Some (record head {
        extent = to;
        switch = record { from = head.extent; chunks = to.chunks; end = to.end };
      });
    })
    else None

-- deletes the chunks of a generation that isn't the head's
abbrev pub removal_of : Owner → Head → Generation → Option Transaction
removal_of owner head generation =
    if is_generation generation head.extent.generation then None
    else Some (record (comparing_both owner head) { deleted = Some generation })
