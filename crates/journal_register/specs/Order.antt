-- When owners, generations and heads of a register are the same, and which come before which.
use Rattle.std.specs.Prelude.{◌+◌, ◌==◌, ◌&&◌, ◌||◌, nat_lt, Bool, if◌then◌else◌, Option, Some, None}
use Rattle.journal_file.specs.declared.log_end.LogEnd.{LogEnd}
use Rattle.journal_register.specs.declared.owner.Owner.{Owner}
use Rattle.journal_register.specs.declared.owner.TheConstants.{MOST_COUNT}
use Rattle.journal_register.specs.declared.head.Generation.{Generation}
use Rattle.journal_register.specs.declared.head.Extent.{Extent}
use Rattle.journal_register.specs.declared.head.Switch.{Switch}
use Rattle.journal_register.specs.declared.head.Head.{Head}

abbrev pub is_owner : Owner → Owner → Bool
is_owner owner other = (owner.epoch == other.epoch) && (owner.nonce == other.nonce)

abbrev pub is_generation : Generation → Generation → Bool
is_generation one other = (one.epoch == other.epoch) && (one.attempt == other.attempt)

abbrev pub is_end : LogEnd → LogEnd → Bool
is_end one other = (one.position == other.position) && (one.sum == other.sum) && (one.count == other.count)

abbrev pub is_extent : Extent → Extent → Bool
is_extent one other = is_generation one.generation other.generation &&
    (one.chunks == other.chunks) && is_end one.end other.end

abbrev pub is_switch : Switch → Switch → Bool
is_switch one other = is_extent one.from other.from && (one.chunks == other.chunks) && is_end one.end other.end

abbrev pub is_head : Head → Head → Bool
is_head one other = is_extent one.extent other.extent && (one.beat == other.beat) && is_switch one.switch other.switch

-- by epoch, then by attempt
abbrev pub is_earlier : Generation → Generation → Bool
is_earlier one other = nat_lt one.epoch other.epoch || ((one.epoch == other.epoch) && nat_lt one.attempt other.attempt)

-- of two heads of one generation: by chunks, then by beats
abbrev pub has_less : Head → Head → Bool
has_less one other =
    nat_lt one.extent.chunks other.extent.chunks
    || ((one.extent.chunks == other.extent.chunks) && nat_lt one.beat other.beat)

-- by generation, then by chunks, then by beats
abbrev pub is_before : Head → Head → Bool
is_before one other =
    is_earlier one.extent.generation other.extent.generation
    || (is_generation one.extent.generation other.extent.generation && has_less one other)

-- the generation that an owner makes next, by the latest that it knows
abbrev pub next_generation : Generation → Owner → Option Generation
next_generation latest owner =
    if nat_lt latest.epoch owner.epoch then Some (record { epoch = owner.epoch; attempt = 0 })
    else if (latest.epoch == owner.epoch) && nat_lt latest.attempt MOST_COUNT
    then Some (record { epoch = latest.epoch; attempt = latest.attempt + 1 })
    else None
