-- The values of a register's two keys. Each is numbers, each with a space behind it; the first is the version, 1.
use Rattle.std.specs.Prelude.{ℕ, ◌^◌, ◌<◌, List, ◌++◌, codes}
use Rattle.std.specs.Fmt.{decimal}
use Rattle.std.specs.Int.{w64, to_be_bytes}
use Rattle.hex.specs.Hex.{encode_lower}
use Rattle.journal_file.specs.declared.log_end.LogEnd.{LogEnd}
use Rattle.journal_register.specs.declared.owner.Owner.{Owner}
use Rattle.journal_register.specs.declared.head.Generation.{Generation}
use Rattle.journal_register.specs.declared.head.Extent.{Extent}
use Rattle.journal_register.specs.declared.head.Switch.{Switch}
use Rattle.journal_register.specs.declared.head.Head.{Head}
use Rattle.journal_etcd.specs.declared.values.TheConstants.{VERSION}

unfoldable pub number_text : ℕ → List ℕ
number_text n = decimal n ++ codes " "

-- 16 hex digits
unfoldable pub hex_text : ℕ → List ℕ
hex_text n = encode_lower (to_be_bytes w64 n)

unfoldable pub end_text : LogEnd → List ℕ
end_text end = number_text end.position ++ number_text end.sum ++ number_text end.count

unfoldable pub generation_text : Generation → List ℕ
generation_text generation = number_text generation.epoch ++ number_text generation.attempt

unfoldable pub extent_text : Extent → List ℕ
extent_text extent = generation_text extent.generation ++ number_text extent.chunks ++ end_text extent.end

unfoldable pub switch_text : Switch → List ℕ
switch_text switch = extent_text switch.from ++ number_text switch.chunks ++ end_text switch.end

unfoldable pub owner_value : Owner → List ℕ
owner_value owner = number_text VERSION ++ number_text owner.epoch ++ number_text owner.nonce

unfoldable pub head_value : Head → List ℕ
head_value head =
    number_text VERSION ++ extent_text head.extent ++ number_text head.beat ++ switch_text head.switch

-- ---- what has such a value: numbers of 64 bits

pub record FitsEnd (end : LogEnd) : Type 0 where
  pub position : end.position < 2 ^ 64
  pub sum : end.sum < 2 ^ 64
  pub count : end.count < 2 ^ 64

pub record FitsGeneration (generation : Generation) : Type 0 where
  pub epoch : generation.epoch < 2 ^ 64
  pub attempt : generation.attempt < 2 ^ 64

pub record FitsExtent (extent : Extent) : Type 0 where
  pub generation : FitsGeneration extent.generation
  pub chunks : extent.chunks < 2 ^ 64
  pub end : FitsEnd extent.end

pub record FitsSwitch (switch : Switch) : Type 0 where
  pub from : FitsExtent switch.from
  pub chunks : switch.chunks < 2 ^ 64
  pub end : FitsEnd switch.end

pub record FitsOwner (owner : Owner) : Type 0 where
  pub epoch : owner.epoch < 2 ^ 64
  pub nonce : owner.nonce < 2 ^ 64

pub record FitsHead (head : Head) : Type 0 where
  pub extent : FitsExtent head.extent
  pub beat : head.beat < 2 ^ 64
  pub switch : FitsSwitch head.switch
