-- What `status` says of a register.
use Rattle.std.specs.Prelude.{ℕ, ◌==◌, ◌||◌, not, Bool, List, [], ◌++◌, codes, if◌then◌else◌}
use Rattle.std.specs.Fmt.{decimal}
use Rattle.journal_register.specs.Order.{is_owner, is_head}
use Rattle.journal_register.specs.declared.owner.Owner.{Owner}
use Rattle.journal_register.specs.declared.owner.TheConstants.{NOBODY}
use Rattle.journal_register.specs.declared.head.Extent.{Extent}
use Rattle.journal_register.specs.declared.head.Generation.{Generation}
use Rattle.journal_register.specs.declared.look.Look.{Look}
use Rattle.cli_log.specs.declared.status.LookPair.{LookPair}
use Rattle.cli_log.specs.declared.status.TheConstants.{BETWEEN_MILLIS}

-- another owner, or another head
abbrev pub has_moved : (first last : Look) → Bool
has_moved first last = not (is_owner first.owner last.owner) || not (is_head first.head last.head)

-- the text with words and a number behind it
unfoldable pub with_number : (text words : List ℕ) → ℕ → List ℕ
with_number text words number = (text ++ words) ++ decimal number

-- and with its owner: nobody, who handed it over, or who has it
unfoldable pub with_owner : List ℕ → Owner → List ℕ
with_owner text owner =
    if is_owner owner NOBODY then text ++ codes "owner: none"
    else (if owner.nonce == 0 then with_number text (codes "owner: none, handed over in epoch ") owner.epoch
    else with_number (with_number text (codes "owner: epoch ") owner.epoch) (codes ", nonce ") owner.nonce)

unfoldable pub with_generation : List ℕ → Generation → List ℕ
with_generation text generation =
    with_number (with_number text (codes "\ngeneration: ") generation.epoch) (codes ".") generation.attempt

unfoldable pub with_position : List ℕ → Extent → List ℕ
with_position text extent =
    with_number (with_number (with_number text (codes "\nposition: ") extent.end.position)
    (codes " bytes, ") extent.chunks) (codes " chunks, ") extent.end.count ++ codes " texts"

abbrev pub age : Bool → List ℕ
age has_moved = if has_moved then codes ", less than " else codes ", more than "

unfoldable pub with_beat : List ℕ → ℕ → Bool → List ℕ
with_beat text beat has_moved =
    with_number (with_number text (codes "\nbeat: ") beat) (age has_moved) BETWEEN_MILLIS ++ codes " ms old"

unfoldable pub with_cluster : List ℕ → Look → List ℕ
with_cluster text look =
    with_number (with_number text (codes "\ncluster: ") look.cluster) (codes ", revision ") look.revision

unfoldable pub status_text : LookPair → List ℕ
status_text seen =
    with_cluster (with_beat (with_position (with_generation (with_owner [] seen.last.owner)
    seen.last.head.extent.generation) seen.last.head.extent) seen.last.head.beat seen.has_moved) seen.last
