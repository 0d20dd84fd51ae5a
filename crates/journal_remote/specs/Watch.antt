-- When a standby claims a register, and when its owner shows that it lives.
use Rattle.std.specs.Prelude.{ℕ, ◌-◌, ◌==◌, ◌&&◌, ◌||◌, nat_le, Bool, if◌then◌else◌, Option, Some, None}
use Rattle.journal_register.specs.declared.owner.Owner.{Owner}
use Rattle.journal_register.specs.declared.head.Extent.{Extent}
use Rattle.journal_register.specs.declared.look.Look.{Look}
use Rattle.journal_register.specs.declared.transaction.Transaction.{Transaction}
use Rattle.journal_register.specs.Kinds.{claim_of}
use Rattle.journal_register.specs.Order.{is_owner, is_head, is_extent}
use Rattle.journal_register.specs.Outcomes.{may_precede}
use Rattle.journal_remote.specs.declared.tenure.Tenure.{Tenure}
use Rattle.journal_remote.specs.declared.watch.Watch.{Watch}

-- both looks show the same owner and the same head
abbrev pub shows_same : Look → Look → Bool
shows_same look later = is_owner look.owner later.owner && is_head look.head later.head

-- What is known behind a further look; nothing where the register went back.
abbrev pub watched : Watch → Look → ℕ → Option Watch
watched watch look now =
    if may_precede watch.look look
    then Some (record { look = look; since = if shows_same watch.look look then watch.since else now })
    else None

-- The owner has handed the register over, or has shown nothing for as long as a standby waits.
abbrev pub is_silent : Watch → ℕ → ℕ → Bool
is_silent watch now patience = (watch.look.owner.nonce == 0) || nat_le patience (now - watch.since)

-- Who has followed all that the last look shows claims from an owner that is silent, or where it is asked to.
abbrev pub is_claimable : Watch → Extent → ℕ → ℕ → Bool → Bool
is_claimable watch followed now patience is_asked =
    is_extent followed watch.look.head.extent && (is_asked || is_silent watch now patience)

-- the claim of the next epoch; none with the nonce 0, which hands over
abbrev pub next_claim : Watch → ℕ → Option Transaction
next_claim watch nonce = if nonce == 0 then None else claim_of watch.look.owner nonce

abbrev pub held_by : Option Owner → Look → Option Tenure
held_by None look = None
held_by (Some next) look =
    if is_owner next look.owner then Some (record { owner = next; head = look.head }) else None

-- the time of the owner that a claim puts, where a look behind the claim shows it
abbrev pub tenure_of : Transaction → Look → Option Tenure
tenure_of claim look = held_by claim.new_owner look

-- its head hasn't moved for as long as an owner stays silent at the most
abbrev pub is_beat_due : ℕ → ℕ → ℕ → Bool
is_beat_due moved now every = nat_le every (now - moved)
