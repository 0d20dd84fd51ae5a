-- What a standby does behind a look.
use Rattle.std.specs.Prelude.{ℕ, ◌+◌, ◌-◌, ◌*◌, ◌%◌, ◌^◌, min, nat_le, Bool, false, if◌then◌else◌}
use Rattle.journal_remote.specs.declared.watch.Watch.{Watch}
use Rattle.journal_remote.specs.Watch.{is_claimable}
use Rattle.server_standby.specs.declared.step.StandbyStep.{StandbyStep}
use Rattle.server_standby.specs.declared.step.StandbyStep.TheVariants.{Stop, Claim, Wait}
use Rattle.server_standby.specs.declared.step.TheConstants.{MOST_EXTRA}

-- It reads the journal behind its claim, so it has followed whatever the last look showed.
abbrev pub next_step : Watch → (now patience : ℕ) → (is_stopped : Bool) → StandbyStep
next_step watch now patience is_stopped =
    if is_stopped then Stop
    else (if is_claimable watch watch.look.head.extent now patience false then Claim else Wait)

-- as many milliseconds are past as it waits
abbrev pub is_given_up : (begun now patience : ℕ) → Bool
is_given_up begun now patience = nat_le patience (now - begun)

-- what fits into 64 bits
abbrev pub capped : ℕ → ℕ
capped n = min n (2 ^ 64 - 1)

-- seconds as milliseconds, and up to one second more by chance
abbrev pub patience_of : (seconds nonce : ℕ) → ℕ
patience_of seconds nonce = capped (capped (seconds * 1000) + nonce % MOST_EXTRA)
