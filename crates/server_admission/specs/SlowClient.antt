-- Whether a client reads a response too slowly.
use Rattle.std.specs.Prelude.{ℕ, ◌*◌, Bool, ◌&&◌, ◌||◌, nat_lt, nat_le}
use Rattle.server_admission.specs.declared.limits.TheConstants.{SLOW_SECONDS, LEAST_RATE}

-- nothing was written for too long, or, after some time, too little on average
abbrev pub is_untaken : Bool → ℕ → ℕ → Bool
is_untaken is_stalled seconds taken =
    is_stalled || (nat_le SLOW_SECONDS seconds && nat_lt taken (LEAST_RATE * seconds))
