-- How much may wait.
use Rattle.std.specs.Prelude.{ℕ, ◌+◌, min, Bool, ◌&&◌, nat_lt, nat_le, Option, unwrap_or}
use Rattle.mds_request.specs.declared.call.TheConstants.{MOST_BODY}
use Rattle.server_admission.specs.declared.limits.TheConstants.{MOST_HELD, MOST_HELD_BY_ALL, MOST_WAITING}
use Rattle.server_admission.specs.declared.waiting.Load.{Load}

-- a body without a declared length (RFC 9112, section 7.1), or with more than a body may have, counts as one of the
-- maximum
abbrev pub counted_of : Option ℕ → ℕ
counted_of length = min (unwrap_or length MOST_BODY) MOST_BODY

-- with it, its client has at most so many requests and bytes, and all clients so many bytes
abbrev pub may_wait_beside : Load → ℕ → ℕ → Bool
may_wait_beside load all bytes =
    nat_lt load.requests MOST_WAITING && nat_le (load.bytes + bytes) MOST_HELD && nat_le (all + bytes) MOST_HELD_BY_ALL
