-- How a request body arrives.
use Rattle.std.specs.Prelude.{ℕ, ◌+◌, List, [], length, Bool, true, false, nat_le, if◌then◌else◌}
use Rattle.mds_request.specs.declared.call.TheConstants.{MOST_BODY}
use Rattle.server_admission.specs.declared.limits.TheConstants.{MOST_DISCARDED}
use Rattle.server_admission.specs.declared.arrival.Piece.{Piece}
use Rattle.server_admission.specs.declared.arrival.Piece.TheVariants as piece
use Rattle.server_admission.specs.declared.arrival.BodyEnd.{BodyEnd}
use Rattle.server_admission.specs.declared.arrival.BodyEnd.TheVariants as end
use Rattle.server_admission.specs.declared.arrival.Arrived.{Arrived}
use Rattle.server_admission.specs.declared.arrival.Arrived.TheVariants.{Whole, Broken, TooLong, NoMemory}

-- of a body that is too long, so many bytes more are read and discarded
abbrev pub piece_at : ℕ → ℕ → Piece
piece_at before length =
    if nat_le (before + length) MOST_BODY then piece.Kept
    else (if nat_le (before + length) (MOST_BODY + MOST_DISCARDED) then piece.Passed else piece.Refused)

-- how a body arrived: these are its bytes, and its reading ended so
abbrev pub arrived_of : BodyEnd → List ℕ → Arrived
arrived_of end.Over body = if nat_le (length body) MOST_BODY then Whole body else TooLong
arrived_of end.Refused body = TooLong
arrived_of end.Broken body = Broken
arrived_of end.NoMemory body = NoMemory

-- the body, where it arrived whole
abbrev pub body_in : Arrived → List ℕ
body_in (Whole body) = body
body_in arrived = []

-- after the response to a body that wasn't read whole, nothing else can be read from the connection
abbrev pub closes_after : Arrived → Bool
closes_after (Whole body) = false
closes_after Broken = true
closes_after TooLong = true
closes_after NoMemory = true
