-- What may arrive of a request body.
use Rattle.std.specs.Prelude.{◌≡◌, ℕ, ◌+◌, ◌<◌, ◌⊎◌, ⊤, List, [], ◌∷◌, ◌++◌, length, map, Option, Some, None, Result, Ok, Err, IfSome, IsSomeAnd}
use Rattle.http_body.specs.Frame.{bytes_in, joined_data}
use Rattle.http_body.specs.declared.frame.Frame.{Frame}
use Rattle.hyper.specs.Incoming.{IncomingYields}
use Rattle.hyper.specs.declared.body.incoming.Incoming.{Incoming}
use Rattle.hyper.specs.declared.error.Error.{Error}
use Rattle.mds_request.specs.declared.call.TheConstants.{MOST_BODY}
use Rattle.server_admission.specs.declared.arrival.Arrived.{Arrived}
use Rattle.server_admission.specs.declared.arrival.Arrived.TheVariants.{Whole, Broken, TooLong, NoMemory}
use Rattle.server_http.specs.declared.body_reader.BodyReader.{BodyReader}

-- how many bytes of data come last
abbrev pub last_length : Option (Result (Frame (List ℕ)) Error) → ℕ
last_length (Some (Ok frame)) = length (bytes_in frame.kind)
last_length (Some (Err error)) = 0
last_length None = 0

-- How a body arrives of which so many bytes came before, and these are kept, unless it is discarded, once these frames come
-- and then the last: whole with the bytes of all; too long with more than the limit; broken with an error; or there was
-- no memory.
abbrev pub ArrivesBy : Option (List ℕ) → ℕ → List (Frame (List ℕ)) → Option (Result (Frame (List ℕ)) Error) → Arrived → Type 0
ArrivesBy kept before frames last (Whole body) = (last ≡ None) × IsSomeAnd kept (λ first. body ≡ first ++ joined_data frames)
ArrivesBy kept before frames last Broken = (error : Error) × (last ≡ Some (Err error))
ArrivesBy kept before frames last TooLong = IfSome kept (λ first. (MOST_BODY < length first + (length (joined_data frames) + last_length last))
    ⊎ (MOST_BODY < before + (length (joined_data frames) + last_length last)))
ArrivesBy kept before frames last NoMemory = ⊤

-- how a body arrives once the rest comes, it arrives by the frame and the rest
abbrev pub Precedes : {I : Type 0} → Frame (List ℕ) → (old new : BodyReader I) → Type 0
Precedes frame old new =
    (frames : List (Frame (List ℕ))) (last : Option (Result (Frame (List ℕ)) Error)) (arrived : Arrived)
    → ArrivesBy new.kept new.length frames last arrived → ArrivesBy old.kept old.length (frame ∷ frames) last arrived

-- a frame comes next, and not the end
abbrev pub GoesOn : {I : Type 0} → Option (Result (Frame (List ℕ)) Error) → (old new : BodyReader I) → Type 0
GoesOn next old new = (frame : Frame (List ℕ)) × (next ≡ Some (Ok frame)) × Precedes frame old new

-- it may arrive so of what is left of a body that is read
abbrev pub MayArrive : {I : Type 0} → BodyReader I → Arrived → Type 0
MayArrive reader arrived = (frames : List (Frame (List ℕ))) × (last : Option (Result (Frame (List ℕ)) Error))
    × IncomingYields reader.body (map Ok frames) last × ArrivesBy reader.kept reader.length frames last arrived

-- what may arrive later may arrive now
abbrev pub LeavesArrivals : {I : Type 0} → (old new : BodyReader I) → Type 0
LeavesArrivals old new = (arrived : Arrived) → MayArrive new arrived → MayArrive old arrived

-- it may arrive so of a body of which nothing was read
abbrev pub IsArrival : {I : Type 0} → Incoming I → Arrived → Type 0
IsArrival body arrived = (frames : List (Frame (List ℕ))) × (last : Option (Result (Frame (List ℕ)) Error))
    × IncomingYields body (map Ok frames) last × ArrivesBy (Some []) 0 frames last arrived
