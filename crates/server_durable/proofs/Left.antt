-- What was told is in the list at the end.
use mathlib.Core.List.{IsPrefix}
use Rattle.std.proofs.Common.{◌≡◌, ◌⊎◌, ◌<◌, Bool, true, false, List, [], ◌∷◌, ◌++◌, length, inl, inr, refl, sym, ap, ◌∙◌, arith, append_assoc}
use Rattle.mds_machine.specs.Step.{Exchange}
use Rattle.mds_request.specs.Request.{Request}
use Rattle.mds_request.specs.Reply.{Reply}
use Rattle.server_state.specs.TurnItem.{TurnItem, Answered}
use Rattle.server_durable.specs.Logged.{exchanges_in}
use Rattle.server_durable.specs.Journals.{ToldRoomTurnsAreLeft, ToldTurnsAreLeft}
use Rattle.server_durable.proofs.Logging.{exchanges_more}

-- by what two comparisons say
pub one_list : {A : Type 0} (one other : List A) (first second : Bool) → (first ≡ true → IsPrefix one other) → (first ≡ false → length other < length one)
    → (second ≡ true → IsPrefix other one) → (second ≡ false → length one < length other) → IsPrefix one other ⊎ IsPrefix other one
one_list one other true second begins fewer begun less = inl (begins refl)
one_list one other false true begins fewer begun less = inr (begun refl)
one_list one other false false begins fewer begun less = absurd (let a = fewer refl in let b = less refl in omega arith)

left : (before items all : List TurnItem) (request : Request) (reply : Reply) → items ≡ before ++ Answered request reply ∷ [] → IsPrefix items all
    → (after : List Exchange) × (exchanges_in all ≡ exchanges_in before ++ record { request = request; reply = reply } ∷ after)
left before items all request reply last (rest, whole) =
    let cut : all ≡ before ++ (Answered request reply ∷ rest) =
    sym whole ∙ ap (λ (xs : List TurnItem). xs ++ rest) last ∙ append_assoc before (Answered request reply ∷ []) rest in
    (exchanges_in rest, ap exchanges_in cut ∙ exchanges_more before (Answered request reply ∷ rest))

pub told_turns_are_left : ToldTurnsAreLeft
told_turns_are_left configuration lists turns place operator request reply items are there told begins =
    let found = left told.before items (lists place) request reply told.last begins in
    (found.0, are place operator there ∙ found.1)

pub told_room_turns_are_left : ToldRoomTurnsAreLeft
told_room_turns_are_left configuration room request reply items told begins = left told.before items room request reply told.last begins
