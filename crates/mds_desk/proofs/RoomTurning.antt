-- A turn of the author's room, put together.
use Rattle.std.proofs.Common.{◌≡◌, None, Ok, inl, inr, refl, sym, ap, ◌∙◌}
use Rattle.mds_request.specs.Call.{call_of}
use Rattle.mds_request.specs.Request.{Request}
use Rattle.mds_request.specs.Reply.{Reply, refused}
use Rattle.mds_request.specs.declared.call.AuthorCall.{AuthorCall}
use Rattle.mds_request.specs.declared.call.Call.TheVariants as call
use Rattle.mds_request.specs.declared.code.Code.{Code}
use Rattle.mds_machine.specs.Answer.{Gives, settled}
use Rattle.mds_machine.specs.Author.{author_does}
use Rattle.mds_machine.specs.Room.{IsRoomTurn}
use Rattle.mds_desk.specs.Room.{RoomState, held_in, IsRefusedInRoom, TakesRoomTurn}
use Rattle.mds_desk.proofs.Resolved.{room_calls}

-- the outcome of the author's call is a turn of the room
pub given_by_call : (r next : RoomState) (request : Request) (own : AuthorCall) (reply : Reply) → call_of r.configuration request ≡ Ok (call.Author own)
    → Gives (Unit {0}) (held_in r) (author_does r.drafts r.publications own request) reply (held_in next) → IsRoomTurn r.configuration (held_in r) request reply (held_in next)
given_by_call r next request own reply resolved gives =
    let same = room_calls r.configuration request own resolved (held_in r) in
    elim gives [
      | inl a ↦ inl (a.0 ∙ sym (ap (λ d. (settled (held_in r) d).0) same), a.1 ∙ sym (ap (λ d. (settled (held_in r) d).1) same))
      | inr a ↦ inr ((own, resolved), a.1, a.2)
    ]

-- a request that the room refuses in any state doesn't change it
pub refused_room_turn : (r : RoomState) (request : Request) (reply : Reply) (code : Code) → IsRefusedInRoom r.configuration request code → reply ≡ refused code → TakesRoomTurn r request reply None r
refused_room_turn r request reply code refuses is =
    let same = refuses (held_in r) in
    record {
      same = refl;
      turn = inl (is ∙ sym (ap (λ d. (settled (held_in r) d).0) same), sym (ap (λ d. (settled (held_in r) d).1) same));
      noted = refl;
      stays_closed = λ closed. (closed, refl);
      stays_open = λ is_open. inl is_open;
      open_noted = tt;
    }
