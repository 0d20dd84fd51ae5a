use Rattle.std.proofs.Common.{IfSome, inl, refl, subst}
use Rattle.mds_drafts.specs.Values.{drafts_of}
use Rattle.mds_request.specs.Request.{request_of}
use Rattle.mds_desk.specs.CacheKey.{AnswersAuthor, IsFound}
use Rattle.mds_desk.specs.Room.{room_of}
use Rattle.mds_desk.proofs.RoomTurning.{given_by_call}
use Rattle.mds_desk.proofs.Shelving.{author_found}
use Rattle.mds_desk.proofs.author.AuthorRoom.carry_out.Goals as goal

pub perform-requires : goal.perform-requires
perform-requires g c =
    let asked = c.author_key-asked.result in
    subst (λ ps. IfSome asked (AnswersAuthor ps c.args.call.now)) c.catalogue.ensures.publications c.author_key-asked.ensures

pub returns-in-Some-clause-turn : goal.returns-in-Some-clause-turn
returns-in-Some-clause-turn g c =
    let room = c.args.self.now in
    let asked = c.author_key-asked.result in
    let call = c.args.call.now in
    record {
      same = refl;
      turn = given_by_call (room_of room) (room_of room) (request_of c.args.request.now) call c.from_cached.result c.requires.resolved
          (author_found (drafts_of room.drafts) room.publisher.publications call (request_of c.args.request.now) asked c.in-Some.body c.from_cached.result
          (subst (λ ps. IfSome asked (AnswersAuthor ps call)) c.catalogue.ensures.publications c.author_key-asked.ensures)
          (subst (λ ps. IsFound ps asked c.in-Some.body) c.note.ensures c.in-Some.ensures) c.from_cached.ensures);
      noted = refl;
      stays_closed = λ closed. (closed, refl);
      stays_open = λ is_open. inl is_open;
      open_noted = tt;
    }

pub returns-clause-turn : goal.returns-clause-turn
returns-clause-turn g c =
    let its = c.perform.ensures in
    record {
      same = its.same;
      turn = given_by_call (room_of c.args.self.now) (room_of c.perform.new.self) (request_of c.args.request.now) c.args.call.now c.perform.result.0 c.requires.resolved its.answer;
      noted = its.noted;
      stays_closed = its.stays_closed;
      stays_open = its.stays_open;
      open_noted = its.open_noted;
    }
