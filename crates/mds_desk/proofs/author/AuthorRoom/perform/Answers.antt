use Rattle.std.proofs.Common.{IfSome, sym, subst}
use Rattle.mds_drafts.specs.Values.{drafts_of}
use Rattle.mds_request.specs.Request.{request_of}
use Rattle.mds_machine.specs.Answer.{Gives}
use Rattle.mds_machine.specs.Author.{author_does}
use Rattle.mds_desk.specs.CacheKey.{IsReplyTo}
use Rattle.mds_desk.proofs.Shelving.{author_laid, author_told}
use Rattle.mds_desk.proofs.author.AuthorRoom.perform.Goals as goal

pub answer-requires : goal.answer-requires
answer-requires g c =
    let room = c.args.self.now in
    let ps = room.publisher.publications in
    let drafts = drafts_of room.drafts in
    let after = drafts_of c.author_step.new.drafts in
    let call = c.args.call.now in
    let request = request_of c.args.request.now in
    let reply = c.in-Answer.reply in
    let gives : Gives (Unit {0}) (drafts, ps) (author_does drafts ps call request) reply (after, ps) =
    subst (λ shown. Gives (Unit {0}) (drafts, shown) (author_does drafts shown call request) reply (after, shown)) c.catalogue-catalogue.ensures.publications c.in-Answer.ensures.answer in
    subst (λ front. IfSome c.args.asked (λ key. IsReplyTo front key reply)) (sym c.note-note.ensures)
    (author_told drafts ps call request c.args.asked reply (after, ps) c.requires gives)

pub returns-in-Answer-clause-answer : goal.returns-in-Answer-clause-answer
returns-in-Answer-clause-answer g c =
    let room = c.args.self.now in
    let ps = room.publisher.publications in
    let drafts = drafts_of room.drafts in
    let after = drafts_of c.author_step.new.drafts in
    let call = c.args.call.now in
    let request = request_of c.args.request.now in
    let reply = c.in-Answer.reply in
    let gives : Gives (Unit {0}) (drafts, ps) (author_does drafts ps call request) reply (after, ps) =
    subst (λ shown. Gives (Unit {0}) (drafts, shown) (author_does drafts shown call request) reply (after, shown)) c.catalogue-catalogue.ensures.publications c.in-Answer.ensures.answer in
    author_laid drafts ps call request c.args.asked reply c.answer.result (after, ps) c.requires gives c.answer.ensures
