use Rattle.std.proofs.Common.{◌≡◌}
use Rattle.server_app.specs.OperatorNames.{badges_view}
use Rattle.server_app.specs.Whoami.{who_reply}
use Rattle.mds_request.specs.declared.config.Actor.TheVariants.{Author}
use Rattle.server_durable.specs.People.{TellsAuthor}
use Rattle.server_routes.specs.declared.app.Question.TheVariants.{Whoami}
use Rattle.server_durable.proofs.Responses.{waits_kind}
use Rattle.server_durable.proofs.people.answer_author.Goals as goal

pub returns-in-Whoami : goal.returns-in-Whoami
returns-in-Whoami g c =
    let own = g.K.HallName.configuration in
    let badges = badges_view c.args.city.now.badges in
    rw c.in-Whoami.is (waits_kind (λ reply. reply ≡ who_reply badges Author) (TellsAuthor own badges Whoami) (λ s. s.reply) c.answer_whoami.result
    (λ reply is drafts publications. is) c.answer_whoami.ensures)

pub returns-in-Withdrawals : goal.returns-in-Withdrawals
returns-in-Withdrawals g c = rw c.in-Withdrawals.is c.respond_of_room.ensures

pub returns-in-Drafts : goal.returns-in-Drafts
returns-in-Drafts g c = rw c.in-Drafts.is c.respond_of_room-in-Drafts.ensures
