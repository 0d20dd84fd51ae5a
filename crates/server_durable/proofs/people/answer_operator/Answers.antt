use Rattle.std.proofs.Common.{◌≡◌, inl, refl}
use Rattle.server_app.specs.OperatorNames.{badges_view}
use Rattle.server_app.specs.Whoami.{who_reply}
use Rattle.mds_request.specs.Reply.{refused}
use Rattle.mds_request.specs.declared.code.Code.TheVariants.{Role}
use Rattle.mds_request.specs.declared.config.Actor.TheVariants.{Operator}
use Rattle.server_durable.specs.People.{TellsOperator}
use Rattle.server_routes.specs.declared.app.Question.TheVariants.{Whoami, Drafts}
use Rattle.server_durable.proofs.Responses.{waits_kind, waits_told}
use Rattle.server_durable.proofs.people.answer_operator.Goals as goal

pub returns-in-Whoami : goal.returns-in-Whoami
returns-in-Whoami g c =
    let own = g.K.HallName.configuration in
    let badges = badges_view c.args.city.now.badges in
    rw c.in-Whoami.is (waits_kind (λ reply. reply ≡ who_reply badges (Operator c.args.place)) (TellsOperator own badges c.args.place Whoami) (λ s. s.reply) c.answer_whoami.result
    (λ reply is publications. is) c.answer_whoami.ensures)

pub returns-in-Withdrawals : goal.returns-in-Withdrawals
returns-in-Withdrawals g c = rw c.in-Withdrawals.is c.answer_withdrawals.ensures

pub returns-in-Drafts : goal.returns-in-Drafts
returns-in-Drafts g c =
    let own = g.K.HallName.configuration in
    let badges = badges_view c.args.city.now.badges in
    rw c.in-Drafts.is (waits_told (TellsOperator own badges c.args.place Drafts) (λ s. s.reply) c.refuse.result (refused Role) c.refuse.ensures (inl (λ publications. refl)))
