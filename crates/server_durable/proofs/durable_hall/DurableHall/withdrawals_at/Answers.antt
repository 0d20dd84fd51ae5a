use Rattle.std.proofs.Common.{◌≡◌, List, Some, option_map, sym, ap, ◌∙◌}
use Rattle.std.specs.List.{slice_get}
use Rattle.server_app.specs.OperatorNames.{badges_view}
use Rattle.server_app.specs.Withdrawals.{withdrawals_reply}
use Rattle.mds_catalog.specs.Publication.{Publication}
use Rattle.mds_request.specs.Configuration.{Configuration, configuration}
use Rattle.mds_request.specs.Reply.{Reply}
use Rattle.server_state.specs.Query.{DeskTells}
use Rattle.server_durable.specs.People.{TellsOperator, own_withdrawals}
use Rattle.server_routes.specs.declared.app.Question.TheVariants.{Withdrawals}
use Rattle.server_durable.proofs.Own.{by_refusal, desk_tells, ok_kind, own_is}
use Rattle.server_durable.proofs.durable_hall.DurableHall.withdrawals_at.Goals as goal

pub returns : goal.returns
returns g c =
    let own = g.K.HallName.configuration in
    let badges = badges_view c.args.self.now.badges in
    let id = c.id_at.result in
    let here : c.deref_mut.result.now.place ≡ c.args.place = ap (λ desk. desk.place) c.deref_mut.ensures.value ∙ c.in-Some.ensures.place in
    let shared : configuration c.deref.result.now ≡ own = ap configuration c.deref.ensures ∙ c.in_ok-config.ensures ∙ c.args.self.now.hall.configured in
    let named : option_map (λ o. o.id) (slice_get own.operators c.args.place) ≡ Some id =
    ap (λ (cfg : Configuration). option_map (λ o. o.id) (slice_get cfg.operators c.args.place)) (sym shared) ∙ c.id_at.ensures in
    let asked : List Publication → Reply → Type 0 = λ publications reply. reply ≡ withdrawals_reply publications (Some id) in
    let wanted : List Publication → Reply → Type 0 = λ publications reply. reply ≡ own_withdrawals publications (slice_get own.operators c.args.place) in
    by_refusal (TellsOperator own badges c.args.place Withdrawals) c.query.result c.or_refused-answer.result c.or_refused-answer.ensures.told c.or_refused-answer.ensures.refused
    c.query.ensures.refused
    (ok_kind (DeskTells own c.deref_mut.result.now.place asked) (TellsOperator own badges c.args.place Withdrawals) c.query.result
    (λ reply. desk_tells own c.deref_mut.result.now.place c.args.place asked wanted reply here
    (λ publications is. is ∙ own_is publications (slice_get own.operators c.args.place) id named)) c.query.ensures.tells)
