use Rattle.std.proofs.Common.{◌≡◌, ℕ, IfOk, sym, ap, subst, ◌∙◌}
use Rattle.std.specs.List.{slice_get}
use Rattle.mds_request.specs.Configuration.{Configuration, configuration}
use Rattle.server_durable.specs.FleetViews.{IsOwnView}
use Rattle.server_durable.proofs.durable_hall.DurableHall.own_view.Goals as goal

pub answer_view-requires-clause-its : goal.answer_view-requires-clause-its
answer_view-requires-clause-its g c =
    let own = g.K.HallName.configuration in
    let here : c.deref_mut.result.now.place ≡ c.args.place = ap (λ desk. desk.place) c.deref_mut.ensures.value ∙ c.in-Some.ensures.place in
    let shared : configuration c.deref.result.now ≡ own = ap configuration c.deref.ensures ∙ c.in_ok-config.ensures ∙ c.args.self.now.hall.configured in
    ap (slice_get own.operators) here ∙ ap (λ (cfg : Configuration). slice_get cfg.operators c.args.place) (sym shared) ∙ c.operator_at-operator.ensures

pub returns : goal.returns
returns g c =
    let here : c.deref_mut.result.now.place ≡ c.args.place = ap (λ desk. desk.place) c.deref_mut.ensures.value ∙ c.in-Some.ensures.place in
    subst (λ (place : ℕ). IfOk c.answer_view.result (IsOwnView g.K.HallName.configuration place c.args.view c.args.at)) here c.answer_view.ensures.own
