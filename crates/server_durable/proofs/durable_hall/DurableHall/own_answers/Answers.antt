use Rattle.std.proofs.Common.{◌≡◌, ◌==◌, ℕ, true, length, ap, sym, subst, ◌∙◌, arith, rules}
use Rattle.std.proofs.lemmas.Bool.{eqb-true}
use Rattle.server_routes.specs.declared.app.FleetView.TheVariants.{Compliance}
use Rattle.server_durable.specs.FleetViews.{IsOwnView}
use Rattle.server_durable.proofs.OwnBodies.{answer_more}
use Rattle.server_durable.proofs.durable_hall.DurableHall.own_answers.Goals as goal

pub loop-at-preserved : goal.loop-at-preserved
loop-at-preserved g c =
    let answer = c.in_ok-answer.answer in
    let accepted : c.is_accepted.result ≡ true = search rules in
    let is_200 : (answer.status == 200) ≡ true = ap (λ (s : ℕ). s == 200) (sym c.status.ensures) ∙ sym c.is_accepted.ensures ∙ accepted in
    let place : c.len-in-loop-at.result ≡ length c.loop-at.answers.items = omega arith in
    record {
      each = answer_more g.K.HallName.configuration c.args.at c.loop-at.answers.items c.push_reserved.new.self.items answer c.push_reserved.ensures.items
          (eqb-true answer.status 200 is_200)
          (subst (λ (n : ℕ). IsOwnView g.K.HallName.configuration n Compliance c.args.at answer) place c.in_ok-answer.ensures)
          c.loop-at.invariant.each;
      some = omega arith;
      all = c.loop-at.invariant.all;
      room = omega arith;
    }
