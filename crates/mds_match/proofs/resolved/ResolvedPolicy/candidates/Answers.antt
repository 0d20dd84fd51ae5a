use Rattle.std.proofs.Common.{◌≡◌, ◌+◌, Bool, [], ◌∷◌, ◌++◌, Some, refl, false, length, take, sym, ap, ◌∙◌, arith}
use Rattle.std.proofs.lemmas.List.{length-take-le, take_more}
use Rattle.std.proofs.lemmas.Option.{slice_get_read}
use Rattle.std.specs.Option.{option_map_or}
use Rattle.std.specs.List.{find, position, slice_get}
use Rattle.mds_match.specs.Resolved.{can_meet, meets_number, resolved_meets}
use Rattle.mds_match.specs.declared.resolved.ResolvedRule.{ResolvedRule}
use Rattle.mds_match.proofs.Candidates.{never_met, with_number, without_number}
use Rattle.mds_match.proofs.resolved.ResolvedPolicy.candidates.Goals as goal
use Rattle.mds_match.proofs.resolved.ResolvedPolicy.candidates.Goals.{then-can_meet+in_ok-push, else-can_meet}

pub loop-number-preserved : goal.loop-number-preserved
loop-number-preserved c row of_type in_state =
    let number = c.loop-number.number in
    let rules = c.deref-rule-items.result.now in
    let rule = c.rule-item.result in
    let before = take number rules in
    let met : ResolvedRule → Bool = λ r. resolved_meets r row in
    let numbered = meets_number c.args.self.now row in
    let more : take (number + 1) rules ≡ before ++ rule ∷ [] = take_more rules number rule (omega arith) ∙ ap (λ r. before ++ r ∷ []) (sym c.rule-item.is) in
    let long : length before ≡ number = length-take-le number rules (omega arith) in
    elim c.if-can_meet.branch [
      | then-can_meet+in_ok-push w ↦
          let here : slice_get rules number ≡ Some rule = slice_get_read rules (length rules) number rule refl (omega arith) c.rule-item.is in
          let same : numbered (length before) ≡ met rule =
          ap numbered long ∙ ap (λ rs. option_map_or met (slice_get rs number) false) (sym c.deref-rule-items.ensures.value) ∙ ap (λ r. option_map_or met r false) here in
          ap (λ v. find numbered v.items) w.numbers-is ∙ ap (find numbered) w.in_ok-push.ensures.items
          ∙ ap (λ n. find numbered (c.loop-number.numbers.items ++ n ∷ [])) (sym long)
          ∙ with_number numbered met c.loop-number.numbers.items before rule (c.loop-number.invariant row of_type in_state) same ∙ ap (position met) (sym more)
      | else-can_meet w ↦
          let never : met rule ≡ false =
          never_met rule row (ap (λ t. can_meet rule t row.state) of_type ∙ ap (can_meet rule c.args.vehicle_type) in_state ∙ sym c.can_meet.ensures ∙ w.if-can_meet.false) in
          ap (λ v. find numbered v.items) w.numbers-is
          ∙ without_number met (find numbered c.loop-number.numbers.items) before rule (c.loop-number.invariant row of_type in_state) never ∙ ap (position met) (sym more)
    ]
