use Rattle.std.proofs.Common.{◌≡◌, map, option_map, ap, ◌∙◌, arith}
use Rattle.mds_text.specs.View.{view}
use Rattle.mds_catalog.specs.Catalogue.{lent_policy, publications_of}
use Rattle.server_app.specs.Withdrawals.{withdrawal_json, withdrawal_of, withdrawn_from}
use Rattle.server_app.proofs.Moments.{told_more}
use Rattle.server_app.proofs.withdrawal.withdrawal_trees.Goals as goal

pub loop-policy-preserved : goal.loop-policy-preserved
loop-policy-preserved c =
    let publications = publications_of c.args.catalogue.now in
    let id = c.id-id.result in
    let from = c.withdrawal_moment.result in
    told_more lent_policy (withdrawal_of publications) c.args.policies.now c.loop-policy.policy-index c.policy-item.result (map view c.loop-policy.trees.items)
    (map view c.push_withdrawal.new.trees.items) (option_map (withdrawal_json id) from) (omega arith) c.policy-item.is c.loop-policy.invariant c.in_ok-push_withdrawal.ensures
    (ap (option_map (withdrawal_json id)) c.withdrawal_moment.ensures ∙ ap (λ i. option_map (withdrawal_json i) (withdrawn_from publications i)) c.id-id.ensures)
