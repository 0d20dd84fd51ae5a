use Rattle.std.specs.List.{flat_map}
use Rattle.std.proofs.Common.{◌≡◌, ℕ, ◌+◌, Bool, List, not, map, drop, find, Some, None, ap, sym, ◌∙◌, arith}
use Rattle.std.specs.Option.{option_or}
use Rattle.mds_policy.specs.Policy.{policy_document}
use Rattle.mds_catalog.specs.Publication.{is_policy_published}
use Rattle.mds_catalog.specs.Catalogue.{publications_of}
use Rattle.mds_catalog.proofs.Found.{predecessors_at}
use Rattle.mds_catalog.proofs.catalogue.Catalogue.missing_predecessor.Goals as goal

pub returns-in-Some : goal.returns-in-Some
returns-in-Some c =
    let p : List ℕ → Bool = λ id. not (is_policy_published (publications_of c.args.self.now) id) in
    let rest = find p (flat_map (λ policy. policy.previous) (map (λ share. policy_document share.value) (drop (c.loop-policy.policy-index + 1) c.args.batch.now.policies.items))) in
    let turn = predecessors_at p c.args.batch.now.policies.items c.loop-policy.policy-index c.policy-item.result (omega arith) (cc) in
    let found : Some c.in-Some.id ≡ find p (policy_document c.policy-item.result.value).previous = c.in-Some.ensures ∙ ap (find p) (c.previous.ensures ∙ ap (λ q. (policy_document q).previous) c.deref.ensures) in
    ap (λ o. option_or o rest) found ∙ sym turn ∙ c.loop-policy.invariant

pub loop-policy-preserved : goal.loop-policy-preserved
loop-policy-preserved c =
    let p : List ℕ → Bool = λ id. not (is_policy_published (publications_of c.args.self.now) id) in
    let rest = find p (flat_map (λ policy. policy.previous) (map (λ share. policy_document share.value) (drop (c.loop-policy.policy-index + 1) c.args.batch.now.policies.items))) in
    let turn = predecessors_at p c.args.batch.now.policies.items c.loop-policy.policy-index c.policy-item.result (omega arith) (cc) in
    let none : None ≡ find p (policy_document c.policy-item.result.value).previous = c.in_default.ensures ∙ ap (find p) (c.previous.ensures ∙ ap (λ q. (policy_document q).previous) c.deref.ensures) in
    ap (λ o. option_or o rest) none ∙ sym turn ∙ c.loop-policy.invariant
