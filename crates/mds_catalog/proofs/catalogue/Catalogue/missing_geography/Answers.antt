use Rattle.std.proofs.Common.{◌≡◌, ℕ, ◌+◌, Bool, List, not, map, drop, find, Some, None, ap, sym, ◌∙◌, arith}
use Rattle.std.specs.List.{flat_map}
use Rattle.std.specs.Option.{option_or}
use Rattle.mds_policy.specs.Policy.{Rule, policy_document}
use Rattle.mds_catalog.specs.Publication.{publication_of, is_geography_there}
use Rattle.mds_catalog.specs.Catalogue.{publications_of}
use Rattle.mds_catalog.proofs.Found.{policies_at}
use Rattle.mds_catalog.proofs.catalogue.Catalogue.missing_geography.Goals as goal

pub returns-in-Some : goal.returns-in-Some
returns-in-Some c =
    let p : List ℕ → Bool = λ id. not (is_geography_there (publications_of c.args.self.now) (publication_of c.args.batch.now) id) in
    let rest = find p (flat_map (λ policy. flat_map (λ rule. rule.geographies) policy.rules) (map (λ share. policy_document share.value) (drop (c.loop-policy.policy-index + 1) c.args.batch.now.policies.items))) in
    let turn = policies_at p c.args.batch.now.policies.items c.loop-policy.policy-index c.policy-item.result (omega arith) (cc) in
    let found : Some c.in-Some.id ≡ find p (flat_map (λ rule. rule.geographies) (policy_document c.policy-item.result.value).rules) = c.in-Some.ensures ∙ ap (λ (rules : List Rule). find p (flat_map (λ rule. rule.geographies) rules)) (c.rules.ensures ∙ ap (λ q. (policy_document q).rules) c.deref.ensures) in
    ap (λ o. option_or o rest) found ∙ sym turn ∙ c.loop-policy.invariant

pub loop-policy-preserved : goal.loop-policy-preserved
loop-policy-preserved c =
    let p : List ℕ → Bool = λ id. not (is_geography_there (publications_of c.args.self.now) (publication_of c.args.batch.now) id) in
    let rest = find p (flat_map (λ policy. flat_map (λ rule. rule.geographies) policy.rules) (map (λ share. policy_document share.value) (drop (c.loop-policy.policy-index + 1) c.args.batch.now.policies.items))) in
    let turn = policies_at p c.args.batch.now.policies.items c.loop-policy.policy-index c.policy-item.result (omega arith) (cc) in
    let none : None ≡ find p (flat_map (λ rule. rule.geographies) (policy_document c.policy-item.result.value).rules) = c.in_default.ensures ∙ ap (λ (rules : List Rule). find p (flat_map (λ rule. rule.geographies) rules)) (c.rules.ensures ∙ ap (λ q. (policy_document q).rules) c.deref.ensures) in
    ap (λ o. option_or o rest) none ∙ sym turn ∙ c.loop-policy.invariant
