use Rattle.std.proofs.Common.{◌≡◌, map, filter, ap, sym, ◌∙◌, rules}
use Rattle.std.proofs.lemmas.Fn.{filter_same}
use Rattle.mds_policy.specs.Policy.{policy_document}
use Rattle.mds_catalog.specs.Publication.{is_meant_for, policies_for, published_policies, publications_in}
use Rattle.mds_catalog.specs.Catalogue.{lent_policy, publications_of}
use Rattle.mds_catalog.proofs.Lent.{map-filter}
use Rattle.mds_catalog.proofs.catalogue.Catalogue.policies.Goals as goal
use Rattle.mds_catalog.proofs.catalogue.Catalogue.policies.Goals.{in-Some, in_default}

pub returns : goal.returns
returns c =
    let all : map lent_policy c.in_ok-policies.policies.items ≡ published_policies (publications_of c.args.self.now) =
    c.in_ok-policies.ensures ∙ ap (λ batches. published_policies (publications_in batches)) c.deref.ensures.value in
    elim c.match-operator.branch [
      | in-Some w ↦
          let operator = w.in-Some.operator in
          ap (λ v. map lent_policy v.items) w.policies-is
          ∙ ap (map lent_policy) (filter_same _ (λ p. is_meant_for operator (policy_document p.document.now)) _ (λ x b f' k. search rules) _ _ w.retain.ensures.filtered)
          ∙ map-filter lent_policy (λ p. is_meant_for operator p.document) c.in_ok-policies.policies.items
          ∙ ap (filter (λ p. is_meant_for operator p.document)) all
          ∙ sym (ap (policies_for (publications_of c.args.self.now)) w.in-Some.is)
      | in_default w ↦ ap (λ v. map lent_policy v.items) w.policies-is ∙ all ∙ sym (ap (policies_for (publications_of c.args.self.now)) w.in_default.is)
    ]
