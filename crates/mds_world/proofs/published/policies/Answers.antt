use Rattle.std.proofs.Common.{map, length, codes, ap, ◌∙◌}
use Rattle.mds_catalog.specs.Catalogue.{publications_of}
use Rattle.mds_catalog.specs.Publication.{policies_for}
use Rattle.mds_request.specs.Reply.{success}
use Rattle.mds_machine.specs.Bodies.{list_json}
use Rattle.mds_machine.specs.Published.{policy_json}
use Rattle.mds_world.specs.Texts.{list_text}
use Rattle.mds_world.proofs.Joined.{list_is, policies_printed, told_body}
use Rattle.mds_world.proofs.published.policies.Goals as goal

pub ok-requires : goal.ok-requires
ok-requires c =
    let publications = publications_of c.args.catalogue.now in
    let shown = policies_for publications c.args.operator in
    let body = told_body (codes "policies") (list_text (map (λ t. t.now) c.deref.result.now)) c.in_ok-body.body.items (list_json (map policy_json shown)) c.revision.result (length publications) c.in_ok-body.ensures
    (list_is (map (λ t. t.now) c.deref.result.now) (map policy_json shown) (ap (map (λ t. t.now)) c.deref.ensures.value ∙ c.in_ok-texts.ensures ∙ policies_printed shown)) c.revision.ensures.count in
    body.line

pub returns : goal.returns
returns c =
    let publications = publications_of c.args.catalogue.now in
    let shown = policies_for publications c.args.operator in
    let body = told_body (codes "policies") (list_text (map (λ t. t.now) c.deref.result.now)) c.in_ok-body.body.items (list_json (map policy_json shown)) c.revision.result (length publications) c.in_ok-body.ensures
    (list_is (map (λ t. t.now) c.deref.result.now) (map policy_json shown) (ap (map (λ t. t.now)) c.deref.ensures.value ∙ c.in_ok-texts.ensures ∙ policies_printed shown)) c.revision.ensures.count in
    c.ok.ensures ∙ ap success body.is
