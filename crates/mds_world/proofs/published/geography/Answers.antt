use Rattle.std.proofs.Common.{length, codes, ap, ◌∙◌}
use Rattle.mds_catalog.specs.Catalogue.{publications_of}
use Rattle.mds_request.specs.Reply.{success}
use Rattle.mds_machine.specs.Published.{geography_json}
use Rattle.mds_world.proofs.Joined.{geography_answered, geography_found, no_geography, told_body}
use Rattle.mds_world.proofs.published.geography.Goals as goal

pub returns-in_default : goal.returns-in_default
returns-in_default c = no_geography (publications_of c.args.catalogue.now) c.args.id c.in_default.ensures

pub ok-requires : goal.ok-requires
ok-requires c =
    let publications = publications_of c.args.catalogue.now in
    let found = geography_found publications c.args.id c.in-Some.text.now c.in-Some.ensures in
    let body = told_body (codes "geography") c.in-Some.text.now c.in_ok-body.body.items (geography_json found.0) c.revision.result (length publications) c.in_ok-body.ensures found.2 c.revision.ensures.count in
    body.line

pub returns : goal.returns
returns c =
    let publications = publications_of c.args.catalogue.now in
    let found = geography_found publications c.args.id c.in-Some.text.now c.in-Some.ensures in
    let body = told_body (codes "geography") c.in-Some.text.now c.in_ok-body.body.items (geography_json found.0) c.revision.result (length publications) c.in_ok-body.ensures found.2 c.revision.ensures.count in
    geography_answered publications c.args.id found.0 c.ok.result found.1 (c.ok.ensures ∙ ap success body.is)
