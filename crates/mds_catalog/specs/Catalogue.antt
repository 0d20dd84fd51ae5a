-- The values of a `Catalogue` and of the documents that it lends.
use Rattle.std.specs.Prelude.{ℕ, List}
use Rattle.mds_policy.specs.Policy.{policy_document, Policy}
use Rattle.mds_geography.specs.Geography.{geography_document, Geography}
use Rattle.mds_policy.specs.declared.policy.Policy as program
use Rattle.mds_geography.specs.declared.geography.Geography as program'
use Rattle.mds_catalog.specs.declared.catalogue.Catalogue.{Catalogue}
use Rattle.mds_catalog.specs.declared.published.Published as lent
use Rattle.mds_catalog.specs.Publication.{Publication, Published, publications_in}
use Rattle.mds_catalog.specs.Texts.{policy_text, geography_text}

-- the publications of a catalogue, in order
abbrev pub publications_of : Catalogue → List Publication
publications_of c = publications_in c.batches.items

-- the published policy that is borrowed
abbrev pub lent_policy : lent.Published program.Policy → Published Policy
lent_policy p = record { document = policy_document p.document.now; moment = p.moment }

-- the published geography that is borrowed
abbrev pub lent_geography : lent.Published program'.Geography → Published Geography
lent_geography g = record { document = geography_document g.document.now; moment = g.moment }

-- a published policy as it is served
abbrev pub served_policy : Published Policy → List ℕ
served_policy p = policy_text p.moment p.document

-- a published geography as it is served
abbrev pub served_geography : Published Geography → List ℕ
served_geography g = geography_text g.moment g.document
