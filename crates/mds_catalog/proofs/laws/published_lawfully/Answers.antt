use Rattle.mds_catalog.proofs.laws.published_lawfully.Goals as goal

pub returns : goal.returns
returns c = c.args.catalogue.now.lawful
