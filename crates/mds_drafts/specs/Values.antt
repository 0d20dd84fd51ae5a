-- The values of a `Drafts` and a `PublishList` of the program.
use Rattle.mds_drafts.specs.declared.drafts.Drafts as program
use Rattle.mds_drafts.specs.Drafts.{Drafts}
use Rattle.mds_drafts.specs.Entries.{drafts_in}
use Rattle.mds_drafts.specs.Named.{Named}
use Rattle.mds_drafts.specs.declared.list.PublishList.{PublishList}

abbrev pub drafts_of : program.Drafts → Drafts
drafts_of d = drafts_in d.items.items

abbrev pub named_of : PublishList → Named
named_of list = record { geographies = list.geographies.items; policies = list.policies.items; withdraw = list.withdraw.items }
