-- The drafts that a list of the program's drafts stands for. Of those with the same kind and identifier the first
-- counts.
use Rattle.std.specs.Prelude.{ℕ, List, Option, Some, None}
use Rattle.std.specs.List.{filter_map}
use Rattle.std.specs.FinMap.{from_entries}
use Rattle.mds_policy.specs.Policy.{Policy, policy_document}
use Rattle.mds_geography.specs.Geography.{Geography, geography_document}
use Rattle.mds_drafts.specs.declared.draft.Draft.{Draft}
use Rattle.mds_drafts.specs.declared.draft.Draft.TheVariants as drafts
use Rattle.mds_drafts.specs.Drafts.{Drafts, Document, policy, geography}

-- the document of a draft
abbrev pub document_of : Draft → Document
document_of (drafts.Policy share) = policy (policy_document share.value)
document_of (drafts.Geography share) = geography (geography_document share.value)

abbrev pub policy_entry : Draft → Option (List ℕ × Policy)
policy_entry (drafts.Policy share) = Some ((policy_document share.value).id, policy_document share.value)
policy_entry other = None

abbrev pub geography_entry : Draft → Option (List ℕ × Geography)
geography_entry (drafts.Geography share) = Some ((geography_document share.value).id, geography_document share.value)
geography_entry other = None

abbrev pub drafts_in : List Draft → Drafts
drafts_in items = record { policies = from_entries (filter_map policy_entry items); geographies = from_entries (filter_map geography_entry items) }
