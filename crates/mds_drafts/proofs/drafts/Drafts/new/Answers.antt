use Rattle.std.proofs.Common.{◌≡◌, ap, sym, ◌∙◌}
use Rattle.std.specs.FinMap.{len-empty}
use Rattle.mds_policy.specs.Policy.{Policy}
use Rattle.mds_geography.specs.Geography.{Geography}
use Rattle.mds_drafts.specs.Drafts.{id_cmp, count_of}
use Rattle.mds_drafts.specs.Entries.{drafts_in}
use Rattle.mds_text.specs.declared.draft_kind.DraftKind.TheVariants as kinds
use Rattle.mds_drafts.proofs.drafts.Drafts.new.Goals as goal

pub invariant_of-result : goal.invariant_of-result
invariant_of-result c =
    record {
      policies_counted = sym (ap (λ items. count_of (drafts_in items) kinds.Policy) c.new.ensures.items ∙ len-empty id_cmp Policy);
      geographies_counted = sym (ap (λ items. count_of (drafts_in items) kinds.Geography) c.new.ensures.items ∙ len-empty id_cmp Geography);
    }
