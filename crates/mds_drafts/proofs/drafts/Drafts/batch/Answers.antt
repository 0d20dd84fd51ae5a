use Rattle.std.proofs.Common.{◌≡◌, ℕ, List, map, ap, sym, ◌∙◌}
use Rattle.std.specs.List.{filter_map}
use Rattle.std.specs.FinMap.{get}
use Rattle.mds_catalog.specs.Publication.{publication_of}
use Rattle.mds_catalog.specs.Catalogue.{publications_of}
use Rattle.std.specs.declared.sync.Arc.{Arc}
use Rattle.std.specs.declared.alloc.Global.{Global}
use Rattle.std.specs.declared.vec.Vec.{Vec}
use Rattle.mds_policy.specs.Policy.{policy_document}
use Rattle.mds_policy.specs.declared.policy.Policy as policy
use Rattle.mds_geography.specs.Geography.{geography_document}
use Rattle.mds_geography.specs.declared.geography.Geography as geography
use Rattle.mds_drafts.specs.Entries.{drafts_in}
use Rattle.mds_drafts.specs.Values.{named_of}
use Rattle.mds_drafts.proofs.Lawful.{lawful_drafts}
use Rattle.mds_drafts.proofs.drafts.Drafts.batch.Goals as goal

pub returns-in-None-clause-lawful : goal.returns-in-None-clause-lawful
returns-in-None-clause-lawful c =
    let items = c.args.self.now.items.items in
    let list = c.args.list.now in
    let batch = c.in_ok-batch.batch in
    lawful_drafts items (named_of list) (publications_of c.args.catalogue.now) (publication_of batch) list.geographies_differ list.policies_differ list.withdraw_differ
    (sym c.if-is_empty.ensures) (sym c.in_default.ensures) (sym c.in-None.ensures)
    (ap (λ (v : Vec (Arc geography.Geography Global) Global). map (λ (s : Arc geography.Geography Global). geography_document s.value) v.items) c.in_ok-batch.ensures.geographies ∙ c.in_ok-geographies.ensures ∙ ap (filter_map (get (drafts_in items).geographies)) c.deref.ensures.value)
    (ap (λ (v : Vec (Arc policy.Policy Global) Global). map (λ (s : Arc policy.Policy Global). policy_document s.value) v.items) c.in_ok-batch.ensures.policies ∙ c.in_ok-policies.ensures ∙ ap (filter_map (get (drafts_in items).policies)) c.deref-2.ensures.value)
    (ap (λ (v : Vec (List ℕ) Global). v.items) c.in_ok-batch.ensures.withdrawn ∙ c.in_ok-withdrawn.ensures.items ∙ c.deref-3.ensures.value)
