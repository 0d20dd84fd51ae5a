use Rattle.std.proofs.Common.{◌≡◌, ap, subst, sym, ◌∙◌, arith, [], ◌∷◌, map, length, drop}
use Rattle.std.proofs.lemmas.List.{length-map, map-append}
use Rattle.std.specs.declared.sync.Arc.{Arc}
use Rattle.std.specs.declared.alloc.Global.{Global}
use Rattle.mds_policy.specs.Policy.{policy_document}
use Rattle.mds_policy.specs.declared.policy.Policy as policy
use Rattle.mds_geography.specs.Geography.{geography_document}
use Rattle.mds_geography.specs.declared.geography.Geography as geography
use Rattle.mds_catalog.specs.declared.batch.Batch.{Batch}
use Rattle.mds_catalog.specs.Index.{after_successors, after_withdrawal}
use Rattle.mds_catalog.specs.Laws.{AreLawful}
use Rattle.mds_catalog.specs.Publication.{publication_of, publications_in}
use Rattle.mds_catalog.specs.Catalogue.{publications_of}
use Rattle.mds_catalog.proofs.Found.{fits_all, lawful_fits, lawful_room}
use Rattle.mds_catalog.proofs.Keeping.{kept_push, written_back}
use Rattle.mds_catalog.proofs.Lawful.{lawful_more}
use Rattle.mds_catalog.proofs.Marked.{length-after_successors}
use Rattle.mds_catalog.proofs.catalogue.Catalogue.append.Goals as goal

pub list_geographies-requires-clause-room : goal.list_geographies-requires-clause-room
list_geographies-requires-clause-room c =
    let now = c.args.self.now in
    let p = publication_of c.args.batch.value in
    let room = fits_all (publications_of now) p (lawful_fits (publications_of now) p c.requires) in
    omega (
      arith,
      room.1,
      now.kept.few_geographies,
      now.kept.geographies_counted,
      now.spot_room,
      now.spots.ok.0,
      ap length (c.deref-4.ensures.value ∙ ap (λ (b : Batch). b.geographies.items) c.deref-3.ensures),
      length-map c.args.batch.value.geographies.items (λ (s : Arc geography.Geography Global). geography_document s.value),
    )

pub list_policies-requires-clause-room : goal.list_policies-requires-clause-room
list_policies-requires-clause-room c =
    let now = c.args.self.now in
    let p = publication_of c.args.batch.value in
    let room = fits_all (publications_of now) p (lawful_fits (publications_of now) p c.requires) in
    omega (
      arith,
      room.0,
      now.kept.few_policies,
      now.kept.policies_counted,
      now.entry_room,
      now.entries.ok.0,
      ap length (c.deref-6.ensures.value ∙ ap (λ (b : Batch). b.policies.items) c.deref-5.ensures),
      length-map c.args.batch.value.policies.items (λ (s : Arc policy.Policy Global). policy_document s.value),
    )

pub push_reserved-requires : goal.push_reserved-requires
push_reserved-requires c =
    let now = c.args.self.now in
    omega (arith, lawful_room (publications_of now) (publication_of c.args.batch.value) c.requires, length-map now.batches.items (λ (s : Arc Batch Global). publication_of s.value), now.batch_room, now.batches.ok.0)

pub invariant_of-self : goal.invariant_of-self
invariant_of-self c =
    let now = c.args.self.now in
    let batch = c.args.batch.value in
    let listed = c.list_policies.new.entries in
    let superseded = c.supersede.new.entries in
    let withdrawn = c.withdraw.new.entries in
    let documents = map (λ (s : Arc policy.Policy Global). policy_document s.value) batch.policies.items in
    let first : superseded ≡ after_successors batch.moment documents listed.items =
    c.supersede.ensures
    ∙ ap (λ (b : Batch). after_successors b.moment (map (λ (s : Arc policy.Policy Global). policy_document s.value) c.deref-9.result.now) c.deref_mut.result.now) c.deref-7.ensures
    ∙ ap (λ shares. after_successors batch.moment (map (λ (s : Arc policy.Policy Global). policy_document s.value) shares) c.deref_mut.result.now) (c.deref-9.ensures.value ∙ ap (λ (b : Batch). b.policies.items) c.deref-8.ensures)
    ∙ ap (after_successors batch.moment documents) c.deref_mut.ensures.value in
    let first_length : listed.len ≡ length superseded = omega (arith, ap length first, length-after_successors batch.moment documents listed.items, listed.ok.0) in
    let between = c.deref_mut-2.ensures.value ∙ written_back listed.len superseded (drop (length superseded) listed.items) first_length ∙ first in
    let second : withdrawn ≡ map (after_withdrawal batch.moment batch.withdrawn.items) (after_successors batch.moment documents listed.items) =
    c.withdraw.ensures
    ∙ ap (λ (b : Batch). map (after_withdrawal b.moment c.deref-12.result.now) c.deref_mut-2.result.now) c.deref-10.ensures
    ∙ ap (λ ids. map (after_withdrawal batch.moment ids) c.deref_mut-2.result.now) (c.deref-12.ensures.value ∙ ap (λ (b : Batch). b.withdrawn.items) c.deref-11.ensures)
    ∙ ap (map (after_withdrawal batch.moment batch.withdrawn.items)) between in
    let second_length : listed.len ≡ length withdrawn =
    omega (arith, ap length second, length-map (after_successors batch.moment documents listed.items) (after_withdrawal batch.moment batch.withdrawn.items), length-after_successors batch.moment documents listed.items, listed.ok.0) in
    let whole = written_back listed.len withdrawn _ second_length in
    let geographies = c.deref-4.ensures.value ∙ ap (λ (b : Batch). b.geographies.items) c.deref-3.ensures in
    let policies = c.deref-6.ensures.value ∙ ap (λ (b : Batch). b.policies.items) c.deref-5.ensures in
    record {
      batch_room = omega (arith, c.push_reserved.ensures.capacity, now.batch_room);
      entry_room = omega (arith, c.list_policies.ensures.capacity, now.entry_room);
      spot_room = omega (arith, c.list_geographies.ensures.capacity, now.spot_room);
      kept = kept_push now.batches.items c.args.batch now.entries.items listed.items _ now.spots.items c.list_geographies.new.spots.items now.policy_count now.geography_count c.len-number.result now.kept c.requires
          (omega (arith, c.len-number.ensures, now.batches.ok.0))
          (rw geographies at c.list_geographies.ensures.listed)
          (rw policies at c.list_policies.ensures.listed)
          (whole ∙ second)
          c.push_reserved.new.self.items c.len.result c.len-2.result c.push_reserved.ensures.items
          (omega (arith, c.len.ensures, ap (λ (b : Batch). b.policies.len) c.deref.ensures, batch.policies.ok.0))
          (omega (arith, c.len-2.ensures, ap (λ (b : Batch). b.geographies.len) c.deref-2.ensures, batch.geographies.ok.0));
      lawful = subst AreLawful
          (sym (ap publications_in c.push_reserved.ensures.items ∙ map-append (λ (s : Arc Batch Global). publication_of s.value) now.batches.items (c.args.batch ∷ [])))
          (lawful_more (publications_of now) (publication_of c.args.batch.value) now.lawful c.requires);
    }
