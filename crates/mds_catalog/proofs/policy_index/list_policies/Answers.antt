use Rattle.std.proofs.Common.{◌∷◌, [], map, take, subst, sym, ap, ◌∙◌, arith}
use Rattle.std.proofs.lemmas.List.{length-map, map-append, length-take-le}
use Rattle.mds_policy.specs.Policy.{policy_document}
use Rattle.std.specs.declared.sync.Arc.{Arc}
use Rattle.std.specs.declared.alloc.Global.{Global}
use Rattle.mds_policy.specs.declared.policy.Policy as program
use Rattle.mds_catalog.specs.declared.document_index.DocumentSpot.{DocumentSpot}
use Rattle.mds_catalog.specs.Listed.{Lists, spots_from}
use Rattle.mds_catalog.specs.Index.{fresh}
use Rattle.mds_catalog.proofs.Ordered.{lists_more}
use Rattle.mds_catalog.proofs.SpotsFound.{length-spots_from, spots_more}
use Rattle.mds_catalog.proofs.policy_index.list_policies.Goals as goal

pub list_entry-requires-clause-room : goal.list_entry-requires-clause-room
list_entry-requires-clause-room c =
    let l = c.loop-place in
    let ids = map (λ (share : Arc program.Policy Global). (policy_document share.value).id) (take l.place c.args.policies.now) in
    omega (arith, l.invariant.listed.few, l.invariant.capacity, length-map (spots_from c.args.batch 0 ids) fresh, length-spots_from c.args.batch 0 ids, length-map (take l.place c.args.policies.now) (λ (share : Arc program.Policy Global). (policy_document share.value).id), length-take-le l.place c.args.policies.now (omega arith), c.requires.room, l.entries.ok.0, c.args.entries.now.ok.0, c.loop-place-test.true)

pub loop-place-preserved : goal.loop-place-preserved
loop-place-preserved c =
    let l = c.loop-place in
    let spot : DocumentSpot = record { id = c.id-id.result; batch = c.args.batch; place = l.place } in
    let more = spots_more (λ (share : Arc program.Policy Global). (policy_document share.value).id) c.args.batch c.args.policies.now l.place c.index-policies-place.result c.id-id.result c.loop-place-test.true c.index-policies-place.is (c.id-id.ensures ∙ ap (λ d. (policy_document d).id) c.deref.ensures) in
    record {
      listed = subst (Lists (λ e. e.spot.id) c.args.entries.now.items c.list_entry.new.entries.items) (sym (ap (map fresh) more ∙ map-append fresh (spots_from c.args.batch 0 (map (λ (share : Arc program.Policy Global). (policy_document share.value).id) (take l.place c.args.policies.now))) (spot ∷ [])))
          (lists_more (λ e. e.spot.id) c.args.entries.now.items l.entries.items c.list_entry.new.entries.items (map fresh (spots_from c.args.batch 0 (map (λ (share : Arc program.Policy Global). (policy_document share.value).id) (take l.place c.args.policies.now)))) (fresh spot) l.invariant.listed c.list_entry.ensures.listed);
      capacity = c.list_entry.ensures.capacity ∙ l.invariant.capacity;
    }
