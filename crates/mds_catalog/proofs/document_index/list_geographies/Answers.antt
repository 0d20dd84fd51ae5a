use Rattle.std.proofs.Common.{map, take, subst, sym, ap, ◌∙◌, arith}
use Rattle.std.proofs.lemmas.List.{length-map, length-take-le}
use Rattle.mds_geography.specs.Geography.{geography_document}
use Rattle.std.specs.declared.sync.Arc.{Arc}
use Rattle.std.specs.declared.alloc.Global.{Global}
use Rattle.mds_geography.specs.declared.geography.Geography as program
use Rattle.mds_catalog.specs.declared.document_index.DocumentSpot.{DocumentSpot}
use Rattle.mds_catalog.specs.Listed.{Lists, spots_from}
use Rattle.mds_catalog.proofs.Ordered.{lists_more}
use Rattle.mds_catalog.proofs.SpotsFound.{length-spots_from, spots_more}
use Rattle.mds_catalog.proofs.document_index.list_geographies.Goals as goal

pub list_spot-requires-clause-room : goal.list_spot-requires-clause-room
list_spot-requires-clause-room c =
    let l = c.loop-place in
    let ids = map (λ (share : Arc program.Geography Global). (geography_document share.value).id) (take l.place c.args.geographies.now) in
    omega (arith, l.invariant.listed.few, l.invariant.capacity, length-spots_from c.args.batch 0 ids, length-map (take l.place c.args.geographies.now) (λ (share : Arc program.Geography Global). (geography_document share.value).id), length-take-le l.place c.args.geographies.now (omega arith), c.requires.room, l.spots.ok.0, c.args.spots.now.ok.0, c.loop-place-test.true)

pub loop-place-preserved : goal.loop-place-preserved
loop-place-preserved c =
    let l = c.loop-place in
    let spot : DocumentSpot = record { id = c.id-id.result; batch = c.args.batch; place = l.place } in
    let more = spots_more (λ (share : Arc program.Geography Global). (geography_document share.value).id) c.args.batch c.args.geographies.now l.place c.index-geographies-place.result c.id-id.result c.loop-place-test.true c.index-geographies-place.is (c.id-id.ensures ∙ ap (λ d. (geography_document d).id) c.deref.ensures) in
    record {
      listed = subst (Lists (λ s. s.id) c.args.spots.now.items c.list_spot.new.spots.items) (sym (more))
          (lists_more (λ s. s.id) c.args.spots.now.items l.spots.items c.list_spot.new.spots.items (spots_from c.args.batch 0 (map (λ (share : Arc program.Geography Global). (geography_document share.value).id) (take l.place c.args.geographies.now))) (spot) l.invariant.listed c.list_spot.ensures.listed);
      capacity = c.list_spot.ensures.capacity ∙ l.invariant.capacity;
    }
