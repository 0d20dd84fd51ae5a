use Rattle.std.proofs.Common.{◌≡◌, ◌++◌, ℕ, map, take, ap, sym, ◌∙◌, arith}
use Rattle.std.proofs.lemmas.List.{take_all}
use Rattle.std.specs.declared.alloc.Global.{Global}
use Rattle.std.specs.declared.vec.Vec.{Vec}
use Rattle.mds_catalog.specs.declared.batch.Batch.{Batch}
use Rattle.mds_catalog.specs.Publication.{publications_in, published_geographies}
use Rattle.mds_catalog.specs.Catalogue.{served_geography}
use Rattle.mds_catalog.proofs.Texts.{geographies_more}
use Rattle.mds_catalog.proofs.lists.geography_text_refs.Goals as goal

pub loop-share-preserved : goal.loop-share-preserved
loop-share-preserved c =
    let i = c.loop-share.share-index in
    let share = c.share-item.result in
    let before = map served_geography (published_geographies (publications_in (take i c.args.batches.now))) in
    let texts = c.deref-text-items.result.now in
    c.loop-text.invariant
    ∙ ap (λ ts. before ++ map (λ (t : Vec ℕ Global). t.items) ts) (take_all c.loop-text.text-index texts c.loop-text-test.false ∙ c.deref-text-items.ensures.value ∙ ap (λ (b : Batch). b.geography_texts.items) c.deref-batch.ensures)
    ∙ ap (λ ts. before ++ ts) share.value.geographies_printed
    ∙ sym (geographies_more c.args.batches.now i share c.loop-share-test.true c.share-item.is)
