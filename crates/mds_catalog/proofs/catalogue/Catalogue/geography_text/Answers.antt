use Rattle.std.proofs.Common.{◌≡◌, ℕ, Some, None, List, find, get_or, option_map, ap, sym, ◌∙◌, arith}
use Rattle.std.specs.declared.alloc.Global.{Global}
use Rattle.std.specs.declared.vec.Vec.{Vec}
use Rattle.mds_geography.specs.Geography.{Geography}
use Rattle.mds_catalog.specs.declared.batch.Batch.{Batch}
use Rattle.mds_catalog.specs.declared.document_index.DocumentSpot.{DocumentSpot}
use Rattle.mds_catalog.specs.Publication.{Publication, publication_of, geography_ids, find_geography}
use Rattle.mds_catalog.specs.Catalogue.{publications_of, served_geography}
use Rattle.mds_catalog.specs.Listed.{has, spots_in}
use Rattle.mds_catalog.specs.Texts.{geography_text}
use Rattle.mds_catalog.proofs.SpotsFound.{nowhere_in, placed, within}
use Rattle.mds_catalog.proofs.Texts.{as_many, lent_text}
use Rattle.mds_catalog.proofs.catalogue.Catalogue.geography_text.Goals as goal

pub returns-in_err-spot : goal.returns-in_err-spot
returns-in_err-spot c =
    let kept = c.args.self.now.kept in
    let none : find (has (λ (s : DocumentSpot). s.id) c.args.id) (spots_in geography_ids 0 (publications_of c.args.self.now)) ≡ None = sym (kept.geographies_found c.args.id) ∙ ap (find (has (λ (s : DocumentSpot). s.id) c.args.id)) (sym c.deref.ensures.value) ∙ sym c.spot_of.ensures ∙ c.in_err-spot.was in
    ap (option_map _) c.from_residual.ensures ∙ ap (option_map served_geography) (sym (nowhere_in (λ (d : Geography). d.id) c.args.id (λ (p : Publication). p.geographies) 0 (publications_of c.args.self.now) none))

pub index-requires : goal.index-requires
index-requires c =
    let kept = c.args.self.now.kept in
    let found : find (has (λ (s : DocumentSpot). s.id) c.args.id) (spots_in geography_ids 0 (publications_of c.args.self.now)) ≡ Some c.in_ok-spot.spot = sym (kept.geographies_found c.args.id) ∙ ap (find (has (λ (s : DocumentSpot). s.id) c.args.id)) (sym c.deref.ensures.value) ∙ sym c.spot_of.ensures ∙ c.in_ok-spot.was in
    omega (arith, within (λ (d : Geography). d.id) c.args.id (λ (p : Publication). p.geographies) c.args.self.now.batches.items c.in_ok-spot.spot found, c.args.self.now.batches.ok.0)

pub index-requires-2 : goal.index-requires-2
index-requires-2 c =
    let kept = c.args.self.now.kept in
    let found : find (has (λ (s : DocumentSpot). s.id) c.args.id) (spots_in geography_ids 0 (publications_of c.args.self.now)) ≡ Some c.in_ok-spot.spot = sym (kept.geographies_found c.args.id) ∙ ap (find (has (λ (s : DocumentSpot). s.id) c.args.id)) (sym c.deref.ensures.value) ∙ sym c.spot_of.ensures ∙ c.in_ok-spot.was in
    let at = placed (λ (d : Geography). d.id) c.args.id (λ (p : Publication). p.geographies) c.args.self.now.batches.items c.in_ok-spot.spot c.index.result.now c.index.ensures found in
    let batch = c.index.result.now.value in
    omega (arith, at.place, as_many (λ (t : Vec ℕ Global). t.items) (geography_text batch.moment) batch.geography_texts.items (publication_of batch).geographies batch.geographies_printed, batch.geography_texts.ok.0, ap (λ (b : Batch). b.geography_texts.len) c.deref-published.ensures)

pub returns : goal.returns
returns c =
    let kept = c.args.self.now.kept in
    let found : find (has (λ (s : DocumentSpot). s.id) c.args.id) (spots_in geography_ids 0 (publications_of c.args.self.now)) ≡ Some c.in_ok-spot.spot = sym (kept.geographies_found c.args.id) ∙ ap (find (has (λ (s : DocumentSpot). s.id) c.args.id)) (sym c.deref.ensures.value) ∙ sym c.spot_of.ensures ∙ c.in_ok-spot.was in
    let at = placed (λ (d : Geography). d.id) c.args.id (λ (p : Publication). p.geographies) c.args.self.now.batches.items c.in_ok-spot.spot c.index.result.now c.index.ensures found in
    let batch = c.index.result.now.value in
    let t = c.index-2.result.now in
    ap Some c.deref-text.ensures.value
    ∙ lent_text (λ (t : Vec ℕ Global). t.items) geography_text batch.geography_texts.items (publication_of batch).geographies c.in_ok-spot.spot.place batch.moment t (find_geography (publications_of c.args.self.now) c.args.id) batch.geographies_printed at.place
    (c.index-2.ensures ∙ ap (λ (b : Batch). get_or b.geography_texts.items c.in_ok-spot.spot.place t) c.deref-published.ensures) at.is
