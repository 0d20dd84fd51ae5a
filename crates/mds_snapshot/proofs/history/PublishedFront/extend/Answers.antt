use Rattle.std.proofs.Common.{sym, ◌∙◌, ap}
use Rattle.mds_catalog.specs.Publication.{publication_of}
use Rattle.mds_snapshot.proofs.Adding.{adds_moves}
use Rattle.mds_snapshot.proofs.history.PublishedFront.extend.Goals as goal

pub compare_exchange-found-requires : goal.compare_exchange-found-requires
compare_exchange-found-requires g c =
    let h = c.args.ledger.now.head_is in
    let t = c.again-count.result in
    let named = ap (λ t. t.seen.book) c.again-count.ensures ∙ c.self.invariant in
    let offer = c.plain-offer.ensures in
    let pen = c.no_pen-pen.ensures in (
      ap (λ w. w.tracked) h,
      named ∙ sym (ap (λ w. w.book) h),
      pen.0 ∙ (named ∙ sym (ap (λ w. w.book) h)),
      offer.0,
      rw (ap (λ w. w.key) h, pen.1, offer.1, offer.3) (adds_moves t.seen.log (publication_of c.args.batch.now) t.count (sym t.counted)),
    )
