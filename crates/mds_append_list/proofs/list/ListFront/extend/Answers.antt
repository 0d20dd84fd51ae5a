use Rattle.std.proofs.Common.{sym, ◌∙◌, ap}
use Rattle.mds_append_list.proofs.Adding.{adds_moves}
use Rattle.mds_append_list.proofs.Fronts.{longer}
use Rattle.mds_append_list.proofs.list.ListFront.extend.Goals as goal

pub compare_exchange-found-requires : goal.compare_exchange-found-requires
compare_exchange-found-requires g c =
    let h = c.requires.head in
    let s = c.args.self.now in
    let offer = c.plain-offer.ensures in
    let pen = c.no_pen-pen.ensures in (
      ap (λ w. w.tracked) h,
      sym (ap (λ w. w.book) h),
      pen.0 ∙ sym (ap (λ w. w.book) h),
      offer.0,
      rw (ap (λ w. w.key) h, pen.1, offer.1) (adds_moves c.plain-offer.result.state s.seen.log _ s.count (sym s.counted)),
    )

pub returns-clause-longer : goal.returns-clause-longer
returns-clause-longer g c = λ is.
    let s = c.args.self.now in
    let found = c.compare_exchange-found in
    longer _ s.seen.log found.new.seen.log s.count found.result s.counted found.ensures.6 found.ensures.7 is
