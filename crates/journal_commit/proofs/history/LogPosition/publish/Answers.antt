use Rattle.std.proofs.Common.{sym, ◌∙◌, ap, []}
use Rattle.journal_commit.specs.History.{AreSynced}
use Rattle.journal_commit.proofs.Words.{raises_moves}
use Rattle.journal_commit.proofs.history.LogPosition.publish.Goals as goal

pub compare_exchange-found-requires : goal.compare_exchange-found-requires
compare_exchange-found-requires g c =
    let h = c.args.ledger.now.synced_is in
    let s = c.self.inside in
    let named = ap (λ t. t.book) c.again-seen.ensures ∙ c.self.invariant.0 in
    let seen = ap (λ t. t.log) c.again-seen.ensures in
    let offer = c.plain-offer.ensures in
    let pen = c.no_pen-pen.ensures in
    let now : AreSynced g.L.Log.may_be g.L.Log.is_synced s.seen.log =
    (c.args.log.now, c.requires.texts.0, c.requires.synced, rw c.self.view_is c.requires.texts.1) in (
      ap (λ w. w.tracked) h,
      named ∙ sym (ap (λ w. w.book) h),
      pen.0 ∙ (named ∙ sym (ap (λ w. w.book) h)),
      offer.0,
      rw (ap (λ w. w.key) h, pen.1, offer.3, seen) (raises_moves g.L.Log.may_be g.L.Log.is_synced s.seen.log [] c.args.before s.count c.self.invariant.1 now),
    )
