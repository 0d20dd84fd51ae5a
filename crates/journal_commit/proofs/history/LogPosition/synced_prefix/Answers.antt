use Rattle.std.proofs.Common.{sym, ◌∙◌, ap, []}
use Rattle.journal_commit.proofs.Words.{finds_moves}
use Rattle.journal_commit.proofs.history.LogPosition.synced_prefix.Goals as goal

pub load-count-requires : goal.load-count-requires
load-count-requires g c =
    let h = c.args.ledger.now.synced_is in
    let named = ap (λ t. t.book) c.again-seen.ensures ∙ c.self.invariant.0 in
    let offer = c.plain-offer.ensures in (
      ap (λ w. w.tracked) h,
      named ∙ sym (ap (λ w. w.book) h),
      offer.0,
      rw (ap (λ w. w.key) h, offer.3) (finds_moves g.L.Log.may_be g.L.Log.is_synced c.again-seen.result.log []),
    )
