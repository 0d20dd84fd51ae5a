use Rattle.std.proofs.Common.{ap, arith}
use Rattle.journal_commit.specs.declared.client_shares.ClientShare.{ClientShare}
use Rattle.journal_commit.proofs.Sharing.{less_shared, share_read, nobody}
use Rattle.journal_commit.proofs.client_shares.ClientShares.release.Goals as goal

pub invariant_of-self : goal.invariant_of-self
invariant_of-self c =
    let each = c.args.self.now.each.items in
    let is = c.has_reservation.ensures c.if-not-has_reservation.false in
    let there = share_read each c.args.client c.index_mut-share.result.now is.0 c.index_mut-share.ensures.value in
    let held_texts = ap (λ (s : ClientShare). s.held.texts) there in
    let held_bytes = ap (λ (s : ClientShare). s.held.bytes) there in
    let texts = ap (λ (s : ClientShare). s.waiting.texts) there in
    let bytes = ap (λ (s : ClientShare). s.waiting.bytes) there in
    record {
      shared =
          less_shared each c.args.client _ nobody is.0
          (omega (arith, held_texts, texts))
          (omega (arith, held_bytes, bytes))
          c.args.self.now.shared;
    }
