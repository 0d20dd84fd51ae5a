use Rattle.std.proofs.Common.{◌≡◌, ℕ, ◌+◌, ◌<◌, List, [], ◌∷◌, ◌++◌, length, map, ap, sym, subst, ◌∙◌, append_assoc, arith}
use Rattle.std.proofs.lemmas.List.{length-append, map-append}
use Rattle.journal_entry.specs.Heads.{Share, IsShare, AreShares, share_of, share_text, shares_text}
use Rattle.journal_entry.proofs.Shared.{share_length, text_more, are_more, behind_shares, no_share, filled}
use Rattle.journal_entry.proofs.head.shares_in.Goals as goal

pub returns-in-Err-clause-malformed : goal.returns-in-Err-clause-malformed
returns-in-Err-clause-malformed c m shares are e =
    let rest = c.loop-rest.rest.now in
    let more = behind_shares (map share_of c.loop-rest.shares.items) shares rest are (sym c.loop-rest.invariant.0 ∙ e) in
    no_share more.0 rest (filled rest (sym c.is_empty.ensures ∙ c.loop-rest-test.true)) more.1 more.2 (c.in-Err.ensures.malformed m)

pub loop-rest-smaller : goal.loop-rest-smaller
loop-rest-smaller c =
    let read = c.in-Ok.ensures.read in
    omega (arith, ap length read.0, length-append (share_text (share_of c.in-Ok.found.0)) c.in-Ok.found.1.now, share_length (share_of c.in-Ok.found.0))

pub loop-rest-preserved : goal.loop-rest-preserved
loop-rest-preserved c =
    let read = c.in-Ok.ensures.read in
    let inv = c.loop-rest.invariant in
    let some = map share_of c.loop-rest.shares.items in
    let share = share_of c.in-Ok.found.0 in
    let pushed : map share_of c.push.new.self.items ≡ some ++ share ∷ [] =
    ap (map share_of) c.in-Ok-push.ensures.items ∙ map-append share_of c.loop-rest.shares.items (c.in-Ok.found.0 ∷ []) in (
      inv.0 ∙ ap (λ (t : List ℕ). shares_text some ++ t) read.0 ∙ sym (append_assoc (shares_text some) (share_text share) c.in-Ok.found.1.now)
          ∙ ap (λ (t : List ℕ). t ++ c.in-Ok.found.1.now) (sym (text_more some share) ∙ ap shares_text (sym pushed)),
      subst AreShares (sym pushed) (are_more some share inv.1 read.1),
    )
