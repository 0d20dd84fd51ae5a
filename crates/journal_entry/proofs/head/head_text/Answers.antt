use Rattle.std.proofs.Common.{◌≡◌, ℕ, List, [], ◌∷◌, ◌++◌, map, take, ap, sym, ◌∙◌, append_assoc}
use Rattle.std.proofs.lemmas.List.{map_more}
use Rattle.journal_entry.specs.Heads.{share_of, share_text, shares_text, head_word}
use Rattle.journal_entry.specs.declared.head.TheConstants.{LAYOUT}
use Rattle.journal_entry.proofs.Shared.{text_more}
use Rattle.journal_entry.proofs.head.head_text.Goals as goal

pub loop-share-preserved : goal.loop-share-preserved
loop-share-preserved c =
    let i = c.loop-share.share-index in
    let xs = c.args.shares.now in
    let x = c.share-item.result in
    let so_far = map share_of (take i xs) in
    let more = map_more share_of xs i x c.loop-share-test.true ∙ ap (λ y. so_far ++ share_of y ∷ []) (sym c.share-item.is) in
    c.in_ok-push_share.ensures ∙ ap (λ (t : List ℕ). t ++ share_text (share_of x)) c.loop-share.invariant
    ∙ ap (λ (t : List ℕ). head_word ++ (LAYOUT ∷ t)) (sym (text_more so_far (share_of x)) ∙ ap shares_text (sym more))
