use Rattle.std.proofs.Common.{◌≡◌, ◌++◌, [], ◌∷◌, ℕ, List, true, length, cond, map, take, ap, sym, ◌∙◌, arith}
use Rattle.std.proofs.lemmas.List.{take_all}
use Rattle.std.specs.Option.{option_map_or}
use Rattle.mds_policy.specs.Policy.{policy_document}
use Rattle.mds_catalog.specs.declared.batch.Batch.{Batch}
use Rattle.mds_catalog.specs.Publication.{is_meant_for, publications_in, published_policies}
use Rattle.mds_catalog.proofs.Texts.{shown_texts, shown_texts_are, texts_more}
use Rattle.mds_catalog.proofs.lists.policy_text_refs.Goals as goal

pub loop-place-preserved : goal.loop-place-preserved
loop-place-preserved c =
    let batch = c.deref-batch.result.now in
    let operator = c.args.operator.now in
    let t = c.index.result.now in
    texts_more operator (published_policies (publications_in (take c.loop-share.share-index c.args.batches.now))) batch.moment batch.policies.items batch.policy_texts.items c.loop-place.place c.policy-item.result t c.is_visible_to.result
    (map (λ t. t.now) c.loop-place.lent.items) (map (λ t. t.now) c.push_visible.new.lent.items)
    batch.policies_printed
    (omega (arith, c.loop-place-test.true, ap (λ (xs : List _). length xs) c.deref-policy-items.ensures.value))
    (rw c.deref-policy-items.ensures.value at c.policy-item.is)
    c.index.ensures
    (c.is_visible_to.ensures ∙ ap (λ p. option_map_or (λ o. is_meant_for o (policy_document p)) operator true) c.deref-in-loop-place.ensures)
    (c.in_ok-push_visible.ensures ∙ ap (λ text. map (λ t. t.now) c.loop-place.lent.items ++ cond c.is_visible_to.result (text ∷ []) []) c.deref.ensures.value)
    c.loop-place.invariant

pub returns : goal.returns
returns c =
    c.loop-share.invariant
    ∙ ap (λ batches. shown_texts c.args.operator.now (published_policies (publications_in batches))) (take_all c.loop-share.share-index c.args.batches.now c.loop-share-test.false)
    ∙ shown_texts_are c.args.operator.now (publications_in c.args.batches.now)
