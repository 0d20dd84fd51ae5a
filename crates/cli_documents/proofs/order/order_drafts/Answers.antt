use Rattle.std.proofs.Common.{◌≡◌, List, [], ◌∷◌, ◌++◌, length, Some, refl, sym, subst, append_assoc, arith}
use Rattle.std.proofs.lemmas.List.{append-nil}
use Rattle.std.proofs.lemmas.Bool.Decides.{nat_tests}
use Rattle.std.specs.List.{remove, slice_get}
use Rattle.cli_documents.specs.declared.drafting.ImportDraft.{ImportDraft}
use Rattle.cli_documents.specs.Order.{IsInTurn, next_place}
use Rattle.cli_documents.proofs.order.order_drafts.Goals as goal

-- one more of those that are left
turned : (all left sent : List ImportDraft) (draft : ImportDraft) (later : List ImportDraft) → ((more : List ImportDraft) → IsInTurn left more → IsInTurn all (sent ++ more)) → slice_get left (next_place left) ≡ Some draft → IsInTurn (remove left (next_place left)) later → IsInTurn all ((sent ++ draft ∷ []) ++ later)
turned all left sent draft later goes_on taken rest = subst (IsInTurn all) (sym (append_assoc sent (draft ∷ []) later)) (goes_on (draft ∷ later) (taken, rest))

pub turns-init : goal.turns-init
turns-init c = λ later h. subst (λ sent. IsInTurn c.args.drafts.items (sent ++ later)) (sym c.new-ordered.ensures.items) h

pub turns-preserved : goal.turns-preserved
turns-preserved c = λ later h.
    subst (λ sent. IsInTurn c.args.drafts.items (sent ++ later)) (sym c.in_ok-push.ensures.items)
    (turned c.args.drafts.items c.turns.left.items c.turns.ordered.items c.take_next-draft.result later c.turns.invariant c.take_next-draft.ensures.taken
    (subst (λ left. IsInTurn left later) c.take_next-draft.ensures.rest h))

none : (left : List ImportDraft) → length left ≡ 0 → left ≡ []
none [] h = refl
none (draft ∷ left) h = grind arith

pub returns : goal.returns
returns c =
    subst (IsInTurn c.args.drafts.items) (append-nil c.turns.ordered.items)
    (c.turns.invariant [] (none c.turns.left.items (grind (arith, nat_tests, c.is_empty.ensures, c.turns-test.false))))
