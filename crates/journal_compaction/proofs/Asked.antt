-- One question after another.
use Rattle.std.proofs.Common.{◌≡◌, ℕ, ◌+◌, ◌<◌, Bool, true, false, cond, List, [], ◌∷◌, ◌++◌, length, map, take, get_or, refl, sym, ap, subst, ◌∙◌, append_assoc}
use Rattle.std.proofs.lemmas.List.{map-append, take_more}
use Rattle.mds_request.specs.Configuration.{Configuration}
use Rattle.mds_request.specs.Reply.{Reply}
use Rattle.journal_entry.specs.Entries.{Entry}
use Rattle.journal_entry.specs.declared.entry.EntryClient.TheVariants.{Author}
use Rattle.journal_recovery.specs.Recovery.{Server}
use Rattle.journal_compaction.specs.Questions.{asks, is_draft, drafts}
use Rattle.journal_compaction.specs.Replies.{IsTold, AreTold}

drafts_more : (at : ℕ) (entries : List Entry) (e : Entry) → drafts at (entries ++ e ∷ []) ≡ drafts at entries ++ drafts at (e ∷ [])
drafts_more at [] e = refl
drafts_more at (one ∷ entries) e = by (is_draft one) (drafts_more at entries e)
  where
    by : (b : Bool) → drafts at (entries ++ e ∷ []) ≡ drafts at entries ++ drafts at (e ∷ [])
        → cond b (asks at Author one.target ∷ drafts at (entries ++ e ∷ [])) (drafts at (entries ++ e ∷ []))
        ≡ cond b (asks at Author one.target ∷ drafts at entries) (drafts at entries) ++ drafts at (e ∷ [])
    by true rest = ap (λ list. asks at Author one.target ∷ list) rest
    by false rest = rest

one_more : {E A : Type 0} (of : E → A) (items : List E) (i : ℕ) (item : E) → i < length items → item ≡ get_or items i item
    → map of (take i items) ++ of item ∷ [] ≡ map of (take (i + 1) items)
one_more of items i item within here =
    sym (map-append of (take i items) (item ∷ []))
    ∙ ap (map of) (ap (λ x. take i items ++ x ∷ []) here ∙ sym (take_more items i item within))

-- the question for one more entry's draft
pub draft_more : {E : Type 0} (of : E → Entry) (at : ℕ) (first list next : List Entry) (entries : List E) (i : ℕ) (e : E) → i < length entries
    → e ≡ get_or entries i e → list ≡ first ++ drafts at (map of (take i entries)) → next ≡ list ++ drafts at (of e ∷ [])
    → next ≡ first ++ drafts at (map of (take (i + 1) entries))
draft_more of at first list next entries i e within here so_far is =
    is ∙ ap (λ l. l ++ drafts at (of e ∷ [])) so_far ∙ append_assoc first (drafts at (map of (take i entries))) (drafts at (of e ∷ []))
    ∙ ap (λ d. first ++ d) (sym (drafts_more at (map of (take i entries)) (of e)) ∙ ap (drafts at) (one_more of entries i e within here))

answered_more : (c : Configuration) (questions : List Entry) (replies : List Reply) (q : Entry) (r : Reply) (s b next : Server)
    → AreTold c questions replies s b → IsTold c q r b next → AreTold c (questions ++ q ∷ []) (replies ++ r ∷ []) s next
answered_more c [] [] q r s b next are is = (next, subst (λ x. IsTold c q r x next) are is, refl)
answered_more c [] (reply ∷ replies) q r s b next are is = absurd are
answered_more c (question ∷ questions) [] q r s b next are is = absurd are
answered_more c (question ∷ questions) (reply ∷ replies) q r s b next are is = (are.0, are.1, answered_more c questions replies q r are.0 b next are.2 is)

-- the answer to one more question
pub told_more : {E : Type 0} (of : E → Entry) (c : Configuration) (questions : List E) (i : ℕ) (q : E) (replies next_replies : List Reply) (r : Reply)
    (s b next : Server) → i < length questions → q ≡ get_or questions i q → next_replies ≡ replies ++ r ∷ []
    → AreTold c (map of (take i questions)) replies s b → IsTold c (of q) r b next → AreTold c (map of (take (i + 1) questions)) next_replies s next
told_more of c questions i q replies next_replies r s b next within here pushed are is =
    subst (λ rs. AreTold c (map of (take (i + 1) questions)) rs s next) (sym pushed)
    (subst (λ qs. AreTold c qs (replies ++ r ∷ []) s next) (one_more of questions i q within here)
    (answered_more c (map of (take i questions)) replies (of q) r s b next are is))
