-- What becomes of a log whose file may be a compacted one, at each step.
use Rattle.std.proofs.Common.{◌≡◌, ℕ, ◌+◌, Bool, true, false, List, [], ◌∷◌, ◌++◌, length, refl, sym, ap, subst, ◌∙◌, append_assoc, inl, inr, arith}
use Rattle.std.proofs.lemmas.List.{length-append, append-nil}
use Rattle.journal_file.specs.LogEnds.{IsSealed}
use Rattle.journal_file.specs.declared.log_end.LogEnd.{LogEnd}
use Rattle.journal_swap.specs.Leading.{LeadsBeside, Leads}
use Rattle.journal_swap.specs.Compacted.{IsShorter}
use Rattle.journal_swap.specs.Swapped.{IsRolled, IsCaughtUp}
use Rattle.journal_swap.proofs.Leading.{grown, joined, beside_then}

-- a log by itself
pub rolled_new : (same : List (List ℕ) → List (List ℕ) → Type 0) (may : List (List ℕ) → Type 0) (exchanged keeping : Bool) (seal at : LogEnd) (since : List (List ℕ)) (list : List (List ℕ))
    → may list → ((l : List (List ℕ)) → may l → IsSealed at l) → keeping ≡ false → IsRolled same may exchanged keeping seal since at.count list
rolled_new same may exchanged keeping seal at since list m sealed none =
    record { held = list; may = m; leads = ([], refl); counted = (sealed list m).counted; own = λ e. refl; behind = λ e. absurd cc }

-- payloads were appended to the file, and copies of them are kept where those before are
pub rolled_more : (same : List (List ℕ) → List (List ℕ) → Type 0) (before after : List (List ℕ) → Type 0) (exchanged keeping keeping-after : Bool) (seal seal-after : LogEnd)
    (since since-after texts : List (List ℕ)) (count more : ℕ) (list : List (List ℕ))
    → IsRolled same before exchanged keeping seal since count list → ((held : List (List ℕ)) → before held → after (held ++ texts)) → more ≡ length texts
    → (keeping-after ≡ true → (keeping ≡ true) × (seal-after ≡ seal) × (since-after ≡ since ++ texts))
    → IsRolled same after exchanged keeping-after seal-after since-after (count + more) (list ++ texts)
rolled_more same before after exchanged keeping keeping-after seal seal-after since since-after texts count more list r appended counted kept =
    record {
      held = r.held ++ texts;
      may = appended r.held r.may;
      leads = grown same r.held list texts r.leads;
      counted = omega (arith, r.counted, counted, length-append list texts);
      own = λ e. ap (λ (l : List (List ℕ)). l ++ texts) (r.own e);
      behind = λ e.
          let k = kept e in
          let b = r.behind k.0 in (
            b.0,
            ap (λ (l : List (List ℕ)). l ++ texts) b.1 ∙ append_assoc b.0 since texts ∙ ap (λ (s : List (List ℕ)). b.0 ++ s) (sym k.2),
            subst (λ (s : LogEnd). IsSealed s b.0) (sym k.1) b.2,
          );
    }

-- the same file, with no copies kept
pub rolled_still : (same : List (List ℕ) → List (List ℕ) → Type 0) (before after : List (List ℕ) → Type 0) (exchanged keeping keeping-after : Bool) (seal seal-after : LogEnd)
    (since since-after : List (List ℕ)) (count : ℕ) (list : List (List ℕ))
    → IsRolled same before exchanged keeping seal since count list → ((held : List (List ℕ)) → before held → after held)
    → (keeping-after ≡ true → (keeping ≡ true) × (seal-after ≡ seal) × (since-after ≡ since))
    → IsRolled same after exchanged keeping-after seal-after since-after count list
rolled_still same before after exchanged keeping keeping-after seal seal-after since since-after count list r unchanged kept =
    record {
      held = r.held;
      may = unchanged r.held r.may;
      leads = r.leads;
      counted = r.counted;
      own = r.own;
      behind = λ e.
          let k = kept e in
          let b = r.behind k.0 in
          (b.0, b.1 ∙ ap (λ (s : List (List ℕ)). b.0 ++ s) (sym k.2), subst (λ (s : LogEnd). IsSealed s b.0) (sym k.1) b.2);
    }

-- copies of what is appended after this log end are kept from here on
pub rolled_begun : (same : List (List ℕ) → List (List ℕ) → Type 0) (may : List (List ℕ) → Type 0) (exchanged keeping keeping-after : Bool) (seal at seal-after : LogEnd)
    (since since-after : List (List ℕ)) (count : ℕ) (list : List (List ℕ))
    → IsRolled same may exchanged keeping seal since count list → ((held : List (List ℕ)) → may held → IsSealed at held) → seal-after ≡ at → since-after ≡ []
    → IsRolled same may exchanged keeping-after seal-after since-after count list
rolled_begun same may exchanged keeping keeping-after seal at seal-after since since-after count list r sealed is-at nothing =
    record {
      held = r.held;
      may = r.may;
      leads = r.leads;
      counted = r.counted;
      own = r.own;
      behind = λ e.
          (r.held, sym (append-nil r.held) ∙ ap (λ (s : List (List ℕ)). r.held ++ s) (sym nothing), subst (λ (s : LogEnd). IsSealed s r.held) (sym is-at) (sealed r.held r.may));
    }

-- a compacted log with the kept copies is equivalent to the file, and takes its place
pub rolled_exchanged : (same : List (List ℕ) → List (List ℕ) → Type 0) (before after : List (List ℕ) → Type 0) (exchanged exchanged-after keeping keeping-after : Bool) (seal seal-after : LogEnd)
    (since since-after : List (List ℕ)) (count : ℕ) (list : List (List ℕ))
    → IsRolled same before exchanged keeping seal since count list → keeping ≡ true → IsCaughtUp same after seal since → exchanged-after ≡ true → keeping-after ≡ false
    → IsRolled same after exchanged-after keeping-after seal-after since-after count list
rolled_exchanged same before after exchanged exchanged-after keeping keeping-after seal seal-after since since-after count list r kept c is-exchanged none =
    let b = r.behind kept in
    let on : Leads same (b.0 ++ since) list = subst (λ (l : List (List ℕ)). Leads same l list) b.1 r.leads in
    let one : LeadsBeside same (c.before ++ since) (b.0 ++ since) =
    record { front = c.before; other_front = b.0; rest = since; is_one = refl; is_other = refl; fronts = inr (seal, c.sealed, b.2) } in
    record {
      held = c.front ++ since;
      may = c.may;
      leads = joined same (c.front ++ since) (c.before ++ since) list (grown same c.front c.before since c.leads) (beside_then same (c.before ++ since) (b.0 ++ since) list one on);
      counted = r.counted;
      own = λ e. absurd cc;
      behind = λ e. absurd cc;
    }

-- a compacted log is equivalent to the other, also with more after both
pub caught_up : (same : List (List ℕ) → List (List ℕ) → Type 0) (before after : List (List ℕ) → Type 0) (seal seal-after : LogEnd) (since : List (List ℕ))
    → IsShorter same before seal → ((l : List (List ℕ)) → before l → after (l ++ since)) → seal-after ≡ seal → IsCaughtUp same after seal-after since
caught_up same before after seal seal-after since s appended is-at =
    record {
      front = s.front ++ s.rest;
      before = s.before ++ s.rest;
      may = appended (s.front ++ s.rest) s.may;
      leads = ((s.before ++ s.rest) ∷ [], (record { front = s.front; other_front = s.before; rest = s.rest; is_one = refl; is_other = refl; fronts = inl s.found }, refl));
      sealed = subst (λ (k : LogEnd). IsSealed k (s.before ++ s.rest)) (sym is-at) s.sealed;
    }

-- a compacted log that is brought up to a later log end
pub shorter_more : (same : List (List ℕ) → List (List ℕ) → Type 0) (before after synced : List (List ℕ) → Type 0) (seal to : LogEnd) (texts : List (List ℕ))
    → IsShorter same before seal → ((l : List (List ℕ)) → before l → after (l ++ texts)) → ((l : List (List ℕ)) → after l → synced l)
    → ((l : List (List ℕ)) → IsSealed seal l → IsSealed to (l ++ texts)) → IsShorter same synced to
shorter_more same before after synced seal to texts s appended still sealed =
    record {
      front = s.front;
      before = s.before;
      rest = s.rest ++ texts;
      may = subst synced (append_assoc s.front s.rest texts) (still _ (appended (s.front ++ s.rest) s.may));
      found = s.found;
      sealed = subst (λ (l : List (List ℕ)). IsSealed to l) (append_assoc s.before s.rest texts) (sealed (s.before ++ s.rest) s.sealed);
    }

-- a log that was found equivalent to a list with this log end
pub shorter_new : (same : List (List ℕ) → List (List ℕ) → Type 0) (may : List (List ℕ) → Type 0) (seal : LogEnd) (front before : List (List ℕ))
    → may front → same front before → IsSealed seal before → IsShorter same may seal
shorter_new same may seal front before m found sealed =
    record {
      front = front;
      before = before;
      rest = [];
      may = subst may (sym (append-nil front)) m;
      found = found;
      sealed = subst (λ (l : List (List ℕ)). IsSealed seal l) (sym (append-nil before)) sealed;
    }
