-- Each step on a word keeps the rule of the book.
use Rattle.std.proofs.Common.{◌≡◌, ℕ, ◌+◌, ◌<◌, ◌≤◌, ◌==◌, Bool, true, false, List, [], ◌∷◌, ◌++◌, length, take, refl, ap, sym, subst, arith, inl, length-append, None}
use Rattle.std.proofs.lemmas.List.{append-nil, take-append-le}
use Rattle.std.proofs.lemmas.Bool.Decides.{nat_tests}
use mathlib.Core.List.{IsPrefix}
use prog.Atomic.{either}
use Rattle.logbook.specs.Pages.{Cell, cell, keeps, no_nib, step, Moves, Goes}
use Rattle.journal_commit.specs.History.{AreSynced, IsKept, Adds, Stamps, Raises, Finds}
use Rattle.journal_commit.proofs.Fronts.{prefix_whole, prefix_taken}

abbrev pub shown : List (List ℕ) → List (List ℕ)
shown log = []

abbrev pub moved : List (List ℕ) → List (List ℕ) → ℕ → Type 0
moved xs ys n = Unit {0}

abbrev two : ℕ → ℕ → List Cell
two n s = (n, true) ∷ (s, true) ∷ []

module _ {L : Type 0} (may_be : L → List (List ℕ) → Type 0) (is_synced : L → Type 0) where
  kept_more : (log more : List (List ℕ)) (s n : ℕ) → s ≤ length log → AreSynced may_be is_synced (take s log) → n ≡ length (log ++ more) → IsKept may_be is_synced (two n s) (log ++ more)
  kept_more log more s n le synced len =
      record {
        synced = s;
        words = ap (λ (k : ℕ). two k s) len;
        within = omega (arith, le, length-append log more);
        are_synced = subst (AreSynced may_be is_synced) (sym (take-append-le s log more le)) synced;
      }

  pub adds_goes : (log v : List (List ℕ)) (e : List ℕ) (old s : ℕ) → s ≤ length log → AreSynced may_be is_synced (take s log) → length v ≡ old → IsPrefix v log
      → (b : Bool) → (length log == old) ≡ b
      → Goes (IsKept may_be is_synced) shown moved 0 (v, (no_nib, None)) (λ n. either (n == old) (old + 1) n) (Adds (step 0 old (old + 1) e) (v, (no_nib, None))) (two (length log) s) log
  adds_goes log v e old s le synced len pre true is =
      let here : length log ≡ old = grind (arith, nat_tests) in
      let same : v ≡ log = prefix_whole v log pre (omega arith) in
      let n : either (length log == old) (old + 1) (length log) ≡ length (log ++ e ∷ []) = rw is (omega (arith, length-append log (e ∷ []))) in (
        keeps,
        e ∷ [],
        None,
        tt,
        kept_more log (e ∷ []) s _ le synced n,
        inl (refl, refl),
        rw is (ap (λ w. w ++ e ∷ []) (sym same)),
      )
  adds_goes log v e old s le synced len pre false is =
      let n : either (length log == old) (old + 1) (length log) ≡ length (log ++ []) = rw is (ap length (sym (append-nil log))) in (
        keeps,
        [],
        None,
        tt,
        kept_more log [] s _ le synced n,
        inl (refl, refl),
        rw is (ap length (append-nil log)),
      )

  -- whatever the book is, the exchange appends the payload to all that was seen, or finds that the history is longer
  pub adds_moves : (v : List (List ℕ)) (e : List ℕ) (old : ℕ) → length v ≡ old
      → Moves (IsKept may_be is_synced) shown moved 0 (v, (no_nib, None)) (λ n. either (n == old) (old + 1) n) (Adds (step 0 old (old + 1) e) (v, (no_nib, None)))
  adds_moves v e old len cs log kept pre away =
      let P : List Cell → Type 0 = λ c. (0 < length c) × ((cell c 0).1 ≡ true) × Goes (IsKept may_be is_synced) shown moved 0 (v, (no_nib, None)) (λ n. either (n == old) (old + 1) n) (Adds (step 0 old (old + 1) e) (v, (no_nib, None))) c log in
      subst P (sym kept.words) (omega arith, refl, adds_goes log v e old kept.synced kept.within kept.are_synced len pre (length log == old) refl)

  -- a read of the first word sees all that was appended
  pub stamps_moves : (v : List (List ℕ)) (e : List ℕ)
      → Moves (IsKept may_be is_synced) shown moved 0 (v, (no_nib, None)) (λ n. n) (Stamps (step 0 0 0 e) (v, (no_nib, None)))
  stamps_moves v e cs log kept pre away =
      let P : List Cell → Type 0 = λ c. (0 < length c) × ((cell c 0).1 ≡ true) × Goes (IsKept may_be is_synced) shown moved 0 (v, (no_nib, None)) (λ n. n) (Stamps (step 0 0 0 e) (v, (no_nib, None))) c log in
      let all : length log ≡ length (log ++ []) = ap length (sym (append-nil log)) in
      subst P (sym kept.words)
      (omega arith, refl, (keeps, [], None, tt, kept_more log [] kept.synced (length log) kept.within kept.are_synced all, inl (refl, refl), sym all))

  -- a read of the second word sees what is synced
  pub finds_moves : (v : List (List ℕ)) (e : List ℕ)
      → Moves (IsKept may_be is_synced) shown moved 1 (v, (no_nib, None)) (λ n. n) (Finds may_be is_synced (step 1 0 0 e) (v, (no_nib, None)))
  unfolding kept_more
  finds_moves v e cs log kept pre away =
      let P : List Cell → Type 0 = λ c. (1 < length c) × ((cell c 1).1 ≡ true) × Goes (IsKept may_be is_synced) shown moved 1 (v, (no_nib, None)) (λ n. n) (Finds may_be is_synced (step 1 0 0 e) (v, (no_nib, None))) c log in
      let all : length log ≡ length (log ++ []) = ap length (sym (append-nil log)) in
      let after = kept_more log [] kept.synced (length log) kept.within kept.are_synced all in
      subst P (sym kept.words) (omega arith, refl, (keeps, [], None, tt, after, inl (refl, refl), (after.within, after.are_synced)))

  raised : (log v : List (List ℕ)) (before count s : ℕ) → s ≤ length log → AreSynced may_be is_synced (take s log) → count ≡ length v → AreSynced may_be is_synced v → IsPrefix v log
      → (b : Bool) → (s == before) ≡ b
      → IsKept may_be is_synced (two (length log) (either (s == before) count s)) (log ++ [])
  raised log v before count s le synced len now pre true is =
      let taken = prefix_taken v log count pre len in
      rw is (kept_more log [] count (length log) taken.0 (subst (AreSynced may_be is_synced) (sym taken.1) now) (ap length (sym (append-nil log))))
  raised log v before count s le synced len now pre false is =
      rw is (kept_more log [] s (length log) le synced (ap length (sym (append-nil log))))

  -- the exchange that records that all these payloads are synced
  pub raises_moves : (v : List (List ℕ)) (e : List ℕ) (before count : ℕ) → count ≡ length v → AreSynced may_be is_synced v
      → Moves (IsKept may_be is_synced) shown moved 1 (v, (no_nib, None)) (λ n. either (n == before) count n) (Raises (step 1 before count e) (v, (no_nib, None)))
  raises_moves v e before count len now cs log kept pre away =
      let P : List Cell → Type 0 = λ c. (1 < length c) × ((cell c 1).1 ≡ true) × Goes (IsKept may_be is_synced) shown moved 1 (v, (no_nib, None)) (λ n. either (n == before) count n) (Raises (step 1 before count e) (v, (no_nib, None))) c log in
      subst P (sym kept.words)
      (omega arith, refl, (keeps, [], None, tt, raised log v before count kept.synced kept.within kept.are_synced len now pre (kept.synced == before) refl, inl (refl, refl), tt))
