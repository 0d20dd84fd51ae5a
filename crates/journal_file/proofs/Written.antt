-- Records that were written whole are read first.
use Rattle.std.proofs.Common.{◌≡◌, ℕ, ◌+◌, ◌≤◌, List, [], ◌∷◌, ◌++◌, Some, arith, refl, sym, ap, subst, ◌∙◌, append_assoc}
use Rattle.std.specs.List.{AllByRecursion}
use Rattle.journal_file.specs.Sum.{sum_over, sums_over}
use Rattle.journal_file.specs.Laws.{IsFrontOf, IsTornFrom}
use Rattle.journal_file.specs.Records.{Reads, Fits, written, record_of, extent, first_at}
use Rattle.journal_file.proofs.Records.{not_none, some_is, first_again}

-- where the first record reads so, its payload is read, and then what is read after it
pub first_then : (before : ℕ) (bytes text rest read : List ℕ) (found : List (List ℕ)) → first_at before bytes ≡ Some (text, rest) → Reads before bytes (read ∷ found)
    → (read ≡ text) × Reads (sum_over before text) rest found
first_then before bytes text rest read found first r =
    let same : (read, r.0) ≡ (text, rest) = some_is _ _ (sym r.1 ∙ first) in
    let read-is : read ≡ text = ap (λ (p : List ℕ × List ℕ). p.0) same in
    let behind-is : r.0 ≡ rest = ap (λ (p : List ℕ × List ℕ). p.1) same in
    (read-is, subst (λ (b : List ℕ). Reads (sum_over before text) b found) behind-is (subst (λ (t : List ℕ). Reads (sum_over before t) r.0 found) read-is r.2))

pub written_first : (before : ℕ) (texts found : List (List ℕ)) (tail : List ℕ) → AllByRecursion Fits texts → Reads before (written before texts ++ tail) found
    → (more : List (List ℕ)) × (found ≡ texts ++ more) × Reads (sums_over before texts) tail more
written_first before [] found tail fits r = (found, refl, r)
written_first before (text ∷ texts) [] tail fits r =
    absurd (not_none _ _ r (ap (first_at before) (append_assoc (record_of before text) (written (sum_over before text) texts) tail) ∙ first_again before text (written (sum_over before text) texts ++ tail) fits.0))
written_first before (text ∷ texts) (read ∷ found) tail fits r =
    let rest = written (sum_over before text) texts ++ tail in
    let first = ap (first_at before) (append_assoc (record_of before text) (written (sum_over before text) texts) tail) ∙ first_again before text rest fits.0 in
    let on = first_then before (written before (text ∷ texts) ++ tail) text rest read found first r in
    let others = written_first (sum_over before text) texts found tail fits.1 on.1 in
    (others.0, ap (λ (t : List ℕ). t ∷ found) on.0 ∙ ap (λ (x : List (List ℕ)). text ∷ x) others.1, others.2)

pub torn_front : (before : ℕ) (pending found : List (List ℕ)) (tail : List ℕ) → IsTornFrom before pending tail → Reads before tail found → IsFrontOf found pending
torn_front before pending [] tail torn r = (pending, refl)
torn_front before [] (read ∷ found) tail torn r = absurd (not_none _ _ torn r.1)
torn_front before (text ∷ pending) (read ∷ found) tail torn r =
    let t = torn read r.0 r.1 in
    let on : Reads (sum_over before text) r.0 found = subst (λ (x : List ℕ). Reads (sum_over before x) r.0 found) t.0 r.2 in
    let others = torn_front (sum_over before text) pending found r.0 t.1 on in
    (others.0, ap (λ (x : List (List ℕ)). text ∷ x) others.1 ∙ ap (λ (x : List ℕ). x ∷ (found ++ others.0)) (sym t.0))

pub extent_joined : (texts more : List (List ℕ)) → extent (texts ++ more) ≡ extent texts + extent more
extent_joined [] more = omega arith
extent_joined (text ∷ texts) more = omega (arith, extent_joined texts more)

-- what was synced is within what is read
pub synced_within : (before : ℕ) (synced found : List (List ℕ)) (tail : List ℕ) → AllByRecursion Fits synced → Reads before (written before synced ++ tail) found → extent synced ≤ extent found
synced_within before synced found tail fits r =
    let w = written_first before synced found tail fits r in
    rw w.1 (omega (arith, extent_joined synced w.0))
