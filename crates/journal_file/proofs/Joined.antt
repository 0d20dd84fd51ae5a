-- What is read from a file to which records were appended, and from one that was cut after its whole records.
use Rattle.std.proofs.Common.{◌≡◌, ℕ, ◌+◌, ◌-◌, List, [], ◌∷◌, ◌++◌, length, take, refl, sym, ap, subst, ◌∙◌, append_assoc, arith}
use Rattle.std.specs.List.{AllByRecursion}
use Rattle.std.proofs.lemmas.List.{length-append, append-nil}
use Rattle.std.proofs.Math.Seq.{take-append-add}
use Rattle.journal_file.specs.Sum.{sum_over, sums_over}
use Rattle.journal_file.specs.Records.{Fits, Reads, written, record_of, extent, first_at}
use Rattle.journal_file.proofs.Records.{first_again, first_front, short_none, record_length}

pub written_length : (before : ℕ) (texts : List (List ℕ)) → length (written before texts) ≡ extent texts
written_length before [] = refl
written_length before (text ∷ texts) =
    omega (arith, length-append (record_of before text) (written (sum_over before text) texts), record_length before text, written_length (sum_over before text) texts)

pub reads_written : (before : ℕ) (texts : List (List ℕ)) → AllByRecursion Fits texts → Reads before (written before texts) texts
reads_written before [] fits = short_none before [] (omega arith)
reads_written before (text ∷ texts) fits =
    (written (sum_over before text) texts, first_again before text (written (sum_over before text) texts) fits.0, reads_written (sum_over before text) texts fits.1)

empty : (bytes : List ℕ) → length bytes ≡ 0 → bytes ≡ []
empty [] e = refl
empty (byte ∷ bytes) e = absurd (omega (arith, e))

-- what was appended after the whole records is read after them
pub reads_more : (before : ℕ) (bytes : List ℕ) (texts more : List (List ℕ)) → Reads before bytes texts → length bytes ≡ extent texts → AllByRecursion Fits more
    → Reads before (bytes ++ written (sums_over before texts) more) (texts ++ more)
reads_more before bytes [] more r ends fits =
    subst (λ (b : List ℕ). Reads before (b ++ written before more) more) (sym (empty bytes ends)) (reads_written before more fits)
reads_more before bytes (text ∷ texts) more r ends fits =
    let f = first_front before bytes text r.0 r.1 in
    let added = written (sums_over (sum_over before text) texts) more in
    let left : length r.0 ≡ extent texts = omega (arith, ends, f.long, ap (λ (b : List ℕ). length b) f.split, length-append f.front r.0) in
    let on = reads_more (sum_over before text) r.0 texts more r.2 left fits in
    (r.0 ++ added, ap (first_at before) (ap (λ (b : List ℕ). b ++ added) f.split ∙ append_assoc f.front r.0 added) ∙ f.again (r.0 ++ added), on)

pub reads_front : (before : ℕ) (bytes : List ℕ) (texts : List (List ℕ)) → Reads before bytes texts
    → Reads before (take (extent texts) bytes) texts × (length (take (extent texts) bytes) ≡ extent texts)
reads_front before bytes [] r = (short_none before [] (omega arith), refl)
reads_front before bytes (text ∷ texts) r =
    let f = first_front before bytes text r.0 r.1 in
    let on = reads_front (sum_over before text) r.0 texts r.2 in
    let long : 12 + length text + extent texts ≡ length f.front + extent texts = omega (arith, f.long) in
    let cut : take (12 + length text + extent texts) bytes ≡ f.front ++ take (extent texts) r.0 =
    ap (λ (b : List ℕ). take (12 + length text + extent texts) b) f.split ∙ ap (λ (n : ℕ). take n (f.front ++ r.0)) long ∙ take-append-add f.front r.0 (extent texts) in (
      (take (extent texts) r.0, ap (first_at before) cut ∙ f.again (take (extent texts) r.0), on.0),
      ap (λ (b : List ℕ). length b) cut ∙ omega (arith, length-append f.front (take (extent texts) r.0), f.long, on.1),
    )

pub sums_joined : (before : ℕ) (texts more : List (List ℕ)) → sums_over before (texts ++ more) ≡ sums_over (sums_over before texts) more
sums_joined before [] more = refl
sums_joined before (text ∷ texts) more = sums_joined (sum_over before text) texts more
