-- Where a list ends behind one part of its records, and behind a second one.
use Rattle.std.proofs.Common.{◌≡◌, ℕ, List, [], ◌∷◌, ◌++◌, length, refl, sym, ap, subst, ◌∙◌, append_assoc, arith}
use Rattle.std.proofs.lemmas.List.{length-append}
use Rattle.std.proofs.lemmas.List.Elements.{filter-append}
use Rattle.journal_file.specs.declared.log_end.LogEnd.{LogEnd}
use Rattle.journal_file.specs.Groups.{is_plain, listed}
use Rattle.journal_file.specs.Records.{Reads, extent, first_at}
use Rattle.journal_file.specs.Sum.{sum_over, sums_over}
use Rattle.journal_file.proofs.Records.{first_front}
use Rattle.journal_file.proofs.Joined.{sums_joined}
use Rattle.journal_file.proofs.Written.{extent_joined}
use Rattle.journal_remote.specs.Ends.{EndsBehind}

empty : (bytes : List ℕ) → length bytes ≡ 0 → bytes ≡ []
empty [] e = refl
empty (byte ∷ bytes) e = absurd (omega (arith, e))

-- what stands behind whole records is read behind them
reads_joined : (before : ℕ) (bytes next : List ℕ) (texts more : List (List ℕ)) → Reads before bytes texts
    → length bytes ≡ extent texts → Reads (sums_over before texts) next more → Reads before (bytes ++ next) (texts ++ more)
reads_joined before bytes next [] more r ends behind =
    subst (λ (b : List ℕ). Reads before (b ++ next) more) (sym (empty bytes ends)) behind
reads_joined before bytes next (text ∷ texts) more r ends behind =
    let f = first_front before bytes text r.0 r.1 in
    let left : length r.0 ≡ extent texts =
    omega (arith, ends, f.long, ap (λ (b : List ℕ). length b) f.split, length-append f.front r.0) in (
      r.0 ++ next,
      ap (first_at before) (ap (λ (b : List ℕ). b ++ next) f.split ∙ append_assoc f.front r.0 next) ∙ f.again (r.0 ++ next),
      reads_joined (sum_over before text) r.0 next texts more r.2 left behind,
    )

pub ends_on : (from mid to : LogEnd) (one two : List ℕ) → EndsBehind from one mid → EndsBehind mid two to
    → EndsBehind from (one ++ two) to
ends_on from mid to one two a b = record {
  texts = a.texts ++ b.texts;
  are_read = reads_joined from.sum one two a.texts b.texts a.are_read (sym a.are_whole)
      (subst (λ (s : ℕ). Reads s two b.texts) a.sum b.are_read);
  are_whole = extent_joined a.texts b.texts ∙ omega (arith, a.are_whole, b.are_whole, length-append one two);
  position = omega (arith, a.position, b.position, length-append one two);
  sum = b.sum ∙ ap (λ (s : ℕ). sums_over s b.texts) a.sum ∙ sym (sums_joined from.sum a.texts b.texts);
  count = omega (
    arith,
    a.count,
    b.count,
    ap (λ (t : List (List ℕ)). length t) (filter-append is_plain a.texts b.texts),
    length-append (listed a.texts) (listed b.texts),
  );
}
