-- Lists and their log ends.
use Rattle.std.proofs.Common.{◌≡◌, ℕ, ◌+◌, List, ◌++◌, length, sym, ap, ◌∙◌, arith}
use Rattle.std.proofs.lemmas.List.{length-append}
use Rattle.std.proofs.lemmas.List.Elements.{filter-append}
use Rattle.journal_file.specs.Sum.{sums_over}
use Rattle.journal_file.specs.Records.{extent}
use Rattle.journal_file.specs.Groups.{is_plain, listed}
use Rattle.journal_file.specs.LogEnds.{IsSealed}
use Rattle.journal_file.specs.declared.log_end.LogEnd.{LogEnd}
use Rattle.journal_file.proofs.Written.{extent_joined}
use Rattle.journal_file.proofs.Joined.{sums_joined}

-- what is read after a log end ends with the next log end
pub sealed_behind : (from to : LogEnd) (list texts : List (List ℕ)) → IsSealed from list → to.sum ≡ sums_over from.sum texts
    → to.position ≡ from.position + extent texts → to.count ≡ from.count + length (listed texts) → IsSealed to (list ++ listed texts)
sealed_behind from to list texts s summed ends counted =
    record {
      texts = s.texts ++ texts;
      are_listed = filter-append is_plain s.texts texts ∙ ap (λ (l : List (List ℕ)). l ++ listed texts) s.are_listed;
      summed = summed ∙ ap (λ (n : ℕ). sums_over n texts) s.summed ∙ sym (sums_joined 0 s.texts texts);
      ends = omega (arith, ends, s.ends, extent_joined s.texts texts);
      counted = omega (arith, counted, s.counted, length-append list (listed texts));
    }
