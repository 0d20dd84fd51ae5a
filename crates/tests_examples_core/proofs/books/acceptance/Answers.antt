use Rattle.std.proofs.Common.{refl}
use Rattle.tests_examples_core.proofs.Rows.{none_first, none_count, one_first, two_first}
use Rattle.tests_examples_core.proofs.books.acceptance.Goals as goal

pub returns : goal.returns
returns c =
    record {
      new = rw (none_first, none_count) refl;
      same = rw one_first refl;
      same_leaves_rows = rw one_first refl;
      later = rw one_first refl;
      elsewhere = rw one_first refl;
      repeated_event = rw one_first refl;
      in_a_full_fleet = rw two_first refl;
    }
