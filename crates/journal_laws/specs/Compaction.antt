-- What compaction keeps of a list of reports, by index.
use Rattle.std.specs.Prelude.{◌≡◌, ℕ, List, [], ◌∷◌, reverse, Some, slice_get}
use Rattle.mds_fleet.specs.Books.{Report}
use Rattle.journal_laws.specs.Persisted.{thinned}

-- Of these reports, earliest first, compaction keeps those at these indices. (`reports_to_keep` has the latest first.)
pub record ThinsTo (reports : List Report) (begun last : ℕ) : Type 0 where
  pub first_kept : Report
  pub last_kept : Report
  pub at_begun : slice_get reports begun ≡ Some first_kept
  pub at_last : slice_get reports last ≡ Some last_kept
  pub kept : thinned (reverse reports) ≡ last_kept ∷ first_kept ∷ []
