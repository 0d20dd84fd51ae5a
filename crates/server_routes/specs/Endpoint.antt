-- The endpoint of a path: the tables in the order in which they are looked at. The first that has the path has the
-- request.
use Rattle.std.specs.Prelude.{◌≡◌, ℕ, List, [], Bool, IsSome, Option, Some, None, if◌then◌else◌}
use Rattle.server_page.specs.File.{file_at}
use Rattle.server_routes.specs.Target.{asked_by}
use Rattle.server_routes.specs.declared.public_target.PublicTarget.{PublicTarget}
use Rattle.mds_request.specs.Call.{rows_at, segments_in}
use Rattle.server_routes.specs.App.{call_at}

-- the public documents, where the configuration turns them on
abbrev pub public_at : Bool → List ℕ → Option PublicTarget
public_at is_public path = if is_public then asked_by path else None

-- No two of the tables share a path, so their order decides nothing: at a file's path there is no public document and
-- no call, and at a public document's path no call; and the table of calls has no row for the path of a call next to
-- it.
pub record TablesAreApart (path : List ℕ) : Type 0 where
  pub file_and_public : IsSome (file_at path) → asked_by path ≡ None
  pub file_and_app : IsSome (file_at path) → call_at path ≡ None
  pub file_and_protocol : IsSome (file_at path) → rows_at (segments_in path) ≡ []
  pub public_and_app : IsSome (asked_by path) → call_at path ≡ None
  pub public_and_protocol : IsSome (asked_by path) → rows_at (segments_in path) ≡ []
  pub app_and_protocol : IsSome (call_at path) → rows_at (segments_in path) ≡ []
