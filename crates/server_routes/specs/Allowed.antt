-- What is called at a path, and the methods that `allow` lists there (RFC 9110, section 10.2.1).
use Rattle.std.specs.Prelude.{◌≡◌, ℕ, List, [], ◌∷◌, ◌++◌, Bool, true, false, IsSome, map, Option, Some, None, Ok, Err}
use Rattle.std.specs.List.{list_any}
use Rattle.mds_request.specs.Call.{Row, is_verb, rows_at, segments_in, segments_of}
use Rattle.mds_request.specs.declared.code.Code.TheVariants.{Method}
use Rattle.mds_request.specs.declared.config.Actor.{Actor}
use Rattle.mds_request.specs.declared.config.Actor.TheVariants.{Nobody}
use Rattle.mds_request.specs.declared.request.Verb.{Verb}
use Rattle.server_page.specs.File.{file_at}
use Rattle.server_responses.specs.Methods.{beside_at, methods_at, methods_in, name_of}
use Rattle.server_routes.specs.App.{call_at, verb_for}
use Rattle.server_routes.specs.State.{state_call}
use Rattle.server_routes.specs.Target.{asked_by}
use Rattle.server_routes.specs.declared.app.AppCall.{AppCall}
use Rattle.server_routes.specs.declared.state.StateCall.{StateCall}

-- the method of the call outside the protocol's, where there is one
abbrev pub verbs_for : Option AppCall → List Verb
verbs_for None = []
verbs_for (Some call) = verb_for call ∷ []

-- the rows at a path with these segments: those of the table of calls, and those next to it
abbrev pub rows_of : List (List ℕ) → List Row
rows_of segments = rows_at segments ++ beside_at segments

-- `allow` lists the methods of all rows at the path. Of those next to the table of calls there is one where a call
-- outside the protocol's has the path, with that call's method, and else none. So it lists that method alone at the
-- path of such a call, and nothing at a path of the page or of the public documents.
pub record ListsCalls (path : List ℕ) : Type 0 where
  pub all : methods_at (segments_in path) ≡ methods_in (rows_of (segments_in path))
  pub beside : map (λ r. r.verb) (beside_at (segments_in path)) ≡ verbs_for (call_at path)
  pub alone : (call : AppCall) → call_at path ≡ Some call → methods_at (segments_in path) ≡ Some (name_of (verb_for call))
  pub file : IsSome (file_at path) → methods_at (segments_in path) ≡ None
  pub public : IsSome (asked_by path) → methods_at (segments_in path) ≡ None

-- whether one of these rows has the method
abbrev pub has_verb : Verb → List Row → Bool
has_verb verb rows = list_any (λ r. is_verb verb r.verb) rows

-- there are rows at the path, so that `allow` lists methods, and none of them has this one
pub record IsUnlisted (verb : Verb) (segments : List (List ℕ)) : Type 0 where
  pub others : IsSome (methods_at segments)
  pub unlisted : has_verb verb (rows_of segments) ≡ false

-- Whose access token is known is refused by the method exactly where `allow` lists others, and what is called has a
-- method that it lists.
pub record RefusesUnlisted (actor : Actor) (verb : Verb) (target : List ℕ) : Type 0 where
  pub refused : state_call actor verb target ≡ Err Method → IsUnlisted verb (segments_of target)
  pub unlisted : (actor ≡ Nobody → ⊥) → IsUnlisted verb (segments_of target) → state_call actor verb target ≡ Err Method
  pub called : (call : StateCall) → state_call actor verb target ≡ Ok call → has_verb verb (rows_of (segments_of target)) ≡ true
