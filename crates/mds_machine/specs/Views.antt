-- What an operator sees of a history: its own requests and the publications, in order, and nothing else.
use Rattle.std.specs.Prelude.{ℕ, ◌==◌, Bool, false, List, [], ◌∷◌, map, flat_map, filter_map, if◌then◌else◌, Option, Some, None, option_to_list}
use Rattle.mds_text.specs.declared.draft_kind.DraftKind.{DraftKind}
use Rattle.mds_catalog.specs.Publication.{Publication}
use Rattle.mds_drafts.specs.Drafts.{Drafts, Document}
use Rattle.mds_request.specs.Configuration.{Configuration, actor_of}
use Rattle.mds_request.specs.Request.{Request}
use Rattle.mds_request.specs.declared.config.Actor.{Actor}
use Rattle.mds_request.specs.declared.config.Actor.TheVariants.{Operator}
use Rattle.mds_machine.specs.History.{draft_after, published_in, preceded}
use Rattle.mds_machine.specs.Step.{Exchange}

-- one thing that an operator sees
pub data Seen : Type 0 where
  asked : Request → Seen
  published : Publication → Seen

abbrev pub is_place : ℕ → Actor → Bool
is_place place (Operator other) = place == other
is_place place other = false

-- a request belongs to the operator whose access token it has, whatever else is wrong with it
abbrev pub is_of : Configuration → ℕ → Request → Bool
is_of configuration place request = is_place place (actor_of configuration request.token)

-- what an operator sees of an exchange, by the drafts just before it
abbrev pub seen_in : Configuration → ℕ → (DraftKind → List ℕ → Option Document) → Exchange → List Seen
seen_in configuration place held e =
    if is_of configuration place e.request then asked e.request ∷ []
    else map published (option_to_list (published_in configuration held e))

-- The view of an operator, from the initial drafts: its requests, without replies, and the publications, in the order
-- of the history.
abbrev pub view : Configuration → Drafts → List Exchange → ℕ → List Seen
view configuration first history place =
    flat_map (λ e. seen_in configuration place (draft_after configuration first e.0) e.1) (preceded [] history)

-- the publications and the requests of a view
abbrev pub as_publication : Seen → Option Publication
as_publication (asked request) = None
as_publication (published p) = Some p

abbrev pub as_request : Seen → Option Request
as_request (asked request) = Some request
as_request (published p) = None

abbrev pub publications_of : List Seen → List Publication
publications_of seen = filter_map as_publication seen

abbrev pub requests_of : List Seen → List Request
requests_of seen = filter_map as_request seen
