-- The call of a request, or the first refusal.
use Prim.Native.String.{String}
use Rattle.std.specs.Prelude.{ℕ, List, [], ◌∷◌, Bool, true, false, ◌&&◌, ◌==◌, nat_lt, bytes_eq, codes, length, filter, if◌then◌else◌, Option, Some, None, option_map, Result, Ok, Err}
use Rattle.std.specs.List.{list_any, before_first, slice_split}
use Rattle.std.specs.Str.{is_utf8}
use Rattle.uuid.specs.Text.{parsed}
use Rattle.mds_text.specs.declared.draft_kind.DraftKind.TheVariants.{Policy, Geography}
use Rattle.mds_request.specs.Configuration.{Configuration, actor_of}
use Rattle.mds_request.specs.Request.{Request}
use Rattle.mds_request.specs.declared.call.AuthorCall.{AuthorCall}
use Rattle.mds_request.specs.declared.call.AuthorCall.TheVariants as author
use Rattle.mds_request.specs.declared.call.OperatorCall.{OperatorCall}
use Rattle.mds_request.specs.declared.call.OperatorCall.TheVariants as operator
use Rattle.mds_request.specs.declared.call.Call.{Call}
use Rattle.mds_request.specs.declared.call.Call.TheVariants as call
use Rattle.mds_request.specs.declared.call.TheConstants.{MOST_BODY}
use Rattle.mds_request.specs.declared.code.Code.{Code}
use Rattle.mds_request.specs.declared.code.Code.TheVariants.{TooLarge, Token, NoRoute, Method, Role, BadId}
use Rattle.mds_request.specs.declared.config.Actor.{Actor}
use Rattle.mds_request.specs.declared.config.Actor.TheVariants.{Author, Operator, Nobody}
use Rattle.mds_request.specs.declared.request.Verb.{Verb}
use Rattle.mds_request.specs.declared.request.Verb.TheVariants.{Get, Put, Post, Delete}

-- a segment of a row's path: a word, or `{id}`, which is any segment
pub data Part : Type 0 where
  word : (text : String) → Part
  id : Part

-- one row of the table: a method and a path, and the calls there of the author and of an operator, given the identifier
-- in the path
pub record Row : Type 0 where
  pub verb : Verb
  pub path : List Part
  pub author : Option (List ℕ → AuthorCall)
  pub operator : Option (List ℕ → OperatorCall)

abbrev pub row : Verb → List Part → Option (List ℕ → AuthorCall) → Option (List ℕ → OperatorCall) → Row
row verb path author operator = record { verb = verb; path = path; author = author; operator = operator }

-- a call without an identifier
abbrev pub plain : {X : Type 0} → X → Option (List ℕ → X)
plain x = Some (λ _. x)

-- the table of calls
abbrev pub table : List Row
table =
    row Get (word "policies" ∷ []) (plain author.Policies) (plain operator.Policies)
    ∷ row Get (word "policies" ∷ id ∷ []) (Some author.Policy) (Some operator.Policy)
    ∷ row Get (word "geographies" ∷ []) (plain author.Geographies) (plain operator.Geographies)
    ∷ row Get (word "geographies" ∷ id ∷ []) (Some author.Geography) (Some operator.Geography)
    ∷ row Post (word "fleet" ∷ word "events" ∷ []) None (plain operator.Report)
    ∷ row Get (word "fleet" ∷ word "vehicles" ∷ []) None (plain operator.Vehicles)
    ∷ row Delete (word "fleet" ∷ word "vehicles" ∷ id ∷ []) None (Some operator.RemoveVehicle)
    ∷ row Get (word "compliance" ∷ []) None (plain operator.Compliance)
    ∷ row Get (word "compliance" ∷ id ∷ []) None (Some operator.PolicyCompliance)
    ∷ row Put (word "drafts" ∷ word "policies" ∷ id ∷ []) (Some (author.PutDraft Policy)) None
    ∷ row Get (word "drafts" ∷ word "policies" ∷ id ∷ []) (Some (author.Draft Policy)) None
    ∷ row Delete (word "drafts" ∷ word "policies" ∷ id ∷ []) (Some (author.DropDraft Policy)) None
    ∷ row Put (word "drafts" ∷ word "geographies" ∷ id ∷ []) (Some (author.PutDraft Geography)) None
    ∷ row Get (word "drafts" ∷ word "geographies" ∷ id ∷ []) (Some (author.Draft Geography)) None
    ∷ row Delete (word "drafts" ∷ word "geographies" ∷ id ∷ []) (Some (author.DropDraft Geography)) None
    ∷ row Post (word "publish" ∷ []) (plain author.Publish) None
    ∷ []

abbrev pub is_query_mark : ℕ → Bool
is_query_mark b = b == 63

-- The path is the part of the target before the first `?` (RFC 3986, section 3.4).
abbrev pub path_of : List ℕ → List ℕ
path_of target = before_first is_query_mark target

abbrev pub is_slash : ℕ → Bool
is_slash b = b == 47

-- whether there are no bytes
abbrev pub is_empty : List ℕ → Bool
is_empty [] = true
is_empty (b ∷ bs) = false

-- the segments, if none of them is empty
abbrev pub all_some : List (List ℕ) → List (List ℕ)
all_some segments = if list_any is_empty segments then [] else segments

-- the segments come after a path's first slash, with which it begins (RFC 3986, section 3.3); any other path has none
abbrev pub behind_slash : List (List ℕ) → List (List ℕ)
behind_slash ([] ∷ segments) = all_some segments
behind_slash pieces = []

-- the segments of a path; one that isn't UTF-8 has none
abbrev pub segments_in : List ℕ → List (List ℕ)
segments_in path = if is_utf8 path then behind_slash (slice_split is_slash path) else []

-- the segments of a target's path
abbrev pub segments_of : List ℕ → List (List ℕ)
segments_of target = segments_in (path_of target)

-- the segments are those of a row's path
abbrev pub fits : List Part → List (List ℕ) → Bool
fits [] [] = true
fits (word w ∷ parts) (segment ∷ segments) = bytes_eq segment (codes w) && fits parts segments
fits (id ∷ parts) (segment ∷ segments) = fits parts segments
fits parts segments = false

-- the identifier in the path (RFC 9562, section 4), where the row has one
abbrev pub id_in : List Part → List (List ℕ) → Option (List ℕ)
id_in (id ∷ parts) (segment ∷ segments) = parsed segment
id_in (word w ∷ parts) (segment ∷ segments) = id_in parts segments
id_in parts segments = Some []

-- the call of a row for this client
abbrev pub made : Actor → Row → Option (List ℕ → Call)
made Author found = option_map (λ f. λ i. call.Author (f i)) found.author
made (Operator place) found = option_map (λ f. λ i. call.Operator place (f i)) found.operator
made Nobody found = None

abbrev pub call_with : Option (List ℕ → Call) → Option (List ℕ) → Result Call Code
call_with None i = Err Role
call_with (Some make) None = Err BadId
call_with (Some make) (Some i) = Ok (make i)

abbrev pub is_verb : Verb → Verb → Bool
is_verb Get Get = true
is_verb Put Put = true
is_verb Post Post = true
is_verb Delete Delete = true
is_verb _ _ = false

-- the call of the first of these rows with the method, or this refusal where there are no rows
abbrev pub call_among : Actor → Verb → List (List ℕ) → Code → List Row → Result Call Code
call_among actor verb segments refusal [] = Err refusal
call_among actor verb segments refusal (row ∷ rows) =
    if is_verb verb row.verb then call_with (made actor row) (id_in row.path segments)
    else call_among actor verb segments Method rows

-- the rows of the table with this path
abbrev pub rows_at : List (List ℕ) → List Row
rows_at segments = filter (λ row. fits row.path segments) table

abbrev pub called_at : Actor → Verb → List (List ℕ) → Result Call Code
called_at Nobody verb segments = Err Token
called_at actor verb segments = call_among actor verb segments NoRoute (rows_at segments)

-- The call, or the first refusal in this order: the body is too large, the token is unknown, no row has the path, no
-- row with the path has the method, the row has no call for this client, the identifier is no UUID.
abbrev pub call_of : Configuration → Request → Result Call Code
call_of configuration request =
    if nat_lt MOST_BODY (length request.body) then Err TooLarge
    else called_at (actor_of configuration request.token) request.verb (segments_of request.target)
