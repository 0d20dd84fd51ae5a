-- What is cached: the replies about what is published, which are the same for all clients that may ask for them (MDS
-- 2.0 Policy and Geography).
use Rattle.std.specs.Prelude.{◌≡◌, ℕ, List, map, filter, length, codes, Bool, ◌==◌, Option, Some, None, Result, Ok}
use Rattle.mds_match.specs.declared.zone.Zone.{Zone}
use Rattle.mds_catalog.specs.Publication.{Publication, Published, published_policies}
use Rattle.mds_policy.specs.Policy.{Policy}
use Rattle.mds_drafts.specs.Drafts.{Drafts}
use Rattle.mds_fleet.specs.Books.{Rows}
use Rattle.mds_request.specs.Configuration.{Operator}
use Rattle.mds_request.specs.Request.{Request}
use Rattle.mds_request.specs.Reply.{Reply, success}
use Rattle.mds_request.specs.declared.call.AuthorCall.{AuthorCall}
use Rattle.mds_request.specs.declared.call.OperatorCall.{OperatorCall}
use Rattle.mds_request.specs.declared.code.Code.{Code}
use Rattle.mds_machine.specs.Answer.{told}
use Rattle.mds_machine.specs.Author.{author_does}
use Rattle.mds_machine.specs.Bodies.{list_json, revised_json}
use Rattle.mds_machine.specs.Operator.{operator_does}
use Rattle.mds_machine.specs.Published.{policy_json, policies_reply, policy_answer, geographies_reply, geography_answer}
use Rattle.mds_desk.specs.declared.cache_key.CacheKey.{CacheKey}
use Rattle.mds_desk.specs.declared.cache_key.CacheKey.TheVariants.{AllPolicies, EveryonesPolicies, PoliciesFor, Policy as PolicyAt, Geographies, Geography as GeographyAt}

-- a policy is meant for everyone: it names no operator (MDS 2.0 Policy, `provider_ids`)
abbrev pub is_everyones : Published Policy → Bool
is_everyones p = length p.document.providers == 0

-- the policies that are meant for everyone, in order of publication
abbrev pub everyones_reply : List Publication → Reply
everyones_reply publications =
    told (revised_json (codes "policies") (list_json (map policy_json (filter is_everyones (published_policies publications)))) (length publications))

-- the reply for each key; every policy is visible to the author
abbrev pub reply_at : List Publication → CacheKey → Result Reply Code
reply_at publications AllPolicies = Ok (policies_reply publications None)
reply_at publications EveryonesPolicies = Ok (everyones_reply publications)
reply_at publications (PoliciesFor operator) = Ok (policies_reply publications (Some operator))
reply_at publications (PolicyAt id) = policy_answer publications None id
reply_at publications Geographies = Ok (geographies_reply publications)
reply_at publications (GeographyAt id) = geography_answer publications id

-- the reply for the key is a success with this body
abbrev pub IsBodyOf : List Publication → CacheKey → List ℕ → Type 0
IsBodyOf publications key body = reply_at publications key ≡ Ok (success body)

-- it is the body for the key, if there is a key
abbrev pub IsFound : List Publication → Option CacheKey → List ℕ → Type 0
IsFound publications asked body = (key : CacheKey) × (asked ≡ Some key) × IsBodyOf publications key body

-- where a reply is a success, its body is this one
abbrev pub IsReplyTo : List Publication → CacheKey → Reply → Type 0
IsReplyTo publications key reply = reply.status ≡ 200 → IsBodyOf publications key reply.body

-- The key's body answers an operator's call with success and leaves the rows, whatever they are, and whatever the zone,
-- the moment and the rest of the request are.
pub record AnswersOperator (publications : List Publication) (id : List ℕ) (call : OperatorCall) (key : CacheKey) : Type 0 where
  pub body : List ℕ
  pub is_its : IsBodyOf publications key body
  pub does : (zone : Zone) (operator : Operator) (rows : Rows) (request : Request) → operator.id ≡ id
      → operator_does zone operator publications rows call request ≡ Ok (success body, rows)

-- The key's body answers the author's call with success and leaves the drafts and the publications, whatever the
-- request is.
pub record AnswersAuthor (publications : List Publication) (call : AuthorCall) (key : CacheKey) : Type 0 where
  pub body : List ℕ
  pub is_its : IsBodyOf publications key body
  pub does : (drafts : Drafts) (request : Request) → author_does drafts publications call request ≡ Ok (success body, (drafts, publications))
