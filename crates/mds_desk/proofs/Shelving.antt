-- A cached body is an answer, and so is a reply that is then cached.
use Rattle.std.proofs.Common.{◌≡◌, ◌⊎◌, ℕ, List, [], Option, Some, None, IfSome, IsSome, Result, Ok, Err, inl, inr, sym, ap, subst, ◌∙◌, arith}
use Rattle.std.specs.Option.{option_map}
use Rattle.mds_match.specs.declared.zone.Zone.{Zone}
use Rattle.mds_catalog.specs.Publication.{Publication}
use Rattle.mds_drafts.specs.Drafts.{Drafts}
use Rattle.mds_fleet.specs.Books.{Rows}
use Rattle.mds_request.specs.Configuration.{Operator}
use Rattle.mds_request.specs.Request.{Request}
use Rattle.mds_request.specs.Reply.{Reply, success, refused}
use Rattle.mds_request.specs.declared.call.AuthorCall.{AuthorCall}
use Rattle.mds_request.specs.declared.call.OperatorCall.{OperatorCall}
use Rattle.mds_request.specs.declared.code.Code.{Code}
use Rattle.mds_request.specs.declared.code.Code.TheVariants.{NoMemory}
use Rattle.mds_machine.specs.Answer.{Gives, settled}
use Rattle.mds_machine.specs.Author.{author_does}
use Rattle.mds_machine.specs.Operator.{operator_does}
use Rattle.mds_desk.specs.CacheKey.{IsBodyOf, IsFound, IsReplyTo, AnswersOperator, AnswersAuthor}
use Rattle.mds_desk.specs.declared.cache_key.CacheKey.{CacheKey}

abbrev body_in : Result Reply Code → List ℕ
body_in (Ok reply) = reply.body
body_in (Err code) = []

module _ {S : Type 0} (ps : List Publication) (kept : S) (does : Result (Reply × S) Code) where
  abbrev told_it : List ℕ → Result (Reply × S) Code
  told_it body = Ok (success body, kept)

  -- the call is a success with the body cached under this key
  record Is (key : CacheKey) : Type 0 where
    body : List ℕ
    its : IsBodyOf ps key body
    done : does ≡ Ok (success body, kept)

  found : (asked : Option CacheKey) (body : List ℕ) (reply : Reply) → IfSome asked Is → IsFound ps asked body → reply ≡ success body → Gives (Unit {0}) kept does reply kept
  found asked body reply ready (key, there, its) is =
      let a : Is key = subst (λ k. IfSome k Is) there ready in
      let same : a.body ≡ body = ap body_in (sym a.its ∙ its) in
      let done : does ≡ Ok (success body, kept) = a.done ∙ ap told_it same in
      inl (is ∙ sym (ap (λ d. (settled kept d).0) done), sym (ap (λ d. (settled kept d).1) done))

  unchanged : (key : CacheKey) (reply : Reply) (after : S) → Is key → Gives (Unit {0}) kept does reply after → after ≡ kept
  unchanged key reply after a (inl g) = g.1 ∙ ap (λ d. (settled kept d).1) a.done
  unchanged key reply after a (inr g) = g.2

  laid : (asked : Option CacheKey) (reply answer : Reply) (after : S) → IfSome asked Is → Gives (Unit {0}) kept does reply after
      → ((answer ≡ reply) ⊎ ((answer ≡ refused NoMemory) × IsSome asked)) → Gives (Unit {0}) kept does answer after
  laid asked reply answer after ready gives (inl same) = subst (λ r. Gives (Unit {0}) kept does r after) (sym same) gives
  laid None reply answer after ready gives (inr (is, some)) = absurd (cc some)
  laid (Some key) reply answer after ready gives (inr (is, some)) = inr (tt, is, unchanged key reply after ready gives)

  one : (key : CacheKey) (reply : Reply) (after : S) → Is key → Gives (Unit {0}) kept does reply after → IsReplyTo ps key reply
  one key reply after a (inl g) ok =
      let same : reply ≡ success a.body = g.0 ∙ ap (λ d. (settled kept d).0) a.done in
      subst (IsBodyOf ps key) (sym (ap (λ (r : Reply). r.body) same)) a.its
  one key reply after a (inr g) ok =
      let no : 503 ≡ 200 = sym (ap (λ (r : Reply). r.status) g.1) ∙ ok in
      absurd (omega (arith, no))

  told : (asked : Option CacheKey) (reply : Reply) (after : S) → IfSome asked Is → Gives (Unit {0}) kept does reply after → IfSome asked (λ key. IsReplyTo ps key reply)
  told None reply after ready gives = tt
  told (Some key) reply after ready gives = one key reply after ready gives

-- an operator's call
module _ (zone : Zone) (ps : List Publication) (id : List ℕ) (call : OperatorCall) (rows : Rows) (request : Request) where
  abbrev does_for : Operator → Result (Reply × Rows) Code
  does_for o = operator_does zone o ps rows call request

  ready_for : (o : Operator) (asked : Option CacheKey) → o.id ≡ id → IfSome asked (AnswersOperator ps id call) → IfSome asked (Is ps rows (does_for o))
  ready_for o None same ready = tt
  ready_for o (Some key) same ready = record { body = ready.body; its = ready.is_its; done = ready.does zone o rows request same }

  same_id : (o : Operator) → Some id ≡ option_map (λ (o : Operator). o.id) (Some o) → o.id ≡ id
  same_id o is = cc is

  pub operator_found : (operator : Option Operator) (asked : Option CacheKey) (body : List ℕ) (reply : Reply) → Some id ≡ option_map (λ o. o.id) operator
      → IfSome asked (AnswersOperator ps id call) → IsFound ps asked body → reply ≡ success body → IfSome operator (λ o. Gives (Unit {0}) rows (does_for o) reply rows)
  operator_found None asked body reply named ready there is = tt
  operator_found (Some o) asked body reply named ready there is =
      found ps rows (does_for o) asked body reply (ready_for o asked (same_id o named) ready) there is

  pub operator_laid : (operator : Option Operator) (asked : Option CacheKey) (reply answer : Reply) (after : Rows) → Some id ≡ option_map (λ o. o.id) operator
      → IfSome asked (AnswersOperator ps id call) → IfSome operator (λ o. Gives (Unit {0}) rows (does_for o) reply after)
      → ((answer ≡ reply) ⊎ ((answer ≡ refused NoMemory) × IsSome asked)) → IfSome operator (λ o. Gives (Unit {0}) rows (does_for o) answer after)
  operator_laid None asked reply answer after named ready gives is = tt
  operator_laid (Some o) asked reply answer after named ready gives is =
      laid ps rows (does_for o) asked reply answer after (ready_for o asked (same_id o named) ready) gives is

  pub operator_told : (operator : Option Operator) (asked : Option CacheKey) (reply : Reply) (after : Rows) → Some id ≡ option_map (λ o. o.id) operator
      → IfSome asked (AnswersOperator ps id call) → IfSome operator (λ o. Gives (Unit {0}) rows (does_for o) reply after) → IfSome asked (λ key. IsReplyTo ps key reply)
  operator_told None asked reply after named ready gives = absurd (cc named)
  operator_told (Some o) asked reply after named ready gives =
      told ps rows (does_for o) asked reply after (ready_for o asked (same_id o named) ready) gives

-- a call of the author
module _ (drafts : Drafts) (ps : List Publication) (call : AuthorCall) (request : Request) where
  abbrev done_by : Result (Reply × (Drafts × List Publication)) Code
  done_by = author_does drafts ps call request

  ready_by : (asked : Option CacheKey) → IfSome asked (AnswersAuthor ps call) → IfSome asked (Is ps (drafts, ps) done_by)
  ready_by None ready = tt
  ready_by (Some key) ready = record { body = ready.body; its = ready.is_its; done = ready.does drafts request }

  pub author_found : (asked : Option CacheKey) (body : List ℕ) (reply : Reply) → IfSome asked (AnswersAuthor ps call) → IsFound ps asked body → reply ≡ success body
      → Gives (Unit {0}) (drafts, ps) done_by reply (drafts, ps)
  author_found asked body reply ready there is = found ps (drafts, ps) done_by asked body reply (ready_by asked ready) there is

  pub author_laid : (asked : Option CacheKey) (reply answer : Reply) (after : Drafts × List Publication) → IfSome asked (AnswersAuthor ps call)
      → Gives (Unit {0}) (drafts, ps) done_by reply after → ((answer ≡ reply) ⊎ ((answer ≡ refused NoMemory) × IsSome asked)) → Gives (Unit {0}) (drafts, ps) done_by answer after
  author_laid asked reply answer after ready gives is = laid ps (drafts, ps) done_by asked reply answer after (ready_by asked ready) gives is

  pub author_told : (asked : Option CacheKey) (reply : Reply) (after : Drafts × List Publication) → IfSome asked (AnswersAuthor ps call)
      → Gives (Unit {0}) (drafts, ps) done_by reply after → IfSome asked (λ key. IsReplyTo ps key reply)
  author_told asked reply after ready gives = told ps (drafts, ps) done_by asked reply after (ready_by asked ready) gives
