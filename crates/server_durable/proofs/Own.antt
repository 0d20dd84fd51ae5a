-- An operator's answers outside the protocol's calls, by its own place.
use Rattle.std.proofs.Common.{◌≡◌, ◌⊎◌, ℕ, List, Option, Some, None, option_map, Result, Ok, Err, IfOk, IfErr, inl, inr, refl, sym, ap, subst, ◌∙◌}
use Rattle.std.specs.List.{slice_get}
use Rattle.server_app.specs.OperatorNames.{Badges}
use Rattle.server_app.specs.Whoami.{told_operator}
use Rattle.server_app.specs.Withdrawals.{withdrawals_reply}
use Rattle.mds_catalog.specs.Publication.{Publication}
use Rattle.mds_request.specs.Configuration.{Configuration, Operator as Named}
use Rattle.mds_request.specs.Reply.{Reply, refused}
use Rattle.mds_request.specs.declared.code.Code.{Code}
use Rattle.mds_request.specs.declared.code.Code.TheVariants.{NoMemory, NoSnapshot}
use Rattle.server_state.specs.Query.{DeskTells}
use Rattle.server_durable.specs.People.{IsToldReply, operator_told, own_withdrawals}
use Rattle.server_routes.specs.declared.app.Question.{Question}
use Rattle.server_routes.specs.declared.app.Question.TheVariants.{Whoami, Withdrawals, Drafts}

pub told_own : (one other : Configuration) (named renamed : Badges) (place : ℕ) (publications : List Publication) (question : Question)
    → slice_get one.operators place ≡ slice_get other.operators place → slice_get named.operators place ≡ slice_get renamed.operators place
    → named.oversight ≡ renamed.oversight → named.zone ≡ renamed.zone
    → operator_told one named place publications question ≡ operator_told other renamed place publications question
told_own one other named renamed place publications Whoami same alike oversight zone =
    ap (λ o. told_operator o named.zone (slice_get named.operators place)) oversight
    ∙ ap (λ z. told_operator renamed.oversight z (slice_get named.operators place)) zone
    ∙ ap (told_operator renamed.oversight renamed.zone) alike
told_own one other named renamed place publications Withdrawals same alike oversight zone = ap (own_withdrawals publications) same
told_own one other named renamed place publications Drafts same alike oversight zone = refl

-- an operator's withdrawals, by its identifier
pub own_is : (publications : List Publication) (operator : Option Named) (id : List ℕ) → option_map (λ o. o.id) operator ≡ Some id
    → withdrawals_reply publications (Some id) ≡ own_withdrawals publications operator
own_is publications None id is = absurd cc
own_is publications (Some operator) id is = ap (λ o. withdrawals_reply publications o) (sym is)

-- an answer of a front, with the place by another name, and a kind that the first one implies
pub desk_tells : {T : Type 0} (configuration : Configuration) (place there : ℕ) (tells also : List Publication → T → Type 0) (told : T)
    → place ≡ there → ((publications : List Publication) → tells publications told → also publications told)
    → DeskTells configuration place tells told → DeskTells configuration there also told
desk_tells configuration place there tells also told here imply it =
    record {
      before = it.before;
      after = it.after;
      is_its = record { configured = it.is_its.configured; placed = it.is_its.placed ∙ here };
      learnt = it.learnt;
      tells = imply it.after.known it.tells;
    }

-- the reply, or the refusal for being out of memory
pub by_memory : {E : Type 0} (Kind : Reply → Type 0) (told : Result Reply E) (answer : Reply) → IfOk told (λ reply. answer ≡ reply) → IfErr told (λ _. answer ≡ refused NoMemory)
    → IfOk told Kind → IsToldReply Kind answer
by_memory Kind (Ok reply) answer is none kind = inl (subst Kind (sym is) kind)
by_memory Kind (Err e) answer is none kind = inr (inl none)

-- or the refusal for there being no snapshot
pub by_refusal : (Kind : Reply → Type 0) (told : Result Reply Code) (answer : Reply) → IfOk told (λ reply. answer ≡ reply) → IfErr told (λ code. answer ≡ refused code)
    → IfErr told (λ code. (code ≡ NoMemory) ⊎ (code ≡ NoSnapshot)) → IfOk told Kind → IsToldReply Kind answer
by_refusal Kind (Ok reply) answer is none why kind = inl (subst Kind (sym is) kind)
by_refusal Kind (Err code) answer is none (inl memory) kind = inr (inl (none ∙ ap refused memory))
by_refusal Kind (Err code) answer is none (inr shown) kind = inr (inr (none ∙ ap refused shown))

pub ok_kind : {E : Type 0} (Kind Other : Reply → Type 0) (told : Result Reply E) → ((reply : Reply) → Kind reply → Other reply) → IfOk told Kind → IfOk told Other
ok_kind Kind Other (Ok reply) imply kind = imply reply kind
ok_kind Kind Other (Err e) imply kind = tt
