-- A cached body answers the calls with its key.
use Rattle.std.proofs.Common.{◌≡◌, ℕ, Bool, true, false, cond, List, [], ◌∷◌, map, filter, length, Option, Some, None, Result, Ok, Err, refl, ap, sym, subst, ◌∙◌}
use Rattle.std.specs.Prelude.{codes, ◌&&◌, ◌||◌, ◌==◌, is_some}
use Rattle.std.specs.List.{list_all}
use Rattle.std.specs.Option.{option_map_or}
use Rattle.mds_catalog.specs.Publication.{Publication, Published, published_policies, policies_for, find_policy, find_geography, is_meant_for, is_among, is_geography_published}
use Rattle.mds_policy.specs.Policy.{Policy}
use Rattle.mds_geography.specs.Geography.{Geography}
use Rattle.mds_fleet.specs.Books.{Rows}
use Rattle.mds_request.specs.Reply.{Reply, success}
use Rattle.mds_request.specs.declared.call.AuthorCall.TheVariants as author
use Rattle.mds_request.specs.declared.call.OperatorCall.TheVariants as operator
use Rattle.mds_request.specs.declared.code.Code.{Code}
use Rattle.mds_request.specs.declared.code.Code.TheVariants.{NotFound}
use Rattle.mds_machine.specs.Answer.{told, or_code, if_it, leaving, ◌>>=◌}
use Rattle.mds_machine.specs.Bodies.{list_json, revised_json}
use Rattle.mds_machine.specs.Published.{policy_json, geography_json, is_shown, policies_reply, geographies_reply, policy_answer, geography_answer}
use Rattle.mds_desk.specs.CacheKey.{is_everyones, everyones_reply, AnswersOperator, AnswersAuthor}
use Rattle.mds_desk.specs.declared.cache_key.CacheKey.TheVariants as ready

one : {A : Type 0} (strong : A → Bool) (x : A) (ws ss : List A) (w s : Bool) → s ≡ strong x → (s ≡ true → w ≡ true) → list_all strong (cond w (x ∷ ws) ws) ≡ true
    → (list_all strong ws ≡ true → ws ≡ ss) → cond w (x ∷ ws) ws ≡ cond s (x ∷ ss) ss
one strong x ws ss true true is on all rest =
    let those : list_all strong ws ≡ true = subst (λ b. (b && list_all strong ws) ≡ true) (sym is) all in
    ap (λ l. x ∷ l) (rest those)
one strong x ws ss true false is on all rest =
    let no : false ≡ true = subst (λ b. (b && list_all strong ws) ≡ true) (sym is) all in
    absurd (cc no)
one strong x ws ss false true is on all rest = absurd (cc (on refl))
one strong x ws ss false false is on all rest = rest all

-- what passes a weak test passes a strong one that implies it, if all that passes the weak one does
narrowed : {A : Type 0} (weak strong : A → Bool) → ((x : A) → strong x ≡ true → weak x ≡ true) → (xs : List A) → list_all strong (filter weak xs) ≡ true → filter weak xs ≡ filter strong xs
narrowed weak strong on [] all = refl
narrowed weak strong on (x ∷ xs) all = one strong x (filter weak xs) (filter strong xs) (weak x) (strong x) refl (on x) all (narrowed weak strong on xs)

-- what is meant for everyone is meant for an operator
meant : (id : List ℕ) (p : Published Policy) → is_everyones p ≡ true → is_meant_for id p.document ≡ true
meant id p is = ap (λ b. b || is_among p.document.providers id) is

-- an operator for whom no policy is meant by name sees everyone's policies
one_list : (ps : List Publication) (id : List ℕ) → list_all is_everyones (policies_for ps (Some id)) ≡ true → policies_for ps (Some id) ≡ filter is_everyones (published_policies ps)
one_list ps id all = narrowed (λ p. is_meant_for id p.document) is_everyones (meant id) (published_policies ps) all

module _ (ps : List Publication) where
  abbrev listed : List (Published Policy) → Rows → Result (Reply × Rows) Code
  listed policies rows = Ok (told (revised_json (codes "policies") (list_json (map policy_json policies)) (length ps)), rows)

  pub named : (id : List ℕ) → AnswersOperator ps id operator.Policies (ready.PoliciesFor id)
  named id = record {
    body = (policies_reply ps (Some id)).body;
    is_its = refl;
    does = λ zone o rows request same. ap (λ i. listed (policies_for ps (Some i)) rows) same;
  }

  pub everyones : (id : List ℕ) → list_all is_everyones (policies_for ps (Some id)) ≡ true → AnswersOperator ps id operator.Policies ready.EveryonesPolicies
  everyones id all = record {
    body = (everyones_reply ps).body;
    is_its = refl;
    does = λ zone o rows request same. ap (λ i. listed (policies_for ps (Some i)) rows) same ∙ ap (λ l. listed l rows) (one_list ps id all);
  }

  -- the reply with one policy
  abbrev of_policy : Published Policy → Reply
  of_policy p = told (revised_json (codes "policy") (policy_json p) (length ps))

  abbrev answered : Option (List ℕ) → Option (Published Policy) → Result Reply Code
  answered reader found = do
    p ← or_code NotFound found
    shown ← if_it NotFound (is_shown reader) p
    Ok (of_policy shown)

  abbrev if_shown : Published Policy → Bool → Result (Published Policy) Code
  if_shown p b = cond b (Ok p) (Err NotFound)

  shown_it : (reader : Option (List ℕ)) (found : Option (Published Policy)) → option_map_or (is_shown reader) found false ≡ true
      → (p : Published Policy) × (answered None found ≡ Ok (of_policy p)) × (answered reader found ≡ Ok (of_policy p))
  shown_it reader None is = absurd (cc is)
  shown_it reader (Some p) is = (p, refl, ap (λ b. if_shown p b >>= λ shown. Ok (of_policy shown)) is)

  pub policy : (id pid : List ℕ) → option_map_or (is_shown (Some id)) (find_policy ps pid) false ≡ true → AnswersOperator ps id (operator.Policy pid) (ready.Policy pid)
  policy id pid is =
      let it = shown_it (Some id) (find_policy ps pid) is in
      record {
        body = (of_policy it.0).body;
        is_its = it.1;
        does = λ zone o rows request same. ap (λ i. policy_answer ps (Some i) pid >>= leaving rows) same ∙ ap (λ r. r >>= leaving rows) it.2;
      }

  pub authors_policy : (pid : List ℕ) → option_map_or (is_shown None) (find_policy ps pid) false ≡ true → AnswersAuthor ps (author.Policy pid) (ready.Policy pid)
  authors_policy pid is =
      let it = shown_it None (find_policy ps pid) is in
      record { body = (of_policy it.0).body; is_its = it.1; does = λ drafts request. ap (λ r. r >>= leaving (drafts, ps)) it.1 }

  pub authors_policies : AnswersAuthor ps author.Policies ready.AllPolicies
  authors_policies = record { body = (policies_reply ps None).body; is_its = refl; does = λ drafts request. refl }

  pub geographies : (id : List ℕ) → AnswersOperator ps id operator.Geographies ready.Geographies
  geographies id = record { body = (geographies_reply ps).body; is_its = refl; does = λ zone o rows request same. refl }

  pub authors_geographies : AnswersAuthor ps author.Geographies ready.Geographies
  authors_geographies = record { body = (geographies_reply ps).body; is_its = refl; does = λ drafts request. refl }

  abbrev of_geography : Published Geography → Reply
  of_geography g = told (revised_json (codes "geography") (geography_json g) (length ps))

  there : (found : Option (Published Geography)) → is_some found ≡ true
      → (g : Published Geography) × ((or_code NotFound found >>= λ g. Ok (of_geography g)) ≡ Ok (of_geography g))
  there None is = absurd (cc is)
  there (Some g) is = (g, refl)

  pub geography : (id gid : List ℕ) → is_geography_published ps gid ≡ true → AnswersOperator ps id (operator.Geography gid) (ready.Geography gid)
  geography id gid is =
      let it = there (find_geography ps gid) is in
      record { body = (of_geography it.0).body; is_its = it.1; does = λ zone o rows request same. ap (λ r. r >>= leaving rows) it.1 }

  pub authors_geography : (gid : List ℕ) → is_geography_published ps gid ≡ true → AnswersAuthor ps (author.Geography gid) (ready.Geography gid)
  authors_geography gid is =
      let it = there (find_geography ps gid) is in
      record { body = (of_geography it.0).body; is_its = it.1; does = λ drafts request. ap (λ r. r >>= leaving (drafts, ps)) it.1 }

-- a success is the reply with its body
pub whole : (r : Reply) → r.status ≡ 200 → success r.body ≡ r
whole r is = ap (λ s. record { status = s; body = r.body }) (sym is)
