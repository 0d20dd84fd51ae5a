-- What one step of the machine does to drafts and publications.
use Rattle.std.proofs.Common.{◌≡◌, ℕ, ◌==◌, ◌&&◌, ◌||◌, Bool, true, false, cond, List, [], ◌∷◌, ◌++◌, map, length, Option, Some, None, option_map, Result, Ok, Err, inl, inr, refl, sym, ap, subst, ◌∙◌, ◌+◌}
use Rattle.std.specs.Prelude.{bytes_eq}
use Rattle.std.specs.List.{filter_map, cons_option, slice_get}
use Rattle.std.specs.Option.{option_and_then, option_to_list, unwrap_or}
use Rattle.std.specs.Result.{result_ok}
use Rattle.std.specs.FinMap.{FinMap, get, remove}
use Rattle.std.proofs.lemmas.List.{append-nil}
use Rattle.std.proofs.lemmas.Slice.Eq.{bytes_eq-Decides}
use Rattle.mds_text.specs.Fault.{Fault}
use Rattle.mds_text.specs.declared.draft_kind.DraftKind.{DraftKind}
use Rattle.mds_text.specs.declared.draft_kind.DraftKind.TheVariants as kinds
use Rattle.mds_policy.specs.Policy.{Policy}
use Rattle.mds_policy.specs.Reading.{read_policy}
use Rattle.mds_geography.specs.Geography.{Geography}
use Rattle.mds_geography.specs.Reading.{read_geography}
use Rattle.mds_fleet.specs.Books.{Rows}
use Rattle.mds_catalog.specs.Publication.{Publication, policy_ids, geography_ids, is_among}
use Rattle.mds_drafts.specs.Drafts.{id_cmp, Drafts, Document, policy, geography, draft_at, has_draft, is_of, kind_of, id_of, put_answer, with_draft, without_draft, without_keys, taken_out}
use Rattle.mds_drafts.specs.Named.{Named, read_publish_list, names_nothing}
use Rattle.mds_drafts.specs.Publishing.{batch_of, publication_from, or_refused}
use Rattle.mds_drafts.specs.declared.drafts.Put.{Put}
use Rattle.mds_drafts.specs.declared.drafts.PutFault.{PutFault}
use Rattle.mds_drafts.specs.declared.publish.PublishFault.{PublishFault}
use Rattle.mds_drafts.specs.declared.publish.PublishFault.TheVariants as publish
use Rattle.mds_drafts.proofs.Held.{get_removed, draft_at-with, draft_at-without, is_key}
use Rattle.mds_request.specs.Configuration.{Operator}
use Rattle.mds_request.specs.Call.{call_of}
use Rattle.mds_request.specs.Request.{Request}
use Rattle.mds_request.specs.Reply.{Reply, refused}
use Rattle.mds_request.specs.Code.{status_of}
use Rattle.mds_request.specs.declared.call.AuthorCall.{AuthorCall}
use Rattle.mds_request.specs.declared.call.AuthorCall.TheVariants as author
use Rattle.mds_request.specs.declared.call.OperatorCall.{OperatorCall}
use Rattle.mds_request.specs.declared.call.Call.{Call}
use Rattle.mds_request.specs.declared.call.Call.TheVariants as call
use Rattle.mds_request.specs.declared.code.Code.{Code}
use Rattle.mds_request.specs.declared.code.Code.TheVariants as code
use Rattle.mds_machine.specs.Answer.{settled, coded, told, leaving, ◌>>=◌}
use Rattle.mds_machine.specs.Author.{author_does, document_of, under, put_word, beside, draft_answer}
use Rattle.mds_machine.specs.Bodies.{result_json, removed_json, published_json}
use Rattle.mds_machine.specs.Codes.{fault_code, put_code, publish_code}
use Rattle.mds_machine.specs.History.{is_same_kind, named_ids, fate_by, fate_in, as_policy, as_geography, publication_named, published_by, published_in}
use Rattle.mds_machine.specs.Isolation.{AreKeyed}
use Rattle.mds_machine.specs.Operator.{operator_does}
use Rattle.mds_machine.specs.Published.{policy_answer, geography_answer}
use Rattle.mds_machine.specs.Step.{State, Exchange, Step, answered}
use Rattle.mds_machine.proofs.Steps.{call_step, lifted, authored, operator_step}

-- a refusal never has the status of a success
pub not_done : (c : Code) → (status_of c == 200) ≡ false
not_done code.BadLine = refl
not_done code.Clock = refl
not_done code.BadBody = refl
not_done code.NoSnapshot = refl
not_done code.TooLarge = refl
not_done code.Token = refl
not_done code.NoRoute = refl
not_done code.Method = refl
not_done code.Role = refl
not_done code.BadId = refl
not_done code.BadJson = refl
not_done code.Decimal = refl
not_done code.BadField = refl
not_done code.BadNumber = refl
not_done code.OutOfRange = refl
not_done code.TooManyRules = refl
not_done code.TooManyPoints = refl
not_done code.RingShort = refl
not_done code.RingOpen = refl
not_done code.IdMismatch = refl
not_done code.Future = refl
not_done code.Stale = refl
not_done code.FleetFull = refl
not_done code.DraftsFull = refl
not_done code.NoDraft = refl
not_done code.NotFound = refl
not_done code.Empty = refl
not_done code.Published = refl
not_done code.NoGeography = refl
not_done code.NoPredecessor = refl
not_done code.NotPublished = refl
not_done code.CatalogFull = refl
not_done code.Busy = refl
not_done code.NoRoom = refl
not_done code.NoMemory = refl

-- ---- maps without some keys

nested : {A : Type 0} (a b : Bool) (o : Option A) → cond a None (cond b None o) ≡ cond (b || a) None o
nested true true o = refl
nested true false o = refl
nested false true o = refl
nested false false o = refl

without : {X : Type 0} (m : FinMap id_cmp X) (ids : List (List ℕ)) (q : List ℕ) → get (without_keys m ids) q ≡ cond (is_among ids q) None (get m q)
without m [] q = refl
without m (id ∷ ids) q = without (remove m id) ids q ∙ ap (λ o. cond (is_among ids q) None o) (get_removed m id q) ∙ nested (is_among ids q) (bytes_eq id q) (get m q)

nothing : {A : Type 0} (a b : Bool) (o : Option A) → o ≡ None → cond a None o ≡ cond b None o
nothing true true o is = refl
nothing true false o is = sym is
nothing false true o is = is
nothing false false o is = refl

module _ {X : Type 0} (id : X → List ℕ) (m : FinMap id_cmp X) (own : (k : List ℕ) (d : X) → get m k ≡ Some d → id d ≡ k) (q : List ℕ) where
  another : (b c d : Bool) → cond c None (get m q) ≡ cond d None (get m q) → cond (b || c) None (get m q) ≡ cond (b || d) None (get m q)
  another true c d rest = refl
  another false c d rest = rest

  undrafted : (b c d : Bool) (name : List ℕ) → bytes_eq name q ≡ b → get m name ≡ None → cond c None (get m q) ≡ cond d None (get m q) → cond c None (get m q) ≡ cond (b || d) None (get m q)
  undrafted true c d name same is rest = nothing c true (get m q) (ap (get m) (sym ((bytes_eq-Decides name q).0 same)) ∙ is)
  undrafted false c d name same is rest = rest

  taken_step : (name : List ℕ) (names : List (List ℕ)) (more : List X) (found : Option X) → get m name ≡ found → cond (is_among (map id more) q) None (get m q) ≡ cond (is_among names q) None (get m q) → cond (is_among (map id (cons_option found more)) q) None (get m q) ≡ cond (is_among (name ∷ names) q) None (get m q)
  taken_step name names more None is rest = undrafted (bytes_eq name q) (is_among (map id more) q) (is_among names q) name refl is rest
  taken_step name names more (Some d) is rest =
      ap (λ k. cond (bytes_eq k q || is_among (map id more) q) None (get m q)) (own name d is)
      ∙ another (bytes_eq name q) (is_among (map id more) q) (is_among names q) rest

  taken : (names : List (List ℕ)) → cond (is_among (map id (filter_map (get m) names)) q) None (get m q) ≡ cond (is_among names q) None (get m q)
  taken [] = refl
  taken (name ∷ names) = taken_step name names (filter_map (get m) names) (get m name) refl (taken names)

gone : {A : Type 0} (f : A → Document) (b : Bool) (o : Option A) → option_map f (cond b None o) ≡ unwrap_or (cond b (Some None) None) (option_map f o)
gone f true o = refl
gone f false o = refl

-- ---- documents of drafts

policy_again : (o : Option Policy) → as_policy (option_map policy o) ≡ o
policy_again None = refl
policy_again (Some d) = refl

geography_again : (o : Option Geography) → as_geography (option_map geography o) ≡ o
geography_again None = refl
geography_again (Some d) = refl

same_publication : (old : Drafts) (named : Named) (moment : ℕ) → publication_named (draft_at old) moment named ≡ publication_from old named moment
same_publication old named moment i =
    record {
      moment = moment;
      geographies = filter_map (λ id. geography_again (get old.geographies id) i) named.geographies;
      policies = filter_map (λ id. policy_again (get old.policies id) i) named.policies;
      withdrawn = named.withdraw;
    }

batch_is : (b : Bool) (fault : Option PublishFault) (x p : Publication) → cond b (Err publish.Empty) (or_refused x fault) ≡ Ok p → p ≡ x
batch_is true fault x p is = absurd (cc)
batch_is false None x p is = let same : x ≡ p = cc in sym same
batch_is false (Some fault) x p is = absurd (cc)

-- ---- what a call does

record Does (old : Drafts) (was : List Publication) (done : Bool) (fate : DraftKind → List ℕ → Option (Option Document)) (made : Option Publication) (new : Drafts) (now : List Publication) : Type 0 where
  publications : now ≡ was ++ option_to_list (cond done made None)
  drafts : (kind : DraftKind) (id : List ℕ) → draft_at new kind id ≡ unwrap_or (cond done (fate kind id) None) (draft_at old kind id)
  keyed : AreKeyed new

unsaid : {A : Type 0} (done : Bool) (o : Option A) → o ≡ None → cond done o None ≡ None
unsaid true o is = is
unsaid false o is = refl

keyed_step : (fate : Option (Option Document)) (held : Option Document) (id : List ℕ) (document : Document) → unwrap_or fate held ≡ Some document → (held ≡ Some document → id_of document ≡ id) → ((d : Document) → fate ≡ Some (Some d) → id_of d ≡ id) → id_of document ≡ id
keyed_step None held id document is before after = before is
keyed_step (Some (Some d)) held id document is before after = let same : d ≡ document = cc in ap id_of (sym same) ∙ after d refl
keyed_step (Some None) held id document is before after = absurd (cc)

standing : (b : Bool) (document : Document) (held : Option Document) → cond b (Some document) held ≡ unwrap_or (cond b (Some (Some document)) None) held
standing true document held = refl
standing false document held = refl

gone_if : (b : Bool) (held : Option Document) → cond b None held ≡ unwrap_or (cond b (Some None) None) held
gone_if true held = refl
gone_if false held = refl

dropped : (kind : DraftKind) (id : List ℕ) (k : DraftKind) (q : List ℕ) (held : Option Document) → cond (is_key kind id k q) None held ≡ unwrap_or (cond (is_same_kind k kind && bytes_eq id q) (Some None) None) held
dropped kinds.Policy id kinds.Policy q held = gone_if (bytes_eq id q) held
dropped kinds.Policy id kinds.Geography q held = refl
dropped kinds.Geography id kinds.Policy q held = refl
dropped kinds.Geography id kinds.Geography q held = gone_if (bytes_eq id q) held

never : (b : Bool) (d : Document) → cond b (Some None) None ≡ Some (Some d) → ⊥
never true d is = absurd (cc)
never false d is = absurd (cc)

own_fate : (document : Document) (k : DraftKind) (q : List ℕ) (b : Bool) → is_of document k q ≡ b → (d : Document) → cond b (Some (Some document)) None ≡ Some (Some d) → id_of d ≡ q
own_fate (policy x) kinds.Policy q true of d is = let same : policy x ≡ d = cc in ap id_of (sym same) ∙ (bytes_eq-Decides x.id q).0 of
own_fate (geography x) kinds.Geography q true of d is = let same : geography x ≡ d = cc in ap id_of (sym same) ∙ (bytes_eq-Decides x.id q).0 of
own_fate (policy x) kinds.Geography q true of d is = absurd (cc)
own_fate (geography x) kinds.Policy q true of d is = absurd (cc)
own_fate document k q false of d is = absurd (cc)

-- a document that is read has the kind that is asked for
policy_kind : (found : Result Policy Fault) (d : Document) → (coded fault_code found >>= λ x. Ok (policy x)) ≡ Ok d → kind_of d ≡ kinds.Policy
policy_kind (Ok x) d is = let same : policy x ≡ d = cc in ap kind_of (sym same)
policy_kind (Err fault) d is = absurd (cc)

geography_kind : (found : Result Geography Fault) (d : Document) → (coded fault_code found >>= λ x. Ok (geography x)) ≡ Ok d → kind_of d ≡ kinds.Geography
geography_kind (Ok x) d is = let same : geography x ≡ d = cc in ap kind_of (sym same)
geography_kind (Err fault) d is = absurd (cc)

kind_read : (kind : DraftKind) (body : List ℕ) (d : Document) → document_of kind body ≡ Ok d → kind_of d ≡ kind
kind_read kinds.Policy body d is = policy_kind (read_policy body) d is
kind_read kinds.Geography body d is = geography_kind (read_geography body) d is

of_is : (d : Document) (k : DraftKind) (q : List ℕ) → (is_same_kind k (kind_of d) && bytes_eq (id_of d) q) ≡ is_of d k q
of_is (policy d) kinds.Policy q = refl
of_is (policy d) kinds.Geography q = refl
of_is (geography d) kinds.Policy q = refl
of_is (geography d) kinds.Geography q = refl

module _ (old : Drafts) (was : List Publication) (own : AreKeyed old) where
  still : (fate : DraftKind → List ℕ → Option (Option Document)) (made : Option Publication) → Does old was false fate made old was
  still fate made = record { publications = sym (append-nil was); drafts = λ kind id. refl; keyed = own }

  -- a refused request does nothing
  refusal : (c : Code) (fate : DraftKind → List ℕ → Option (Option Document)) (made : Option Publication) → Does old was ((refused c).status == 200) fate made old was
  refusal c fate made = subst (λ b. Does old was b fate made old was) (sym (not_done c)) (still fate made)

  -- a request that makes nothing does nothing
  silent : (done : Bool) (fate : DraftKind → List ℕ → Option (Option Document)) (made : Option Publication) → ((kind : DraftKind) (id : List ℕ) → fate kind id ≡ None) → made ≡ None → Does old was done fate made old was
  silent done fate made says makes =
      record {
        publications = sym (append-nil was) ∙ ap (λ o. was ++ option_to_list o) (sym (unsaid done made makes));
        drafts = λ kind id. ap (λ o. unwrap_or o (draft_at old kind id)) (sym (unsaid done (fate kind id) (says kind id)));
        keyed = own;
      }

  -- the effect of a call
  abbrev Did : (DraftKind → List ℕ → Option (Option Document)) → Option Publication → Result (Reply × (Drafts × List Publication)) Code → Type 0
  Did fate made outcome =
      let after = settled (old, was) outcome in
      Does old was (after.0.status == 200) fate made after.1.0 after.1.1

  read : (answer : Result Reply Code) → Did (λ kind id. None) None (answer >>= leaving (old, was))
  read (Ok reply) = silent (reply.status == 200) (λ kind id. None) None (λ kind id. refl) refl
  read (Err c) = refusal c (λ kind id. None) None

  keyed_by : (new : Drafts) (fate : DraftKind → List ℕ → Option (Option Document)) → ((kind : DraftKind) (id : List ℕ) → draft_at new kind id ≡ unwrap_or (fate kind id) (draft_at old kind id)) → ((kind : DraftKind) (id : List ℕ) (d : Document) → fate kind id ≡ Some (Some d) → id_of d ≡ id) → AreKeyed new
  keyed_by new fate are says kind id document is =
      keyed_step (fate kind id) (draft_at old kind id) id document (sym (are kind id) ∙ is) (own kind id document) (says kind id)

  -- drafts change, and nothing is published
  changed : (new : Drafts) (fate : DraftKind → List ℕ → Option (Option Document)) → ((kind : DraftKind) (id : List ℕ) → draft_at new kind id ≡ unwrap_or (fate kind id) (draft_at old kind id)) → ((kind : DraftKind) (id : List ℕ) (d : Document) → fate kind id ≡ Some (Some d) → id_of d ≡ id) → Does old was true fate None new was
  changed new fate are says = record { publications = sym (append-nil was); drafts = are; keyed = keyed_by new fate are says }

  -- ---- a put

  put_ok : (document : Document) (fate : DraftKind → List ℕ → Option (Option Document)) → ((k : DraftKind) (q : List ℕ) → fate k q ≡ cond (is_of document k q) (Some (Some document)) None) → Does old was true fate None (with_draft old document) was
  put_ok document fate says =
      changed (with_draft old document) fate
      (λ k q. draft_at-with old document k q ∙ standing (is_of document k q) document (draft_at old k q) ∙ ap (λ f. unwrap_or f (draft_at old k q)) (sym (says k q)))
      (λ k q d is. own_fate document k q (is_of document k q) refl d (sym (says k q) ∙ is))

  abbrev putting : Document → Result Put PutFault → Result (Reply × Drafts) Code
  putting document put = coded put_code put >>= λ put. Ok (told (result_json (put_word put)), with_draft old document)

  put_room : (document : Document) (fate : DraftKind → List ℕ → Option (Option Document)) (put : Result Put PutFault) → ((k : DraftKind) (q : List ℕ) → fate k q ≡ cond (is_of document k q) (Some (Some document)) None) → Did fate None (putting document put >>= beside was)
  put_room document fate (Ok put) says = put_ok document fate says
  put_room document fate (Err fault) says = refusal (put_code fault) fate None

  put_under : (document : Document) (fate : DraftKind → List ℕ → Option (Option Document)) (b : Bool) → (b ≡ true → (k : DraftKind) (q : List ℕ) → fate k q ≡ cond (is_of document k q) (Some (Some document)) None) → Did fate None ((cond b (Ok document) (Err code.IdMismatch) >>= λ document. putting document (put_answer old document)) >>= beside was)
  put_under document fate true says = put_room document fate (put_answer old document) (says refl)
  put_under document fate false says = refusal code.IdMismatch fate None

  -- what a put makes of a draft, as a document
  put_says : (kind : DraftKind) (id body : List ℕ) (d : Document) → document_of kind body ≡ Ok d → bytes_eq (id_of d) id ≡ true → (k : DraftKind) (q : List ℕ) → fate_by (Ok (call.Author (author.PutDraft kind id))) body k q ≡ cond (is_of d k q) (Some (Some d)) None
  put_says kind id body d is same k q =
      ap (λ read. cond (is_same_kind k kind && bytes_eq id q) (option_map Some (result_ok read)) None) is
      ∙ ap (λ i. cond (is_same_kind k kind && bytes_eq i q) (Some (Some d)) None) (sym ((bytes_eq-Decides (id_of d) id).0 same))
      ∙ ap (λ of. cond (is_same_kind k of && bytes_eq (id_of d) q) (Some (Some d)) None) (sym (kind_read kind body d is))
      ∙ ap (λ b. cond b (Some (Some d)) None) (of_is d k q)

  put : (kind : DraftKind) (id body : List ℕ) (found : Result Document Code) → document_of kind body ≡ found → Did (fate_by (Ok (call.Author (author.PutDraft kind id))) body) None ((found >>= λ read. under id read >>= λ document. putting document (put_answer old document)) >>= beside was)
  put kind id body (Err c) is = refusal c (fate_by (Ok (call.Author (author.PutDraft kind id))) body) None
  put kind id body (Ok d) is =
      put_under d (fate_by (Ok (call.Author (author.PutDraft kind id))) body) (bytes_eq (id_of d) id) (λ same. put_says kind id body d is same)

  -- ---- a drop

  drop : (kind : DraftKind) (id body : List ℕ) (b : Bool) → Did (fate_by (Ok (call.Author (author.DropDraft kind id))) body) None (cond b (Ok (told (removed_json id), without_draft old kind id)) (Err code.NoDraft) >>= beside was)
  drop kind id body false = refusal code.NoDraft (fate_by (Ok (call.Author (author.DropDraft kind id))) body) None
  drop kind id body true =
      changed (without_draft old kind id) (fate_by (Ok (call.Author (author.DropDraft kind id))) body)
      (λ k q. draft_at-without old kind id k q ∙ dropped kind id k q (draft_at old k q))
      (λ k q d is. absurd (never (is_same_kind k kind && bytes_eq id q) d is))

  -- ---- a publish request

  module _ (named : Named) (moment : ℕ) where
    abbrev out : Publication
    out = publication_from old named moment

    policies_out : (q : List ℕ) → get (without_keys old.policies (policy_ids out)) q ≡ cond (is_among named.policies q) None (get old.policies q)
    policies_out q =
        without old.policies (policy_ids out) q
        ∙ taken (λ d. d.id) old.policies (λ k d is. own kinds.Policy k (policy d) (ap (option_map policy) is)) q named.policies

    geographies_out : (q : List ℕ) → get (without_keys old.geographies (geography_ids out)) q ≡ cond (is_among named.geographies q) None (get old.geographies q)
    geographies_out q =
        without old.geographies (geography_ids out) q
        ∙ taken (λ d. d.id) old.geographies (λ k d is. own kinds.Geography k (geography d) (ap (option_map geography) is)) q named.geographies

    abbrev named_fate : DraftKind → List ℕ → Option (Option Document)
    named_fate kind q = cond (is_among (named_ids kind named) q) (Some None) None

    drafts_out : (kind : DraftKind) (q : List ℕ) → draft_at (taken_out old out) kind q ≡ unwrap_or (named_fate kind q) (draft_at old kind q)
    drafts_out kinds.Policy q = ap (option_map policy) (policies_out q) ∙ gone policy (is_among named.policies q) (get old.policies q)
    drafts_out kinds.Geography q = ap (option_map geography) (geographies_out q) ∙ gone geography (is_among named.geographies q) (get old.geographies q)

    published : (p : Publication) → p ≡ out → Does old was true named_fate (Some (publication_named (draft_at old) moment named)) (taken_out old p) (was ++ p ∷ [])
    published p is =
        subst (λ x. Does old was true named_fate (Some (publication_named (draft_at old) moment named)) (taken_out old x) (was ++ x ∷ [])) (sym is)
        (record {
          publications = ap (λ x. was ++ x ∷ []) (sym (same_publication old named moment));
          drafts = drafts_out;
          keyed = keyed_by (taken_out old out) named_fate drafts_out (λ kind q d e. absurd (never (is_among (named_ids kind named) q) d e));
        })

  abbrev publishing : Request → Result Publication Code → Result (Reply × (Drafts × List Publication)) Code
  publishing request asked =
      asked >>= λ p. Ok (told (published_json request.at (length was + 1)), (taken_out old p, was ++ p ∷ []))

  publish_batch : (request : Request) (named : Named) (batch : Result Publication PublishFault) → batch_of old named was request.at ≡ batch → Did (named_fate named request.at) (Some (publication_named (draft_at old) request.at named)) (publishing request (coded publish_code batch))
  publish_batch request named (Err fault) is = refusal (publish_code fault) _ _
  publish_batch request named (Ok p) is = published named request.at p (batch_is (names_nothing named) _ (publication_from old named request.at) p is)

  publishes : (request : Request) (found : Result Named Fault) → Did (λ kind id. option_and_then (λ named. cond (is_among (named_ids kind named) id) (Some None) None) (result_ok found)) (option_map (publication_named (draft_at old) request.at) (result_ok found)) (publishing request (coded fault_code found >>= λ named. coded publish_code (batch_of old named was request.at)))
  publishes request (Err fault) = refusal (fault_code fault) _ _
  publishes request (Ok named) = publish_batch request named (batch_of old named was request.at) refl

  -- ---- any call of the author

  author_did : (own : AuthorCall) (request : Request) → Did (fate_by (Ok (call.Author own)) request.body) (published_by (Ok (call.Author own)) (draft_at old) request) (author_does old was own request)
  author_did author.Policies request = silent true (λ kind id. None) None (λ kind id. refl) refl
  author_did (author.Policy id) request = read (policy_answer was None id)
  author_did author.Geographies request = silent true (λ kind id. None) None (λ kind id. refl) refl
  author_did (author.Geography id) request = read (geography_answer was id)
  author_did (author.PutDraft kind id) request = put kind id request.body (document_of kind request.body) refl
  author_did (author.Draft kind id) request = read (draft_answer old kind id)
  author_did (author.DropDraft kind id) request = drop kind id request.body (has_draft old kind id)
  author_did author.Publish request = publishes request (read_publish_list request.body)

-- ---- a step

module _ (w : State) (request : Request) (own : AreKeyed w.drafts) where
  abbrev Done : Result Call Code → Reply × State → Type 0
  Done call after =
      (after.1.configuration ≡ w.configuration)
      × Does w.drafts w.publications (after.0.status == 200) (fate_by call request.body) (published_by call (draft_at w.drafts) request) after.1.drafts after.1.publications

  refused_call : (c : Code) (call : Result Call Code) → Done call (refused c, w)
  refused_call c call = (refl, refusal w.drafts w.publications own c (fate_by call request.body) (published_by call (draft_at w.drafts) request))

  operator_done : (place at : ℕ) (c : OperatorCall) (outcome : Result (Reply × Rows) Code) → Done (Ok (call.Operator at c)) (lifted w place outcome)
  operator_done place at c (Err code) = refused_call code (Ok (call.Operator at c))
  operator_done place at c (Ok after) =
      (refl, silent w.drafts w.publications own (after.0.status == 200) (λ kind id. None) None (λ kind id. refl) refl)

  operator_by : (place : ℕ) (found : Option Operator) (held : Option Rows) (c : OperatorCall) → Done (Ok (call.Operator place c)) (operator_step w place found held c request)
  operator_by place None held c = refused_call code.Token (Ok (call.Operator place c))
  operator_by place (Some who) None c = refused_call code.Token (Ok (call.Operator place c))
  operator_by place (Some who) (Some rows) c =
      operator_done place place c (operator_does w.configuration.zone who w.publications rows c request)

  author_done : (c : AuthorCall) (outcome : Result (Reply × (Drafts × List Publication)) Code) → Did w.drafts w.publications own (fate_by (Ok (call.Author c)) request.body) (published_by (Ok (call.Author c)) (draft_at w.drafts) request) outcome → Done (Ok (call.Author c)) (authored w outcome)
  author_done c (Err code) did = (refl, did)
  author_done c (Ok after) did = (refl, did)

  call_done : (called : Result Call Code) → Done called (call_step w called request)
  call_done (Ok (call.Author c)) = author_done c (author_does w.drafts w.publications c request) (author_did w.drafts w.publications own c request)
  call_done (Ok (call.Operator place c)) = operator_by place (slice_get w.configuration.operators place) (slice_get w.fleets place) c
  call_done (Err code) = refused_call code (Err code)

-- the effect of an exchange on a state's drafts and publications
pub record Made (w : State) (e : Exchange) (next : State) : Type 0 where
  pub configuration : next.configuration ≡ w.configuration
  pub publications : next.publications ≡ w.publications ++ option_to_list (published_in w.configuration (draft_at w.drafts) e)
  pub drafts : (kind : DraftKind) (id : List ℕ) → draft_at next.drafts kind id ≡ unwrap_or (fate_in w.configuration kind id e) (draft_at w.drafts kind id)
  pub keyed : AreKeyed next.drafts

made_by : (w : State) (e : Exchange) (next : State) (own : AreKeyed w.drafts) → Done w e.request own (call_of w.configuration e.request) (e.reply, next) → Made w e next
made_by w e next own did = record { configuration = did.0; publications = did.1.publications; drafts = did.1.drafts; keyed = did.1.keyed }

pub made : (w : State) (e : Exchange) (next : State) → AreKeyed w.drafts → Step w e.request e.reply next → Made w e next
made w e next own step =
    made_by w e next own (elim step [
      | inl a ↦ subst (λ reply. Done w e.request own (call_of w.configuration e.request) (reply, next)) (sym a.0)
          (subst (λ s. Done w e.request own (call_of w.configuration e.request) ((answered w e.request).0, s)) (sym a.1)
          (call_done w e.request own (call_of w.configuration e.request)))
      | inr a ↦ subst (λ reply. Done w e.request own (call_of w.configuration e.request) (reply, next)) (sym a.1)
          (subst (λ s. Done w e.request own (call_of w.configuration e.request) (refused code.NoMemory, s)) (sym a.2)
          (refused_call w e.request own code.NoMemory (call_of w.configuration e.request)))
    ])
