-- The client that makes a call, and the records of requests by client.
use Rattle.std.proofs.Common.{◌≡◌, ◌<◌, ◌+◌, ℕ, zero, suc, List, [], ◌∷◌, ◌++◌, length, map, take, drop, get_or, Option, Some, None, option_map, Ok, refl, sym, ap, subst, ◌∙◌}
use Rattle.std.proofs.lemmas.List.{map-append}
use Rattle.std.specs.List.{AllByRecursion}
use Rattle.journal_entry.specs.Requests.{asked_by, client_at}
use Rattle.journal_entry.specs.declared.entry.EntryClient.{EntryClient}
use Rattle.journal_entry.specs.declared.entry.EntryClient.TheVariants.{Operator as OperatorBy}
use Rattle.mds_request.specs.Call.{call_of}
use Rattle.mds_request.specs.Configuration.{Configuration, Operator as Named, actor_of}
use Rattle.mds_request.specs.Request.{Request}
use Rattle.mds_request.specs.declared.call.Call.{Call}
use Rattle.mds_request.specs.declared.call.Call.TheVariants as call
use Rattle.mds_request.specs.declared.config.Actor.{Actor}
use Rattle.mds_request.specs.declared.config.Actor.TheVariants.{Operator}
use Rattle.mds_request.proofs.Callers.{call_of-caller, caller}
use Rattle.server_state.specs.Client.{IsWithin}
use Rattle.server_state.proofs.Clients.{is_within}
use Rattle.server_durable.specs.Many.{AreAskedBy, AreRecordsOf, report_of}
use Rattle.server_durable.specs.Records.{IsRecordOf, IsRecordable, caller_of, record_by}
use Rattle.server_durable.proofs.Accepted.{taken_more}

-- an operator in a record, by its identifier
pub client_named : (operator : Option Named) (id : List ℕ) → option_map (λ o. o.id) operator ≡ Some id → option_map (λ o. OperatorBy o.id) operator ≡ Some (OperatorBy id)
client_named None id is = absurd cc
client_named (Some operator) id is = ap (option_map OperatorBy) is

caller_is : (own : Call) → caller own ≡ caller_of own
caller_is (call.Author what) = refl
caller_is (call.Operator place what) = refl

module _ (configuration : Configuration) (request : Request) where
  -- the client that makes a call is the one whose access token the request carries
  pub asks : (own : Call) → call_of configuration request ≡ Ok own → actor_of configuration request.token ≡ caller_of own
  asks own is = call_of-caller configuration request own is ∙ caller_is own

  -- an operator that makes a call has its place in the configuration
  pub caller_within : (own : Call) → call_of configuration request ≡ Ok own → IsWithin (length configuration.operators) (caller_of own)
  caller_within own is = subst (IsWithin (length configuration.operators)) (asks own is) (is_within configuration request.token)

  -- so does an operator whose access token the request carries
  pub place_within : (place : ℕ) → actor_of configuration request.token ≡ Operator place → place < length configuration.operators
  place_within place is = subst (IsWithin (length configuration.operators)) is (is_within configuration request.token)

  -- the record names the client
  pub record_of : (actor : Actor) (client : EntryClient) (text : List ℕ) → actor_of configuration request.token ≡ actor → client_at configuration actor ≡ Some client
      → text ≡ record_by client request → IsRecordable request → IsRecordOf configuration request text
  record_of actor client text is known text_is within =
      record {
        entry = asked_by request client;
        is_its = ap (λ who. option_map (asked_by request) (client_at configuration who)) is ∙ ap (option_map (asked_by request)) known;
        text_is = text_is;
        within = within;
      }

  -- the call says which client
  pub record_of_call : (own : Call) (client : EntryClient) (text : List ℕ) → call_of configuration request ≡ Ok own → client_at configuration (caller_of own) ≡ Some client
      → text ≡ record_by client request → IsRecordable request → IsRecordOf configuration request text
  record_of_call own client text is = record_of (caller_of own) client text (asks own is)

module _ (configuration : Configuration) (place : ℕ) where
  -- the records of an operator's requests
  pub records_of : (client : EntryClient) (requests : List Request) → client_at configuration (Operator place) ≡ Some client → AreAskedBy configuration place requests
      → AllByRecursion IsRecordable requests → AreRecordsOf configuration requests (map (record_by client) requests)
  records_of client [] known asked within = tt
  records_of client (request ∷ requests) known asked within = (
    record_of configuration request (Operator place) client (record_by client request) asked.0.asks known refl within.0,
    records_of client requests known asked.1 within.1,
  )

  -- the reports of an operator's request are requests of that operator
  pub reports_asked : (request : Request) (lines : List (List ℕ)) → actor_of configuration request.token ≡ Operator place
      → AreAskedBy configuration place (map (report_of request) lines)
  reports_asked request [] is = tt
  reports_asked request (line ∷ lines) is = (record { asks = is; verb = refl; target = refl }, reports_asked request lines is)

  -- so are a prefix of its requests, and the rest
  pub front_asked : {A : Type 0} (request : A → Request) (n : ℕ) (lent : List A) → AreAskedBy configuration place (map request lent)
      → AreAskedBy configuration place (map request (take n lent))
  front_asked request zero lent asked = tt
  front_asked request (suc n) [] asked = tt
  front_asked request (suc n) (item ∷ lent) asked = (asked.0, front_asked request n lent asked.1)

  pub rest_asked : {A : Type 0} (request : A → Request) (n : ℕ) (lent : List A) → AreAskedBy configuration place (map request lent)
      → AreAskedBy configuration place (map request (drop n lent))
  rest_asked request zero lent asked = asked
  rest_asked request (suc n) [] asked = tt
  rest_asked request (suc n) (item ∷ lent) asked = rest_asked request n lent asked.1

-- one payload more is that of the next request's record
pub texts_more : {A V : Type 0} (request : A → Request) (text : V → List ℕ) (own : Request → List ℕ) (lent : List A) (i : ℕ) (item : A) (was now : List V) (it : V)
    → i < length lent → item ≡ get_or lent i item → now ≡ was ++ it ∷ [] → map text was ≡ map own (map request (take i lent)) → text it ≡ own (request item)
    → map text now ≡ map own (map request (take (i + 1) lent))
texts_more request text own lent i item was now it within here more are is =
    ap (map text) more ∙ map-append text was (it ∷ [])
    ∙ ap (λ (xs : List (List ℕ)). xs ++ text it ∷ []) are
    ∙ ap (λ (t : List ℕ). map own (map request (take i lent)) ++ t ∷ []) is
    ∙ sym (map-append own (map request (take i lent)) (request item ∷ []))
    ∙ ap (map own) (sym (map-append request (take i lent) (item ∷ [])))
    ∙ ap (λ xs. map own (map request xs)) (sym (taken_more lent i item within here))

-- each of one more is within the limits of an entry
all_more : {A : Type 0} (P : A → Type 0) (items : List A) (item : A) → AllByRecursion P items → P item → AllByRecursion P (items ++ item ∷ [])
all_more P [] item all it = (it, tt)
all_more P (first ∷ items) item all it = (all.0, all_more P items item all.1 it)

pub recordable_more : {A : Type 0} (request : A → Request) (lent : List A) (i : ℕ) (item : A) → i < length lent → item ≡ get_or lent i item
    → AllByRecursion IsRecordable (map request (take i lent)) → IsRecordable (request item) → AllByRecursion IsRecordable (map request (take (i + 1) lent))
recordable_more request lent i item within here all it =
    subst (λ xs. AllByRecursion IsRecordable (map request xs)) (sym (taken_more lent i item within here))
    (subst (AllByRecursion IsRecordable) (sym (map-append request (take i lent) (item ∷ [])))
    (all_more IsRecordable (map request (take i lent)) (request item) all it))
