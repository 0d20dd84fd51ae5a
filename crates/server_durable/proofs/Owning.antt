-- Whose the records are.
use Rattle.std.proofs.Common.{◌≡◌, ℕ, List, [], ◌∷◌, ◌++◌, length, drop, Option, Some, None, IfSome, option_map, refl, sym, ap, ◌∙◌, append_assoc, length-append, arith}
use Rattle.std.proofs.Math.Seq.{drop-append_seam}
use Rattle.std.proofs.lemmas.List.{take_at}
use Rattle.uuid.specs.Text.{parsed}
use Rattle.journal_commit.specs.Clients.{AreOf}
use Rattle.journal_commit.specs.declared.backlog.Reservation.{Reservation}
use Rattle.journal_entry.specs.Entries.{Entry, IsClient, IsId, client_text, entry_text, id_text, moment_text, size_text, verb_code}
use Rattle.journal_entry.specs.Requests.{actor_by, asked_by, client_at}
use Rattle.journal_entry.specs.declared.entry.EntryClient.{EntryClient}
use Rattle.journal_entry.specs.declared.entry.EntryClient.TheVariants.{Author as TheAuthor, Operator as OperatorBy}
use Rattle.journal_entry.specs.declared.entry.TheConstants.{ENTRY}
use Rattle.journal_entry.proofs.Spelled.{id_length, moment_length}
use Rattle.mds_request.specs.Configuration.{Configuration, actor_of}
use Rattle.mds_request.specs.Request.{Request}
use Rattle.mds_request.specs.declared.config.Actor.{Actor}
use Rattle.mds_request.specs.declared.config.Actor.TheVariants.{Author, Operator}
use Rattle.server_admission.specs.Actor.{index_of}
use Rattle.server_durable.specs.Many.{AreAskedBy, AreRecordsOf}
use Rattle.server_durable.specs.Owners.{IsOwnedBy, OwnsRecords, ReadsClients, client_in, named_first, operator_named}
use Rattle.server_durable.specs.Records.{IsReserved, IsTitled, place_of}
use Rattle.server_durable.specs.declared.records.CallReservation.{CallReservation}
use Rattle.server_durable.specs.declared.records.CallReservation.TheVariants.{Reads, Holds}

-- ---- the client that a payload names

spelled : (id : List ℕ) → IsId id → parsed (id_text id) ≡ Some id
unfolding id_text
spelled id is = is

named : (client : EntryClient) (rest : List ℕ) → IsClient client → named_first (client_text client ++ rest) ≡ client
named TheAuthor rest is = refl
named (OperatorBy id) rest is =
    ap (λ (t : List ℕ). operator_named (parsed t)) (take_at (id_text id) rest 36 (id_length id)) ∙ ap operator_named (spelled id is)

-- what stands before the client in an entry's payload, and behind it
before_client : Entry → List ℕ
before_client e = ENTRY ∷ (moment_text e.at ++ verb_code e.verb ∷ [])

behind_client : Entry → List ℕ
behind_client e = size_text (length e.target) ++ (e.target ++ e.body)

stands_before : (e : Entry) → length (before_client e) ≡ 10
unfolding before_client
stands_before e = omega (arith, length-append (moment_text e.at) (verb_code e.verb ∷ []), moment_length e.at)

parts : (e : Entry) → entry_text e ≡ before_client e ++ (client_text e.client ++ behind_client e)
unfolding before_client behind_client
parts e = ap (λ (t : List ℕ). ENTRY ∷ t) (sym (append_assoc (moment_text e.at) (verb_code e.verb ∷ []) (client_text e.client ++ (size_text (length e.target) ++ (e.target ++ e.body)))))

behind : (e : Entry) → drop 10 (entry_text e) ≡ client_text e.client ++ behind_client e
behind e =
    ap (drop 10) (parts e)
    ∙ ap (λ (n : ℕ). drop n (before_client e ++ (client_text e.client ++ behind_client e))) (sym (stands_before e))
    ∙ drop-append_seam (before_client e) (client_text e.client ++ behind_client e)

-- the client of an entry's payload is the one that stands there
pub reads_clients : (configuration : Configuration) → ReadsClients configuration (client_in configuration)
reads_clients configuration e is =
    ap (λ (who : EntryClient). index_of (actor_by configuration who)) (ap named_first (behind e) ∙ named e.client (behind_client e) is)

-- ---- whose a record is

the_same : {X : Type 0} (x y : X) → Some x ≡ Some y → x ≡ y
the_same x y e = cc

module _ (configuration : Configuration) (client_of : List ℕ → ℕ) where
  -- the records of a client that a configuration finds by the name that they give it
  pub owns : (who : Actor) (client : EntryClient) (number : ℕ) → ReadsClients configuration client_of → client_at configuration who ≡ Some client → IsClient client
      → actor_by configuration client ≡ who → number ≡ index_of who → OwnsRecords configuration client_of who number
  owns who client number reads known is back numbered request text asks its =
      let named_by : option_map (asked_by request) (client_at configuration who) ≡ Some (asked_by request client) = ap (option_map (asked_by request)) known in
      let asked = ap (λ (a : Actor). option_map (asked_by request) (client_at configuration a)) asks in
      let same = the_same (asked_by request client) its.entry (sym named_by ∙ sym asked ∙ its.is_its) in
      ap client_of (its.text_is ∙ ap entry_text (sym same)) ∙ reads (asked_by request client) is ∙ ap index_of back ∙ sym numbered

  -- the author's
  pub author_owns : (number : ℕ) → ReadsClients configuration client_of → number ≡ index_of Author → OwnsRecords configuration client_of Author number
  author_owns number reads numbered = owns Author TheAuthor number reads refl tt refl numbered

  -- they stay its own where its number stays
  pub owned_still : (who : Actor) (before after : ℕ) → OwnsRecords configuration client_of who before → after ≡ before → OwnsRecords configuration client_of who after
  owned_still who before after own same request text asks its = own request text asks its ∙ sym same

  -- what is reserved for a request is its client's
  pub owned_by : (who : Actor) (client : ℕ) (request : Request) (reserved : CallReservation) → OwnsRecords configuration client_of who client
      → actor_of configuration request.token ≡ who → IsReserved configuration request reserved → IsOwnedBy client_of client reserved
  owned_by who client request Reads own asks is = tt
  owned_by who client request (Holds place) own asks is = own request place.text.items asks is.1

  -- so are the records of an operator's requests
  pub records_are_of : (place client : ℕ) (requests : List Request) (texts : List (List ℕ)) → OwnsRecords configuration client_of (Operator place) client
      → AreAskedBy configuration place requests → AreRecordsOf configuration requests texts → AreOf client_of client texts
  records_are_of place client [] [] own asked are = tt
  records_are_of place client [] (text ∷ texts) own asked are = absurd are
  records_are_of place client (request ∷ requests) [] own asked are = absurd are
  records_are_of place client (request ∷ requests) (text ∷ texts) own asked are =
      (own request text asked.0.asks are.0, records_are_of place client requests texts own asked.1 are.1)

module _ {H : Type 0} (place : H → Reservation) (client_of : List ℕ → ℕ) (client : ℕ) (text : List ℕ) where
  -- what is held of a reservation is the client's
  pub held_owned : (reserved : CallReservation) (held : Option H) → option_map place held ≡ place_of reserved → IsTitled text reserved
      → IsOwnedBy client_of client reserved → IfSome held (λ _. client_of text ≡ client)
  held_owned Reads None same title owned = tt
  held_owned Reads (Some h) same title owned = absurd cc
  held_owned (Holds it) None same title owned = tt
  held_owned (Holds it) (Some h) same title owned = ap client_of (sym title) ∙ owned

  -- and what is left of it
  pub owned_rest : (reserved : CallReservation) (held : Option H) → option_map place held ≡ place_of reserved → IsTitled text reserved
      → IfSome held (λ _. client_of text ≡ client) → IsOwnedBy client_of client reserved
  owned_rest Reads held same title owned = tt
  owned_rest (Holds it) None same title owned = absurd cc
  owned_rest (Holds it) (Some h) same title owned = ap client_of title ∙ owned
