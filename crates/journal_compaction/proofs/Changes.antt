-- Journals that were appended to and compacted.
use Rattle.std.proofs.Common.{◌≡◌, ℕ, Bool, true, false, cond, refl, sym, ap, ◌∙◌}
use Rattle.std.proofs.Common.{List, [], ◌∷◌, ◌++◌, map, None, Result, Ok, Err, append_assoc}
use Rattle.std.specs.Prelude.{drop, option_map, option_to_list, take}
use Rattle.std.specs.FinMap.{empty, get, get-empty, same_map}
use Rattle.std.proofs.lemmas.List.{append-nil, take-append-drop}
use Rattle.mds_fleet.specs.Books.{Rows}
use Rattle.mds_fleet.proofs.Rows.{device_exact, device_total}
use Rattle.mds_request.specs.Call.{call_of}
use Rattle.mds_request.specs.Configuration.{Configuration, Operator, actor_of, has_alike}
use Rattle.mds_request.specs.Request.{Request}
use Rattle.mds_request.specs.declared.call.Call.{Call}
use Rattle.mds_request.specs.declared.call.Call.TheVariants as call
use Rattle.mds_request.specs.declared.code.Code.{Code}
use Rattle.mds_request.specs.declared.config.Actor.{Actor}
use Rattle.mds_request.specs.declared.config.Actor.TheVariants.{Author, Operator as OperatorAt, Nobody}
use Rattle.mds_request.proofs.Callers.{never_operator}
use Rattle.mds_machine.specs.Fronts.{Turn, requests_in}
use Rattle.journal_laws.specs.Servers.{kept_turns}
use Rattle.journal_entry.specs.Entries.{Entry}
use Rattle.journal_entry.specs.Requests.{actor_by, request_by, token_of, with_token}
use Rattle.journal_recovery.specs.Laws.{is_actor, requests_by}
use Rattle.journal_recovery.proofs.Answered.{first_other}
use Rattle.journal_recovery.proofs.Grows.{requests_of_both}
use Rattle.journal_compaction.specs.declared.kind.Device.{Device}
use Rattle.journal_compaction.specs.declared.kind.EntryKind.{EntryKind}
use Rattle.journal_compaction.specs.declared.kind.EntryKind.TheVariants.{Other}
use Rattle.journal_compaction.specs.Compacting.{thinned}
use Rattle.journal_compaction.specs.Changes.{JournalChange, append, compact, appended_entries, journal_after}
use Rattle.journal_compaction.specs.Kinds.{kind_asked, kind_by, kind_of}
use Rattle.journal_compaction.specs.Laws.{RowsStay}
use Rattle.journal_compaction.specs.Restarts.{ArePersisted, AreReplayed, AuthorsEntriesStay, DeskIsRecoveredFromJournal, RowsStayThroughout, ThinnedDeskIsRecovered}
use Rattle.journal_compaction.specs.Staying.{picked, staying, stays}
use Rattle.journal_compaction.proofs.Clients.{authors}
use Rattle.journal_compaction.proofs.Desks.{after_entries, after_requests, entries_on, kept_move, requests_move, row_of_entries, served_move}

-- ---- rows

-- what holds of all entries and of those after changes
module _ {X : Type 0} (c : Configuration) (after : X → List Entry → X) (first : X)
    (on : (front rest : List Entry) (x : X) → after x (front ++ rest) ≡ after (after x front) rest)
    (stay : (entries : List Entry) → after first (thinned c entries) ≡ after first entries) where
  along : (changes : List JournalChange) (entries all : List Entry) → after first entries ≡ after first all
      → after first (journal_after c entries changes) ≡ after first (all ++ appended_entries changes)
  along [] entries all same = same ∙ ap (after first) (sym (append-nil all))
  along (append e ∷ changes) entries all same =
      along changes (entries ++ e ∷ []) (all ++ e ∷ []) (on entries (e ∷ []) first ∙ ap (λ x. after x (e ∷ [])) same ∙ sym (on all (e ∷ []) first))
      ∙ ap (after first) (append_assoc all (e ∷ []) (appended_entries changes))
  along (compact n ∷ changes) entries all same =
      along changes (thinned c (take n entries) ++ drop n entries) all
      (on (thinned c (take n entries)) (drop n entries) first
      ∙ ap (λ x. after x (drop n entries)) (stay (take n entries))
      ∙ sym (on (take n entries) (drop n entries) first)
      ∙ ap (after first) (take-append-drop n entries)
      ∙ same)

module _ (law : RowsStay) (c : Configuration) where
  thinned_rows : (device : Device) (entries : List Entry) → after_entries c device None (thinned c entries) ≡ after_entries c device None entries
  thinned_rows device entries = sym (row_of_entries c device (thinned c entries)) ∙ law c entries device ∙ row_of_entries c device entries

  same_along : (changes : List JournalChange) (device : Device)
      → after_entries c device None (journal_after c [] changes) ≡ after_entries c device None (appended_entries changes)
  same_along changes device = along c (after_entries c device) None (entries_on c device) (thinned_rows device) changes [] [] refl

pub rows_throughout : RowsStay → RowsStayThroughout
rows_throughout law c changes device =
    row_of_entries c device (journal_after c [] changes) ∙ same_along law c changes device ∙ sym (row_of_entries c device (appended_entries changes))

-- ---- desks

-- entries that lead to the same rows are as good for a desk
module _ (c : Configuration) (place : ℕ) (operator : Operator) (all journal : List Entry) (turns again : List Turn) (left recovered : Rows)
    (unlike : has_alike c ≡ false) (old : ArePersisted c place operator all turns left) (new : AreReplayed c place operator journal again recovered)
    (same : (device : Device) → after_entries c device None journal ≡ after_entries c device None all) where
  abbrev no_rows : Rows
  no_rows = empty

  abbrev its : List ℕ → Device
  its id = record { operator = place; id = id }

  row_left : (id : List ℕ) → get left id ≡ after_entries c (its id) None all
  row_left id =
      kept_move c place operator id old.known no_rows left turns old.are
      ∙ ap (λ held. after_requests c (its id) held (requests_in (kept_turns c turns))) (get-empty _ id)
      ∙ ap (after_requests c (its id) None) (sym old.persisted)
      ∙ requests_move c place unlike id all None

  row_recovered : (id : List ℕ) → get recovered id ≡ after_entries c (its id) None journal
  row_recovered id =
      served_move c place operator id new.known no_rows recovered again new.are new.served
      ∙ ap (λ held. after_requests c (its id) held (requests_in again)) (get-empty _ id)
      ∙ ap (after_requests c (its id) None) new.asked
      ∙ requests_move c place unlike id journal None

  same_rows : recovered ≡ left
  same_rows = same_map device_total device_exact recovered left (λ id. row_recovered id ∙ same (its id) ∙ sym (row_left id))

pub desk_recovered : RowsStay → ThinnedDeskIsRecovered
desk_recovered law c place operator entries turns again left recovered unlike old new =
    same_rows c place operator entries (thinned c entries) turns again left recovered unlike old new (λ device. thinned_rows law c device entries)

pub desk_recovered_from : RowsStay → DeskIsRecoveredFromJournal
desk_recovered_from law c place operator changes turns again left recovered unlike old new =
    same_rows c place operator (appended_entries changes) (journal_after c [] changes) turns again left recovered unlike old new (same_along law c changes)

-- ---- the author's entries

authors_kind : (c : Configuration) (request : Request) (called : Result Call Code) → actor_of c request.token ≡ Author → call_of c request ≡ called
    → kind_by called request.body ≡ Other
authors_kind c request (Err code) who is = refl
authors_kind c request (Ok (call.Author own)) who is = refl
authors_kind c request (Ok (call.Operator at own)) who is = absurd (never_operator c request at own who is)

is_other : (c : Configuration) (e : Entry) → actor_by c e.client ≡ Author → kind_of c e ≡ Other
is_other c e who =
    ap (λ (a : Actor). kind_asked c (option_map (with_token e) (token_of c a))) who
    ∙ authors_kind c (with_token e c.author) (call_of c (with_token e c.author)) (authors c) refl

module _ (c : Configuration) where
  abbrev by_author : List Entry → List Request
  by_author = requests_by c Author

  -- the author's entry stays, and whether another one stays makes no difference
  first_entry : (actor : Actor) (mark : Bool) (e : Entry) (marks : List Bool) (entries : List Entry) → actor_by c e.client ≡ actor
      → (actor ≡ Author → mark ≡ true)
      → by_author (picked marks entries) ≡ by_author entries → by_author (picked (mark ∷ marks) (e ∷ entries)) ≡ by_author (e ∷ entries)
  first_entry actor true e marks entries who stays rest =
      ap (λ requests. (cond (is_actor Author (actor_by c e.client)) (option_to_list (request_by c e)) []) ++ requests) rest
  first_entry Author false e marks entries who stays rest = absurd (let h = stays refl in cc)
  first_entry (OperatorAt place) false e marks entries who stays rest = rest ∙ sym (first_other c Author e entries (ap (is_actor Author) who))
  first_entry Nobody false e marks entries who stays rest = rest ∙ sym (first_other c Author e entries (ap (is_actor Author) who))

  authors_stay : (entries : List Entry) (before : List EntryKind) → by_author (picked (staying before (map (kind_of c) entries)) entries) ≡ by_author entries
  authors_stay [] before = refl
  authors_stay (e ∷ entries) before =
      first_entry (actor_by c e.client) (stays before (kind_of c e) (map (kind_of c) entries)) e
      (staying (kind_of c e ∷ before) (map (kind_of c) entries)) entries refl
      (λ who. ap (λ (kind : EntryKind). stays before kind (map (kind_of c) entries)) (is_other c e who))
      (authors_stay entries (kind_of c e ∷ before))

pub authors_entries : AuthorsEntriesStay
authors_entries c changes =
    along c (λ (before : List Request) entries. before ++ requests_by c Author entries) []
    (λ front rest before. ap (λ requests. before ++ requests) (requests_of_both c Author front rest) ∙ sym (append_assoc before (requests_by c Author front) (requests_by c Author rest)))
    (λ entries. authors_stay c entries []) changes [] [] refl
