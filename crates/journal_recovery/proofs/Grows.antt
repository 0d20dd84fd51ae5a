-- A journal with one more entry.
use Rattle.std.proofs.Common.{◌≡◌, ◌≢◌, ℕ, zero, suc, ◌+◌, Bool, true, false, cond, List, [], ◌∷◌, ◌++◌, Option, Some, None, refl, sym, ap, ◌∙◌, arith}
use Rattle.std.specs.List.{filter, list_any, position_from}
use Rattle.std.specs.Prelude.{◌&&◌, ◌||◌, nat_eq, bytes_eq, option_map, option_to_list, position, slice_get}
use Rattle.std.proofs.lemmas.Bool.{eqb-true}
use Rattle.std.proofs.lemmas.Bool.Decides.{nat_tests}
use Rattle.std.proofs.lemmas.Iterator.Adapters.{position_from-zero}
use Rattle.std.proofs.lemmas.List.{append-nil, append_assoc, map-append}
use Rattle.std.proofs.lemmas.List.Elements.{filter-append}
use Rattle.std.proofs.lemmas.Slice.Eq.{bytes_eq-Decides}
use Rattle.mds_request.specs.Configuration.{Configuration, Operator, operator_at, actor_of, ids, repeats}
use Rattle.mds_request.specs.Request.{Request}
use Rattle.mds_request.specs.declared.config.Actor.{Actor}
use Rattle.mds_request.specs.declared.config.Actor.TheVariants.{Author, Operator as OperatorAt, Nobody}
use Rattle.mds_machine.specs.Step.{Exchange}
use Rattle.mds_machine.specs.Views.{is_place}
use Rattle.mds_machine.specs.Fronts.{Turn, requests_in}
use Rattle.mds_machine.specs.Room.{is_authors, is_the_author, authors_in}
use Rattle.journal_laws.specs.Persisted.{is_kept, kept}
use Rattle.journal_laws.specs.Persisted.{requests_in as room_requests_in}
use Rattle.journal_laws.specs.Servers.{kept_turns}
use Rattle.journal_entry.specs.Entries.{Entry}
use Rattle.journal_entry.specs.Requests.{has_id, actor_by, request_by, client_at, asked_by, ReadsTheRequest}
use Rattle.journal_entry.specs.declared.entry.EntryClient.TheVariants.{Author as TheAuthor, Operator as OperatorBy}
use Rattle.journal_recovery.specs.Laws.{is_actor, requests_by, is_turn_kept, IsEntryOf, IsOneTurnMore, JournalGrowsByExchange, JournalGrowsByTurn}
use Rattle.journal_recovery.proofs.Lists.{the_same, none_some}
use Rattle.journal_recovery.proofs.Answered.{first_own, first_other}

pub both_true : (a b : Bool) → (a && b) ≡ true → (a ≡ true) × (b ≡ true)
both_true true b e = (refl, e)
both_true false b e = absurd cc

none_true : (a b : Bool) → (a || b) ≡ false → (a ≡ false) × (b ≡ false)
none_true true b e = absurd cc
none_true false b e = (refl, e)

-- ---- the client of an entry

-- the first operator with an identifier is the only one
id_apart : (id : List ℕ) (operators : List Operator) (place : ℕ) (o : Operator) → list_any (bytes_eq id) (ids operators) ≡ false
    → slice_get operators place ≡ Some o → bytes_eq id o.id ≡ false
id_apart id [] place o none is = absurd (none_some o is)
id_apart id (x ∷ xs) zero o none is =
    ap (λ (y : Operator). bytes_eq id y.id) (sym (the_same x o is)) ∙ (none_true (bytes_eq id x.id) (list_any (bytes_eq id) (ids xs)) none).0
id_apart id (x ∷ xs) (suc place) o none is = id_apart id xs place o (none_true (bytes_eq id x.id) (list_any (bytes_eq id) (ids xs)) none).1 is

found_from : (operators : List Operator) (i place : ℕ) (o : Operator) → repeats (ids operators) ≡ false
    → slice_get operators place ≡ Some o → position_from (has_id o.id) i operators ≡ Some (i + place)
found_from [] i place o alone is = absurd (none_some o is)
found_from (x ∷ xs) i zero o alone is =
    let here : has_id o.id x ≡ true = ap (λ (y : Operator). bytes_eq y.id o.id) (the_same x o is) ∙ (bytes_eq-Decides o.id o.id).1 refl in
    let at : i ≡ i + 0 = omega arith in
    rw here (ap (λ (n : ℕ). Some n) at)
found_from (x ∷ xs) i (suc place) o alone is =
    let parts = none_true (list_any (bytes_eq x.id) (ids xs)) (repeats (ids xs)) alone in
    let other : has_id o.id x ≡ false = id_apart x.id xs place o parts.0 is in
    let at : i + 1 + place ≡ i + suc place = omega arith in
    rw other (found_from xs (i + 1) place o parts.1 is ∙ ap (λ (n : ℕ). Some n) at)

found_at : (operators : List Operator) (place : ℕ) (o : Operator) → repeats (ids operators) ≡ false
    → slice_get operators place ≡ Some o → position (has_id o.id) operators ≡ Some place
found_at operators place o alone is =
    let at : 0 + place ≡ place = omega arith in
    position_from-zero (has_id o.id) operators ∙ found_from operators 0 place o alone is ∙ ap (λ (n : ℕ). Some n) at

asked_at : (c : Configuration) (r : Request) (entry : Entry) (place : ℕ) (here : Option Operator) → repeats (ids c.operators) ≡ false
    → slice_get c.operators place ≡ here → option_map (asked_by r) (option_map (λ (o : Operator). OperatorBy o.id) here) ≡ Some entry
    → actor_by c entry.client ≡ OperatorAt place
asked_at c r entry place None alone is e = absurd (none_some entry e)
asked_at c r entry place (Some o) alone is e =
    ap (λ (x : Entry). actor_by c x.client) (sym (the_same (asked_by r (OperatorBy o.id)) entry e)) ∙ ap operator_at (found_at c.operators place o alone is)

asked_by_actor : (c : Configuration) (r : Request) (entry : Entry) (actor : Actor) → repeats (ids c.operators) ≡ false
    → option_map (asked_by r) (client_at c actor) ≡ Some entry → actor_by c entry.client ≡ actor
asked_by_actor c r entry Author alone e = ap (λ (x : Entry). actor_by c x.client) (sym (the_same (asked_by r TheAuthor) entry e))
asked_by_actor c r entry (OperatorAt place) alone e = asked_at c r entry place (slice_get c.operators place) alone refl e
asked_by_actor c r entry Nobody alone e = absurd (none_some entry e)

who_asks : (c : Configuration) (r : Request) (entry : Entry) (actor : Actor) → IsEntryOf c r entry → actor_of c r.token ≡ actor
    → actor_by c entry.client ≡ actor
who_asks c r entry actor is who =
    asked_by_actor c r entry actor is.0 (ap (λ (a : Actor). option_map (asked_by r) (client_at c a)) (sym who) ∙ is.1)

the_author : (actor : Actor) → is_the_author actor ≡ true → actor ≡ Author
the_author Author is = refl
the_author (OperatorAt place) is = absurd cc
the_author Nobody is = absurd cc

the_operator : (place : ℕ) (actor : Actor) → is_place place actor ≡ true → actor ≡ OperatorAt place
the_operator place Author is = absurd cc
the_operator place (OperatorAt other) is = ap (λ (p : ℕ). OperatorAt p) (sym (eqb-true place other is))
the_operator place Nobody is = absurd cc

-- ---- requests among one more entry

pub requests_of_both : (c : Configuration) (actor : Actor) (front rest : List Entry)
    → requests_by c actor (front ++ rest) ≡ requests_by c actor front ++ requests_by c actor rest
requests_of_both c actor [] rest = refl
requests_of_both c actor (e ∷ front) rest =
    let own = cond (is_actor actor (actor_by c e.client)) (option_to_list (request_by c e)) [] in
    ap (λ (rs : List Request). own ++ rs) (requests_of_both c actor front rest) ∙ sym (append_assoc own (requests_by c actor front) (requests_by c actor rest))

own_more : (c : Configuration) (actor : Actor) (entries : List Entry) (entry : Entry) (r : Request) → is_actor actor (actor_by c entry.client) ≡ true
    → request_by c entry ≡ Some r → requests_by c actor (entries ++ entry ∷ []) ≡ requests_by c actor entries ++ r ∷ []
own_more c actor entries entry r own is =
    requests_of_both c actor entries (entry ∷ []) ∙ ap (λ (rs : List Request). requests_by c actor entries ++ rs) (first_own c actor entry [] r own is)

other_more : (c : Configuration) (actor : Actor) (entries : List Entry) (entry : Entry) → is_actor actor (actor_by c entry.client) ≡ false
    → requests_by c actor (entries ++ entry ∷ []) ≡ requests_by c actor entries
other_more c actor entries entry other =
    requests_of_both c actor entries (entry ∷ []) ∙ ap (λ (rs : List Request). requests_by c actor entries ++ rs) (first_other c actor entry [] other)
    ∙ append-nil (requests_by c actor entries)

-- ---- one more that is persisted, or isn't

kept_more : {X : Type 0} (p : X → Bool) (xs : List X) (x : X) → p x ≡ true → filter p (xs ++ x ∷ []) ≡ filter p xs ++ x ∷ []
kept_more p xs x is = filter-append p xs (x ∷ []) ∙ ap (λ (b : Bool). filter p xs ++ cond b (x ∷ []) []) is

left_out : {X : Type 0} (p : X → Bool) (xs : List X) (x : X) → p x ≡ false → filter p (xs ++ x ∷ []) ≡ filter p xs
left_out p xs x is = filter-append p xs (x ∷ []) ∙ ap (λ (b : Bool). filter p xs ++ cond b (x ∷ []) []) is ∙ append-nil (filter p xs)

abbrev room_keeps : Configuration → List Exchange → List Request
room_keeps c history = room_requests_in (kept c (authors_in c history))

exchange_kept : (c : Configuration) (history : List Exchange) (e : Exchange) → is_authors c e.request ≡ true → is_kept c e ≡ true
    → room_keeps c (history ++ e ∷ []) ≡ room_keeps c history ++ e.request ∷ []
exchange_kept c history e own is =
    ap (λ (h : List Exchange). room_requests_in (kept c h)) (kept_more (λ (x : Exchange). is_authors c x.request) history e own)
    ∙ ap room_requests_in (kept_more (is_kept c) (authors_in c history) e is)
    ∙ map-append (λ (x : Exchange). x.request) (kept c (authors_in c history)) (e ∷ [])

exchange_left_out : (c : Configuration) (history : List Exchange) (e : Exchange) (own : Bool) → is_authors c e.request ≡ own → (own && is_kept c e) ≡ false
    → room_keeps c (history ++ e ∷ []) ≡ room_keeps c history
exchange_left_out c history e true own is =
    ap (λ (h : List Exchange). room_requests_in (kept c h)) (kept_more (λ (x : Exchange). is_authors c x.request) history e own)
    ∙ ap room_requests_in (left_out (is_kept c) (authors_in c history) e is)
exchange_left_out c history e false own is =
    ap (λ (h : List Exchange). room_requests_in (kept c h)) (left_out (λ (x : Exchange). is_authors c x.request) history e own)

pub grows_by_exchange : ReadsTheRequest → JournalGrowsByExchange
grows_by_exchange reads c entries history turns e journal = (
  λ is. record {
    author = journal.author ∙ sym (exchange_left_out c history e (is_authors c e.request) refl is);
    operators = journal.operators;
  },
  λ entry is of.
      let parts = both_true (is_authors c e.request) (is_kept c e) is in
      let who = who_asks c e.request entry Author of (the_author (actor_of c e.request.token) parts.0) in
      let read : request_by c entry ≡ Some e.request = reads c e.request entry of.0 of.1 in
      record {
        author = own_more c Author entries entry e.request (ap (is_actor Author) who) read
            ∙ ap (λ (rs : List Request). rs ++ e.request ∷ []) journal.author
            ∙ sym (exchange_kept c history e parts.0 parts.1);
        operators = λ place operator found.
            other_more c (OperatorAt place) entries entry (ap (is_actor (OperatorAt place)) who) ∙ journal.operators place operator found;
      },
)

abbrev desk_keeps : Configuration → List Turn → List Request
desk_keeps c turns = requests_in (kept_turns c turns)

turn_kept : (c : Configuration) (turns : List Turn) (turn : Turn) → is_turn_kept c turn ≡ true
    → desk_keeps c (turns ++ turn ∷ []) ≡ desk_keeps c turns ++ turn.request ∷ []
turn_kept c turns turn is =
    ap requests_in (kept_more (is_turn_kept c) turns turn is) ∙ map-append (λ (x : Turn). x.request) (kept_turns c turns) (turn ∷ [])

turn_left_out : (c : Configuration) (turns : List Turn) (turn : Turn) → is_turn_kept c turn ≡ false
    → desk_keeps c (turns ++ turn ∷ []) ≡ desk_keeps c turns
turn_left_out c turns turn is = ap requests_in (left_out (is_turn_kept c) turns turn is)

distinct : (a b : ℕ) → nat_eq a b ≡ false → a ≢ b
distinct a b other same = absurd (grind (arith, nat_tests, other, same))

-- where nothing is appended
same_at : (c : Configuration) (turns next : ℕ → List Turn) (place other : ℕ) (turn : Turn) (same : Bool) → nat_eq other place ≡ same
    → IsOneTurnMore turns place turn next → is_turn_kept c turn ≡ false → desk_keeps c (turns other) ≡ desk_keeps c (next other)
same_at c turns next place other turn true same more is =
    let one : place ≡ other = sym (eqb-true other place same) in
    ap (λ (p : ℕ). desk_keeps c (turns p)) (sym one) ∙ sym (turn_left_out c (turns place) turn is) ∙ ap (desk_keeps c) (sym more.here)
    ∙ ap (λ (p : ℕ). desk_keeps c (next p)) one
same_at c turns next place other turn false same more is = ap (desk_keeps c) (sym (more.others other (distinct other place same)))

-- where the turn's entry is appended
more_at : (c : Configuration) (entries : List Entry) (entry : Entry) (turns next : ℕ → List Turn) (place other : ℕ) (turn : Turn) (same : Bool)
    → nat_eq other place ≡ same → IsOneTurnMore turns place turn next → is_turn_kept c turn ≡ true → actor_by c entry.client ≡ OperatorAt place
    → request_by c entry ≡ Some turn.request → requests_by c (OperatorAt other) entries ≡ desk_keeps c (turns other)
    → requests_by c (OperatorAt other) (entries ++ entry ∷ []) ≡ desk_keeps c (next other)
more_at c entries entry turns next place other turn true same more is who read so_far =
    let one : place ≡ other = sym (eqb-true other place same) in
    own_more c (OperatorAt other) entries entry turn.request (ap (is_actor (OperatorAt other)) who ∙ same) read
    ∙ ap (λ (rs : List Request). rs ++ turn.request ∷ []) (so_far ∙ ap (λ (p : ℕ). desk_keeps c (turns p)) (sym one))
    ∙ sym (turn_kept c (turns place) turn is) ∙ ap (desk_keeps c) (sym more.here) ∙ ap (λ (p : ℕ). desk_keeps c (next p)) one
more_at c entries entry turns next place other turn false same more is who read so_far =
    other_more c (OperatorAt other) entries entry (ap (is_actor (OperatorAt other)) who ∙ same) ∙ so_far
    ∙ ap (desk_keeps c) (sym (more.others other (distinct other place same)))

pub grows_by_turn : ReadsTheRequest → JournalGrowsByTurn
grows_by_turn reads c entries history turns next place turn journal more = (
  λ is. record {
    author = journal.author;
    operators = λ other operator found. journal.operators other operator found ∙ same_at c turns next place other turn (nat_eq other place) refl more is;
  },
  λ entry is own of.
      let who = who_asks c turn.request entry (OperatorAt place) of (the_operator place (actor_of c turn.request.token) own) in
      let read : request_by c entry ≡ Some turn.request = reads c turn.request entry of.0 of.1 in
      record {
        author = other_more c Author entries entry (ap (is_actor Author) who) ∙ journal.author;
        operators = λ other operator found.
            more_at c entries entry turns next place other turn (nat_eq other place) refl more is who read (journal.operators other operator found);
      },
)
