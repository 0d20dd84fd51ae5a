-- Entries that were replayed are turns of the room and of each desk.
use mathlib.Core.List.{IsPrefix}
use Rattle.std.proofs.Common.{◌≡◌, ℕ, Bool, true, false, cond, List, [], ◌∷◌, ◌++◌, length, Option, Some, None, inl, inr, refl, sym, ap, subst, ◌∙◌, arith}
use Rattle.std.specs.Prelude.{nat_eq, bytes_eq, option_map, option_to_list, position, slice_get}
use Rattle.std.proofs.lemmas.List.{append-nil, append_assoc}
use Rattle.std.proofs.lemmas.Bool.{eqb-true}
use Rattle.std.proofs.lemmas.Bool.Decides.{nat_tests}
use Rattle.std.proofs.lemmas.Slice.Eq.{bytes_eq-Decides}
use Rattle.mds_catalog.specs.Publication.{Publication}
use Rattle.mds_fleet.specs.Books.{Rows}
use Rattle.mds_request.specs.Configuration.{Configuration, Operator, operator_at, has_token}
use Rattle.mds_request.specs.Request.{Request}
use Rattle.mds_request.specs.Reply.{Reply}
use Rattle.mds_request.specs.declared.config.Actor.{Actor}
use Rattle.mds_request.specs.declared.config.Actor.TheVariants.{Author, Operator as OperatorAt, Nobody}
use Rattle.mds_machine.specs.Step.{Exchange}
use Rattle.mds_machine.specs.Desks.{AreTurns, IsTurn}
use Rattle.mds_machine.specs.Fronts.{Turn, last_front}
use Rattle.mds_machine.specs.Room.{AreRoomTurns, IsRoomTurn, authors_in, is_authors, is_the_author}
use Rattle.mds_desk.specs.Desk.{DeskState, TakesTurn}
use Rattle.mds_desk.specs.Room.{RoomState, IsNoted, held_in}
use Rattle.journal_entry.specs.Entries.{Entry}
use Rattle.journal_entry.specs.Requests.{actor_by, token_of, with_token, request_by}
use Rattle.journal_recovery.specs.Recovery.{Server, LearnsNote, RoomAnswers, DeskAnswers, Answers}
use Rattle.journal_recovery.specs.Laws.{is_actor, requests_by, IsRoomRecovered, IsDeskRecovered, IsServerOf, AnsweredAreTurns}
use Rattle.journal_recovery.proofs.Lists.{the_same, other_at, set_same, set_other, set_long, at_set}

pub prefix_self : {A : Type 0} (xs : List A) → IsPrefix xs xs
prefix_self xs = ([], append-nil xs)

pub prefix_on : {A : Type 0} (xs ys zs : List A) → IsPrefix xs ys → IsPrefix ys zs → IsPrefix xs zs
prefix_on xs ys zs p q = (p.0 ++ q.0, sym (append_assoc xs p.0 q.0) ∙ ap (λ w. w ++ q.0) p.1 ∙ q.1)

last_below : (a b z : List Publication) (turns : List Turn) → IsPrefix a b → IsPrefix (last_front b turns) z → IsPrefix (last_front a turns) z
last_below a b z [] ab bz = prefix_on a b z ab bz
last_below a b z (turn ∷ turns) ab bz = bz

from_less : (c : Configuration) (place : ℕ) (operator : Operator) (known learnt : List Publication) (rows : Rows) (turns : List Turn) (after : Rows)
    → IsPrefix known learnt → AreTurns c place operator learnt rows turns after → AreTurns c place operator known rows turns after
from_less c place operator known learnt rows [] after begins are = are
from_less c place operator known learnt rows (turn ∷ turns) after begins are =
    (are.0, record { begins = prefix_on known learnt turn.front begins are.1.begins; answer = are.1.answer }, are.2)

pub itself : (place : ℕ) → nat_eq place place ≡ true
itself place = grind (arith, nat_tests)

apart : (a b : ℕ) → nat_eq a b ≡ false → a ≡ b → ⊥
apart a b other same = absurd (grind (arith, nat_tests, other, same))

-- ---- requests among entries

pub first_own : (c : Configuration) (actor : Actor) (e : Entry) (entries : List Entry) (request : Request) → is_actor actor (actor_by c e.client) ≡ true
    → request_by c e ≡ Some request → requests_by c actor (e ∷ entries) ≡ request ∷ requests_by c actor entries
first_own c actor e entries request own is =
    ap (λ (b : Bool). (cond b (option_to_list (request_by c e)) []) ++ requests_by c actor entries) own
    ∙ ap (λ (o : Option Request). option_to_list o ++ requests_by c actor entries) is

pub first_other : (c : Configuration) (actor : Actor) (e : Entry) (entries : List Entry) → is_actor actor (actor_by c e.client) ≡ false
    → requests_by c actor (e ∷ entries) ≡ requests_by c actor entries
first_other c actor e entries other = ap (λ (b : Bool). (cond b (option_to_list (request_by c e)) []) ++ requests_by c actor entries) other

-- the author's entry is read with the author's token
authors_own : (c : Configuration) (e : Entry) (request : Request) → actor_by c e.client ≡ Author → request_by c e ≡ Some request
    → is_authors c request ≡ true
authors_own c e request who is =
    let read : with_token e c.author ≡ request = the_same (with_token e c.author) request (ap (λ (a : Actor). option_map (with_token e) (token_of c a)) (sym who) ∙ is) in
    let self : bytes_eq c.author c.author ≡ true = (bytes_eq-Decides c.author c.author).1 refl in
    ap (is_authors c) (sym read)
    ∙ ap (λ (b : Bool). is_the_author (cond b Author (operator_at (position (has_token c.author) c.operators)))) self

-- ---- one entry

learns_same : (note : Option (List Publication)) (d after : DeskState) → LearnsNote note d after → (after.configuration ≡ d.configuration) × (after.place ≡ d.place)
learns_same None d after is = (ap (λ (x : DeskState). x.configuration) is, ap (λ (x : DeskState). x.place) is)
learns_same (Some list) d after is = (is.same.configuration, is.same.place)

learns_rows : (note : Option (List Publication)) (d after : DeskState) → LearnsNote note d after → after.rows ≡ d.rows
learns_rows None d after is = ap (λ (x : DeskState). x.rows) is
learns_rows (Some list) d after is = is.rows

learns_known : (note : Option (List Publication)) (d after : DeskState) → LearnsNote note d after → IsPrefix d.known after.known
learns_known None d after is = subst (λ (x : DeskState). IsPrefix d.known x.known) (sym is) (prefix_self d.known)
learns_known (Some list) d after is = is.kept

-- a desk that knew all that is published knows what is noted too
learns_noted : (note : Option (List Publication)) (publications published : List Publication) (d after : DeskState) → IsNoted publications note published
    → LearnsNote note d after → IsPrefix publications d.known → IsPrefix published after.known
learns_noted None publications published d after noted is knows =
    subst (λ (x : DeskState). IsPrefix published x.known) (sym is) (subst (λ (l : List Publication). IsPrefix l d.known) (sym noted) knows)
learns_noted (Some list) publications published d after noted is knows = subst (λ (l : List Publication). IsPrefix l after.known) noted.0 is.told

stays : (c : Configuration) (request : Request) (reply : Reply) (actor : Actor) (s b : Server) → IsServerOf c s → Answers actor request reply s b → IsServerOf c b
stays c request reply Author s b is again = record {
  room = again.turn.same ∙ is.room;
  long = again.learnt.0 ∙ is.long;
  desks = λ place after there.
      let old = other_at s.desks b.desks place after again.learnt.0 there in
      let same = learns_same again.note old.0 after (again.learnt.1 place old.0 after old.1 there) in
      let first = is.desks place old.0 old.1 in
      (same.0 ∙ first.0, same.1 ∙ first.1);
}
stays c request reply (OperatorAt at) s b is again = record {
  room = ap (λ (r : RoomState). r.configuration) again.room ∙ is.room;
  long = ap length again.desks ∙ set_long s.desks at again.after ∙ is.long;
  desks = λ place after there.
      elim (at_set s.desks at place again.after after (ap (λ (ds : List DeskState). slice_get ds place) (sym again.desks) ∙ there)) [
        | inl here ↦
            let first = is.desks at again.before again.there in (
              ap (λ (x : DeskState). x.configuration) (sym here.1) ∙ again.turn.same.configuration ∙ first.0,
              ap (λ (x : DeskState). x.place) (sym here.1) ∙ again.turn.same.place ∙ first.1 ∙ sym here.0,
            )
        | inr old ↦ is.desks place after old.1
      ];
}
stays c request reply Nobody s b is again = absurd again

room_with : (c : Configuration) (e : Entry) (entries : List Entry) (s b next : Server) (request : Request) (reply : Reply) (actor : Actor) → actor_by c e.client ≡ actor
    → request_by c e ≡ Some request → reply.status ≡ 200 → IsServerOf c s → Answers actor request reply s b → IsRoomRecovered c entries b next
    → IsRoomRecovered c (e ∷ entries) s next
room_with c e entries s b next request reply Author who read served is again rest = record {
  history = record { request = request; reply = reply } ∷ rest.history;
  turns = (held_in b.room, subst (λ (k : Configuration). IsRoomTurn k (held_in s.room) request reply (held_in b.room)) is.room again.turn.turn, rest.turns);
  served = (served, rest.served);
  asked = ap (λ (rs : List Request). request ∷ rs) rest.asked ∙ sym (first_own c Author e entries request (ap (is_actor Author) who) read);
  own = ap (λ (b : Bool). cond b (record { request = request; reply = reply } ∷ authors_in c rest.history) (authors_in c rest.history)) (authors_own c e request who read)
      ∙ ap (λ (h : List Exchange). record { request = request; reply = reply } ∷ h) rest.own;
}
room_with c e entries s b next request reply (OperatorAt at) who read served is again rest = record {
  history = rest.history;
  turns = subst (λ (r : RoomState). AreRoomTurns c (held_in r) rest.history (held_in next.room)) again.room rest.turns;
  served = rest.served;
  asked = rest.asked ∙ sym (first_other c Author e entries (ap (is_actor Author) who));
  own = rest.own;
}
room_with c e entries s b next request reply Nobody who read served is again rest = absurd again

-- the desk's own entry
desk_own : (c : Configuration) (e : Entry) (entries : List Entry) (s b next : Server) (request : Request) (reply : Reply) (place : ℕ) (operator : Operator) (d : DeskState)
    → actor_by c e.client ≡ OperatorAt place → request_by c e ≡ Some request → reply.status ≡ 200 → IsServerOf c s → (again : DeskAnswers place request reply s b)
    → slice_get c.operators place ≡ Some operator → slice_get s.desks place ≡ Some d
    → ((after : DeskState) → slice_get b.desks place ≡ Some after → IsDeskRecovered c entries b next place operator after)
    → IsDeskRecovered c (e ∷ entries) s next place operator d
desk_own c e entries s b next request reply place operator d who read served is again found there rests =
    let same : again.before ≡ d = the_same again.before d (sym again.there ∙ there) in
    let takes : TakesTurn d request reply again.after = subst (λ (x : DeskState). TakesTurn x request reply again.after) same again.turn in
    let its = is.desks place d there in
    let here : slice_get b.desks place ≡ Some again.after = ap (λ (ds : List DeskState). slice_get ds place) again.desks ∙ set_same s.desks place d again.after there in
    let rest = rests again.after here in
    let mine : slice_get d.configuration.operators d.place ≡ Some operator = ap (λ (k : Configuration). slice_get k.operators d.place) its.0 ∙ ap (slice_get c.operators) its.1 ∙ found in
    let turn : Turn = record { request = request; front = again.after.known; reply = reply } in
    let one : IsTurn c place operator d.known d.rows turn again.after.rows =
    subst (λ (p : ℕ). IsTurn c p operator d.known d.rows turn again.after.rows) its.1
    (subst (λ (k : Configuration). IsTurn k d.place operator d.known d.rows turn again.after.rows) its.0 (takes.turn operator mine)) in
    record {
      after = rest.after;
      there = rest.there;
      turns = turn ∷ rest.turns;
      are = (again.after.rows, one, rest.are);
      served = (served, rest.served);
      asked = ap (λ (rs : List Request). request ∷ rs) rest.asked ∙ sym (first_own c (OperatorAt place) e entries request (ap (is_actor (OperatorAt place)) who ∙ itself place) read);
      fronts = rest.fronts;
      knows = λ knows. rest.knows (subst (λ (r : RoomState). IsPrefix r.publications again.after.known) (sym again.room) (prefix_on s.room.publications d.known again.after.known knows one.begins));
    }

-- another operator's entry
desk_other : (c : Configuration) (e : Entry) (entries : List Entry) (s b next : Server) (request : Request) (reply : Reply) (at place : ℕ) (operator : Operator) (d : DeskState)
    → actor_by c e.client ≡ OperatorAt at → nat_eq place at ≡ false → DeskAnswers at request reply s b → slice_get s.desks place ≡ Some d
    → ((after : DeskState) → slice_get b.desks place ≡ Some after → IsDeskRecovered c entries b next place operator after)
    → IsDeskRecovered c (e ∷ entries) s next place operator d
desk_other c e entries s b next request reply at place operator d who other again there rests =
    let here : slice_get b.desks place ≡ Some d = ap (λ (ds : List DeskState). slice_get ds place) again.desks ∙ set_other s.desks at place again.after (apart place at other) ∙ there in
    let rest = rests d here in
    record {
      after = rest.after;
      there = rest.there;
      turns = rest.turns;
      are = rest.are;
      served = rest.served;
      asked = rest.asked ∙ sym (first_other c (OperatorAt place) e entries (ap (is_actor (OperatorAt place)) who ∙ other));
      fronts = rest.fronts;
      knows = λ knows. rest.knows (subst (λ (r : RoomState). IsPrefix r.publications d.known) (sym again.room) knows);
    }

-- the author's entry
desk_learns : (c : Configuration) (e : Entry) (entries : List Entry) (s b next : Server) (request : Request) (reply : Reply) (place : ℕ) (operator : Operator) (d : DeskState)
    → actor_by c e.client ≡ Author → RoomAnswers request reply s b → slice_get s.desks place ≡ Some d
    → ((after : DeskState) → slice_get b.desks place ≡ Some after → IsDeskRecovered c entries b next place operator after)
    → IsDeskRecovered c (e ∷ entries) s next place operator d
desk_learns c e entries s b next request reply place operator d who again there rests =
    let found = other_at b.desks s.desks place d (sym again.learnt.0) there in
    let between = found.0 in
    let is = again.learnt.1 place d between there found.1 in
    let rest = rests between found.1 in
    let more = learns_known again.note d between is in
    record {
      after = rest.after;
      there = rest.there;
      turns = rest.turns;
      are = from_less c place operator d.known between.known d.rows rest.turns rest.after.rows more
          (subst (λ (r : Rows). AreTurns c place operator between.known r rest.turns rest.after.rows) (learns_rows again.note d between is) rest.are);
      served = rest.served;
      asked = rest.asked ∙ sym (first_other c (OperatorAt place) e entries (ap (is_actor (OperatorAt place)) who));
      fronts = last_below d.known between.known rest.after.known rest.turns more rest.fronts;
      knows = λ knows. rest.knows (learns_noted again.note s.room.publications b.room.publications d between again.turn.noted is knows);
    }

desk_at : (c : Configuration) (e : Entry) (entries : List Entry) (s b next : Server) (request : Request) (reply : Reply) (at place : ℕ) (operator : Operator) (d : DeskState)
    (same : Bool) → nat_eq place at ≡ same → actor_by c e.client ≡ OperatorAt at → request_by c e ≡ Some request → reply.status ≡ 200 → IsServerOf c s
    → DeskAnswers at request reply s b → slice_get c.operators place ≡ Some operator → slice_get s.desks place ≡ Some d
    → ((after : DeskState) → slice_get b.desks place ≡ Some after → IsDeskRecovered c entries b next place operator after)
    → IsDeskRecovered c (e ∷ entries) s next place operator d
desk_at c e entries s b next request reply at place operator d true is_same who read served is again found there rests =
    let one : at ≡ place = sym (eqb-true place at is_same) in
    desk_own c e entries s b next request reply place operator d (who ∙ ap (λ (p : ℕ). OperatorAt p) one) read served is
    (subst (λ (p : ℕ). DeskAnswers p request reply s b) one again) found there rests
desk_at c e entries s b next request reply at place operator d false is_same who read served is again found there rests =
    desk_other c e entries s b next request reply at place operator d who is_same again there rests

desk_with : (c : Configuration) (e : Entry) (entries : List Entry) (s b next : Server) (request : Request) (reply : Reply) (actor : Actor) (place : ℕ) (operator : Operator)
    (d : DeskState) → actor_by c e.client ≡ actor → request_by c e ≡ Some request → reply.status ≡ 200 → IsServerOf c s → Answers actor request reply s b
    → slice_get c.operators place ≡ Some operator → slice_get s.desks place ≡ Some d
    → ((after : DeskState) → slice_get b.desks place ≡ Some after → IsDeskRecovered c entries b next place operator after)
    → IsDeskRecovered c (e ∷ entries) s next place operator d
desk_with c e entries s b next request reply Author place operator d who read served is again found there rests =
    desk_learns c e entries s b next request reply place operator d who again there rests
desk_with c e entries s b next request reply (OperatorAt at) place operator d who read served is again found there rests =
    desk_at c e entries s b next request reply at place operator d (nat_eq place at) refl who read served is again found there rests
desk_with c e entries s b next request reply Nobody place operator d who read served is again found there rests = absurd again

pub answered : AnsweredAreTurns
answered c [] s next is are = (
  subst (IsServerOf c) (sym are) is,
  record { history = []; turns = ap (λ (x : Server). held_in x.room) are; served = tt; asked = refl; own = refl },
  λ place operator d found there. record {
    after = d;
    there = ap (λ (x : Server). slice_get x.desks place) are ∙ there;
    turns = [];
    are = refl;
    served = tt;
    asked = refl;
    fronts = prefix_self d.known;
    knows = λ knows. subst (λ (x : Server). IsPrefix x.room.publications d.known) (sym are) knows;
  },
)
answered c (e ∷ entries) s next is are =
    let b = are.0 in
    let reply = are.1.0 in
    let served = are.1.1 in
    let request = are.1.2.0 in
    let read = are.1.2.1 in
    let again = are.1.2.2 in
    let rest = answered c entries b next (stays c request reply (actor_by c e.client) s b is again) are.2 in (
      rest.0,
      room_with c e entries s b next request reply (actor_by c e.client) refl read served is again rest.1,
      λ place operator d found there.
          desk_with c e entries s b next request reply (actor_by c e.client) place operator d refl read served is again found there
          (λ after here. rest.2 place operator after found here),
    )
