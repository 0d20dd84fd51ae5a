-- One desk after another, and one entry after another.
use Rattle.std.proofs.Common.{◌≡◌, ℕ, zero, suc, ◌+◌, ◌<◌, ◌≤◌, inl, inr, refl, sym, ap, subst, ◌∙◌, arith, add-one}
use Rattle.std.proofs.Common.{List, [], ◌∷◌, ◌++◌, length, map, take, get_or, Some}
use Rattle.std.specs.Prelude.{slice_get, slice_set, option_map}
use Rattle.std.proofs.lemmas.Option.{slice_get-map, slice_get-get_or}
use Rattle.std.proofs.Math.Seq.{take-suc}
use Rattle.std.proofs.lemmas.List.{map-append, take-map}
use Rattle.mds_catalog.specs.Publication.{Publication}
use Rattle.mds_request.specs.Configuration.{Configuration}
use Rattle.mds_request.specs.Request.{Request}
use Rattle.mds_request.specs.Reply.{Reply}
use Rattle.mds_desk.specs.Desk.{DeskState, TakesTurn, Learns}
use Rattle.mds_desk.specs.Room.{RoomState}
use Rattle.journal_entry.specs.Entries.{Entry}
use Rattle.journal_recovery.specs.Recovery.{Server, DeskAnswers, IsAnsweredAgain, AreAnswered, IsRefused, IsStopped}
use Rattle.journal_recovery.specs.declared.fault.Cause.{Cause}
use Rattle.journal_recovery.proofs.Lists.{the_same, set_long, set_other, at_set}

-- the first so many desks have learnt a list, and the others are as they were
pub record LearntSoFar (list : List Publication) (count : ℕ) (before now : List DeskState) : Type 0 where
  pub long : length now ≡ length before
  pub learnt : (place : ℕ) (d after : DeskState) → place < count → slice_get before place ≡ Some d → slice_get now place ≡ Some after → Learns d list after
  pub others : (place : ℕ) → count ≤ place → slice_get now place ≡ slice_get before place

pub map_set : {D S : Type 0} (state : D → S) (xs : List D) (i : ℕ) (x : D) → map state (slice_set xs i x) ≡ slice_set (map state xs) i (state x)
map_set state [] i x = refl
map_set state (y ∷ xs) zero x = refl
map_set state (y ∷ xs) (suc i) x = ap (λ r. state y ∷ r) (map_set state xs i x)

below : (place count : ℕ) → place < count + 1 → (place ≡ count → ⊥) → place < count
below place count few apart = omega (arith, few, apart)

pub one_more : (list : List Publication) (count : ℕ) (before now : List DeskState) (d next : DeskState) → LearntSoFar list count before now
    → slice_get now count ≡ Some d → Learns d list next → LearntSoFar list (count + 1) before (slice_set now count next)
one_more list count before now d next so_far there learns = record {
  long = set_long now count next ∙ so_far.long;
  learnt = λ place old after few was is.
      elim (at_set now count place next after is) [
        | inl here ↦
            let first : d ≡ old = the_same d old (sym there ∙ ap (slice_get now) (sym here.0) ∙ so_far.others place (omega (arith, here.0)) ∙ was) in
            subst (λ (x : DeskState). Learns old list x) here.1 (subst (λ (x : DeskState). Learns x list next) first learns)
        | inr stood ↦ so_far.learnt place old after (below place count few stood.0) was stood.1
      ];
  others = λ place many. set_other now count place next (λ e. omega (arith, e, many)) ∙ so_far.others place (omega (arith, many));
}

pub learn_more : {D : Type 0} (state : D → DeskState) (list : List Publication) (count : ℕ) (olds now : List D) (other next : D)
    → LearntSoFar list count (map state olds) (map state now) → count < length now → Learns (state (get_or now count other)) list (state next)
    → LearntSoFar list (count + 1) (map state olds) (map state (slice_set now count next))
learn_more state list count olds now other next so_far within learns =
    subst (λ (ds : List DeskState). LearntSoFar list (count + 1) (map state olds) ds) (sym (map_set state now count next))
    (one_more list count (map state olds) (map state now) (state (get_or now count other)) (state next) so_far
    (slice_get-map state now count ∙ ap (option_map state) (slice_get-get_or now count other within)) learns)

pub desk_did : {D : Type 0} (state : D → DeskState) (desks : List D) (place : ℕ) (other next : D) (request : Request) (reply : Reply) (room : RoomState)
    → place < length desks → TakesTurn (state (get_or desks place other)) request reply (state next)
    → DeskAnswers place request reply (record { room = room; desks = map state desks }) (record { room = room; desks = map state (slice_set desks place next) })
desk_did state desks place other next request reply room within takes = record {
  before = state (get_or desks place other);
  after = state next;
  there = slice_get-map state desks place ∙ ap (option_map state) (slice_get-get_or desks place other within);
  turn = takes;
  room = refl;
  desks = map_set state desks place next;
}

pub by_parts : (c : Configuration) (front rest : List Entry) (s between next : Server) → AreAnswered c front s between → AreAnswered c rest between next
    → AreAnswered c (front ++ rest) s next
by_parts c [] rest s between next first second = subst (λ (x : Server). AreAnswered c rest x next) first second
by_parts c (e ∷ front) rest s between next first second = (first.0, first.1, by_parts c front rest first.0 between next first.2 second)

pub answered_more : (c : Configuration) (entries : List Entry) (e : Entry) (s b next : Server) → AreAnswered c entries s b → IsAnsweredAgain c e b next
    → AreAnswered c (entries ++ e ∷ []) s next
answered_more c entries e s b next are again = by_parts c entries (e ∷ []) s b next are (next, again, refl)

one_more_item : {E : Type 0} (items : List E) (i : ℕ) (item : E) → i < length items → item ≡ get_or items i item → take (i + 1) items ≡ take i items ++ item ∷ []
one_more_item items i item within here =
    ap (λ n. take n items) (add-one i) ∙ take-suc items i item within ∙ ap (λ a. take i items ++ a ∷ []) (sym here)

-- a turn of a loop that replays one entry after another
pub entry_more : {E : Type 0} (of : E → Entry) (c : Configuration) (entries : List E) (i : ℕ) (e : E) (s b next : Server) → i < length entries
    → e ≡ get_or entries i e → AreAnswered c (map of (take i entries)) s b → IsAnsweredAgain c (of e) b next → AreAnswered c (map of (take (i + 1) entries)) s next
entry_more of c entries i e s b next within here are again =
    subst (λ (es : List Entry). AreAnswered c es s next)
    (sym (ap (map of) (one_more_item entries i e within here) ∙ map-append of (take i entries) (e ∷ [])))
    (answered_more c (map of (take i entries)) (of e) s b next are again)

-- the loop stops at an entry
pub stopped_at : {E : Type 0} (of : E → Entry) (c : Configuration) (entries : List E) (i : ℕ) (cause : Cause) (e : E) (s b next : Server) → i < length entries
    → e ≡ get_or entries i e → AreAnswered c (map of (take i entries)) s b → IsRefused c (of e) cause b next
    → IsStopped c (map of entries) (record { entry = i; cause = cause }) s next
stopped_at of c entries i cause e s b next within here are refused = record {
  before = b;
  answered = subst (λ (es : List Entry). AreAnswered c es s b) (sym (take-map of i entries)) are;
  e = of e;
  there = slice_get-map of entries i ∙ ap (option_map of) (slice_get-get_or entries i e within ∙ ap (λ x. Some x) (sym here));
  refused = refused;
}
