-- The author's exchanges at the room are a history of the machine.
use Rattle.std.proofs.Common.{◌≡◌, Bool, true, false, cond, List, [], ◌∷◌, Result, Ok, Err, inl, inr, refl, sym, ap, subst, ◌∙◌}
use Rattle.std.specs.Prelude.{◌==◌}
use Rattle.std.proofs.lemmas.Bool.{false≢true}
use Rattle.mds_catalog.specs.Publication.{Publication}
use Rattle.mds_drafts.specs.Drafts.{Drafts}
use Rattle.mds_fleet.specs.Books.{Rows}
use Rattle.mds_request.specs.Call.{call_of}
use Rattle.mds_request.specs.Configuration.{Configuration, actor_of}
use Rattle.mds_request.specs.Request.{Request}
use Rattle.mds_request.specs.Reply.{Reply, refused}
use Rattle.mds_request.specs.declared.call.Call.{Call}
use Rattle.mds_request.specs.declared.call.Call.TheVariants as call
use Rattle.mds_request.specs.declared.code.Code.{Code}
use Rattle.mds_request.specs.declared.code.Code.TheVariants.{NoMemory}
use Rattle.mds_request.specs.declared.config.Actor.{Actor}
use Rattle.mds_request.specs.declared.config.Actor.TheVariants.{Author, Operator as OperatorAt, Nobody}
use Rattle.mds_machine.specs.Answer.{settled, ◌>>=◌}
use Rattle.mds_machine.specs.Author.{author_does}
use Rattle.mds_machine.specs.Step.{State, Exchange, Step, Run, new_state}
use Rattle.mds_machine.proofs.Callers.{IsBy, call_by}
use Rattle.mds_machine.proofs.Steps.{call_step, authored}
use Rattle.mds_machine.proofs.Successes.{refused_leaves}
use Rattle.mds_machine.specs.Desks.{refusal_of}
use Rattle.mds_machine.specs.DeskLaws.{RoomIsHistory}
use Rattle.mds_machine.specs.Room.{is_the_author, is_authors, authors_call, IsRoomTurn, AreRoomTurns, authors_in}

abbrev Held : Type 0
Held = Drafts × List Publication

pub author_is : (actor : Actor) → is_the_author actor ≡ true → actor ≡ Author
author_is Author is = refl
author_is (OperatorAt place) is = absurd (false≢true is)
author_is Nobody is = absurd (false≢true is)

module _ (configuration : Configuration) (fleets : List Rows) where
  abbrev state : Held → State
  state held = record { configuration = configuration; publications = held.1; drafts = held.0; fleets = fleets }

  module _ (held : Held) (request : Request) where
    abbrev Same : Reply × State → Reply × Held → Type 0
    Same s room = (s.0 ≡ room.0) × (s.1 ≡ state room.1)

    authored_same : (does : Result (Reply × Held) Code) → Same (authored (state held) does) (settled held does)
    authored_same (Err code) = (refl, refl)
    authored_same (Ok after) = (refl, refl)

    call_same : (called : Result Call Code) → IsBy Author called → Same (call_step (state held) called request) (settled held (called >>= authors_call >>= λ own. author_does held.0 held.1 own request))
    call_same (Err code) by = (refl, refl)
    call_same (Ok (call.Author own)) by = authored_same (author_does held.0 held.1 own request)
    call_same (Ok (call.Operator place own)) by = absurd by

    abbrev does_if : Bool → Result (Reply × Held) Code
    does_if authors =
        cond authors (call_of configuration request >>= authors_call >>= λ own. author_does held.0 held.1 own request) (Err (refusal_of (call_of configuration request)))

    -- a turn of the author is a step of the machine
    author_step : (reply : Reply) (after : Held) → is_authors configuration request ≡ true → IsRoomTurn configuration held request reply after → Step (state held) request reply (state after)
    author_step reply after is turn =
        let whose = author_is (actor_of configuration request.token) is in
        let same = call_same (call_of configuration request) (subst (λ actor. IsBy actor (call_of configuration request)) whose (call_by configuration request)) in
        elim turn [
          | inl a ↦ inl (
            a.0 ∙ ap (λ b. (settled held (does_if b)).0) is ∙ sym same.0,
            ap state (a.1 ∙ ap (λ b. (settled held (does_if b)).1) is) ∙ sym same.1,
          )
          | inr a ↦ inr (
            record { fits = λ large. absurd (let no = sym a.0.1 ∙ large in cc); known = λ nobody. absurd (let no = sym a.0.1 ∙ nobody in cc) },
            a.1,
            ap state a.2,
          )
        ]

    -- a request of any other client changes nothing
    others_leave : (reply : Reply) (after : Held) → is_authors configuration request ≡ false → IsRoomTurn configuration held request reply after → after ≡ held
    others_leave reply after is turn = elim turn [
      | inl a ↦ a.1 ∙ ap (λ b. (settled held (does_if b)).1) is
      | inr a ↦ a.2
    ]

  runs : (history : List Exchange) (held after : Held) → AreRoomTurns configuration held history after → Run (state held) (authors_in configuration history) (state after)
  runs [] held after are = ap state are
  runs (e ∷ history) held after are = by (is_authors configuration e.request) refl (runs history are.0 after are.2)
    where
      by : (authors : Bool) → is_authors configuration e.request ≡ authors → Run (state are.0) (authors_in configuration history) (state after) → Run (state held) (cond authors (e ∷ authors_in configuration history) (authors_in configuration history)) (state after)
      by true is rest = (state are.0, author_step held e.request e.reply are.0 is are.1, rest)
      by false is rest = subst (λ h. Run (state h) (authors_in configuration history) (state after)) (others_leave held e.request e.reply are.0 is are.1) rest

-- the drafts and publications that the exchanges at the room leave follow from them
module _ (configuration : Configuration) where
  one_left : (held : Held) (request : Request) (reply : Reply) (after other : Held) → IsRoomTurn configuration held request reply after → IsRoomTurn configuration held request reply other → after ≡ other
  one_left held request reply after other turn apart = by (is_authors configuration request) refl
    where
      by : (authors : Bool) → is_authors configuration request ≡ authors → after ≡ other
      by false is =
          others_leave configuration [] held request reply after is turn ∙ sym (others_leave configuration [] held request reply other is apart)
      by true is = elim turn [
        | inl a ↦ elim apart [
          | inl b ↦ a.1 ∙ sym b.1
          | inr b ↦ leaves after (inl a) b.1 ∙ sym b.2
        ]
        | inr a ↦ elim apart [
          | inl b ↦ a.2 ∙ sym (leaves other (inl b) a.1)
          | inr b ↦ a.2 ∙ sym b.2
        ]
      ]
        where
          leaves : (left : Held) → IsRoomTurn configuration held request reply left → reply ≡ refused NoMemory → left ≡ held
          leaves left turn out =
              ap (λ s. (s.drafts, s.publications))
              (refused_leaves (state configuration [] held) request reply (state configuration [] left)
              (author_step configuration [] held request reply left is turn)
              (λ ok. false≢true (ap (λ status. status == 200) (sym (ap (λ r. r.status) out) ∙ ok))))

  pub all_left : (history : List Exchange) (held after other : Held) → AreRoomTurns configuration held history after → AreRoomTurns configuration held history other → after ≡ other
  all_left [] held after other are apart = are ∙ sym apart
  all_left (e ∷ history) held after other are apart =
      all_left history apart.0 after other
      (subst (λ h. AreRoomTurns configuration h history after) (one_left held e.request e.reply are.0 apart.0 are.1 apart.1) are.2)
      apart.2

pub room_is_history : RoomIsHistory
room_is_history configuration history drafts publications are =
    runs configuration (new_state configuration).fleets history ((new_state configuration).drafts, []) (drafts, publications) are
