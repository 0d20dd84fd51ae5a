-- The persisted turns of a desk, answered before anything is published.
use mathlib.Core.List.{IsPrefix}
use Rattle.std.proofs.Common.{◌≡◌, ℕ, Bool, true, false, cond, List, [], ◌∷◌, ◌++◌, inl, inr, refl, sym, ap, subst, ◌∙◌}
use Rattle.std.specs.FinMap.{empty}
use Rattle.mds_catalog.specs.Publication.{Publication}
use Rattle.mds_fleet.specs.Books.{Rows}
use Rattle.mds_request.specs.Call.{call_of}
use Rattle.mds_request.specs.Configuration.{Configuration, Operator}
use Rattle.mds_request.specs.Reply.{Reply, refused}
use Rattle.mds_request.specs.Request.{Request}
use Rattle.mds_machine.specs.Desks.{AreTurns, IsTurn, desk_does, refusal_of}
use Rattle.mds_machine.specs.Fronts.{Turn, last_front, requests_in}
use Rattle.mds_machine.specs.Meaning.{own_step}
use Rattle.mds_machine.specs.OneHistory.{exchanges_in}
use Rattle.mds_machine.specs.Step.{Exchange}
use Rattle.mds_machine.specs.Views.{is_of}
use Rattle.journal_laws.specs.Persisted.{ChangesStandApart, may_change}
use Rattle.journal_laws.specs.Servers.{DeskIsRecovered, kept_turns}
use Rattle.journal_recovery.specs.Laws.{is_turn_kept, new_server}
use Rattle.journal_recovery.specs.Owners.{PrefixesAreOfOneServer, Work}
use Rattle.journal_recovery.proofs.Answered.{prefix_self}
use Rattle.journal_recovery.proofs.Fronts.{fronts}
use Rattle.journal_recovery.proofs.Grows.{both_true}
use Rattle.journal_recovery.proofs.Owners.{cut_turns}
use Rattle.journal_recovery.proofs.Told.{published_first}

abbrev at_first : Turn → Turn
at_first turn = record { request = turn.request; front = []; reply = turn.reply }

module _ (c : Configuration) where
  abbrev alone : List Turn → List Turn
  alone [] = []
  alone (turn ∷ turns) = cond (is_turn_kept c turn) (at_first turn ∷ alone turns) (alone turns)

  turn_asks : (b : Bool) (turn : Turn) (turns kept : List Turn) → is_turn_kept c turn ≡ b → requests_in (kept_turns c turns) ≡ requests_in kept
      → requests_in (kept_turns c (cond b (at_first turn ∷ turns) turns)) ≡ requests_in (cond b (turn ∷ kept) kept)
  turn_asks true turn turns kept is so_far =
      ap (λ (b : Bool). requests_in (cond b (at_first turn ∷ kept_turns c turns) (kept_turns c turns))) is
      ∙ ap (λ (rs : List Request). turn.request ∷ rs) so_far
  turn_asks false turn turns kept is so_far = so_far

  alone_asks : (turns : List Turn) → requests_in (kept_turns c (alone turns)) ≡ requests_in (kept_turns c turns)
  alone_asks [] = refl
  alone_asks (turn ∷ turns) = turn_asks (is_turn_kept c turn) turn (alone turns) (kept_turns c turns) refl (alone_asks turns)

  turn_has : (b : Bool) (turn : Turn) (turns kept : List Turn) → exchanges_in turns ≡ exchanges_in kept
      → exchanges_in (cond b (at_first turn ∷ turns) turns) ≡ exchanges_in (cond b (turn ∷ kept) kept)
  turn_has true turn turns kept so_far = ap (λ (es : List Exchange). record { request = turn.request; reply = turn.reply } ∷ es) so_far
  turn_has false turn turns kept so_far = so_far

  alone_has : (turns : List Turn) → exchanges_in (alone turns) ≡ exchanges_in (kept_turns c turns)
  alone_has [] = refl
  alone_has (turn ∷ turns) = turn_has (is_turn_kept c turn) turn (alone turns) (kept_turns c turns) (alone_has turns)

  turn_front : (b : Bool) (turn : Turn) (turns : List Turn) → last_front [] turns ≡ [] → last_front [] (cond b (at_first turn ∷ turns) turns) ≡ []
  turn_front true turn turns so_far = so_far
  turn_front false turn turns so_far = so_far

  alone_front : (turns : List Turn) → last_front [] (alone turns) ≡ []
  alone_front [] = refl
  alone_front (turn ∷ turns) = turn_front (is_turn_kept c turn) turn (alone turns) (alone_front turns)

  module _ (apart : ChangesStandApart) (recovers : DeskIsRecovered) (place : ℕ) (operator : Operator) where
    does_by : (b : Bool) (front : List Publication) (rows : Rows) (request : Request) → may_change (call_of c request) ≡ true
        → cond b (own_step c operator front rows request) (refused (refusal_of (call_of c request)), rows)
        ≡ cond b (own_step c operator [] rows request) (refused (refusal_of (call_of c request)), rows)
    does_by true front rows request may = apart c operator front [] rows request may
    does_by false front rows request may = refl

    kept_stands : (known : List Publication) (rows after : Rows) (turn : Turn) → is_turn_kept c turn ≡ true
        → IsTurn c place operator known rows turn after → IsTurn c place operator [] rows (at_first turn) after
    kept_stands known rows after turn is t =
        let may = both_true (may_change (call_of c turn.request)) _ is in
        let same : desk_does c place operator turn.front rows turn.request ≡ desk_does c place operator [] rows turn.request =
        does_by (is_of c place turn.request) turn.front rows turn.request may.0 in
        record {
          begins = prefix_self [];
          answer = elim t.answer [
            | inl does ↦ inl (does.0 ∙ ap (λ (x : Reply × Rows). x.0) same, does.1 ∙ ap (λ (x : Reply × Rows). x.1) same)
            | inr out ↦ inr out
          ];
        }

    others_leave : (known : List Publication) (rows after : Rows) (turn : Turn) → is_turn_kept c turn ≡ false
        → IsTurn c place operator known rows turn after → rows ≡ after
    others_leave known rows after turn is t =
        (recovers c place operator known [] rows after rows (turn ∷ []) [] (after, t, refl) refl
        (tt, ap (λ (b : Bool). requests_in (cond b (turn ∷ []) [])) (sym is))).1

    turn_stands : (b : Bool) (known : List Publication) (rows between after : Rows) (turn : Turn) (turns : List Turn) → is_turn_kept c turn ≡ b
        → IsTurn c place operator known rows turn between → AreTurns c place operator [] between turns after
        → AreTurns c place operator [] rows (cond b (at_first turn ∷ turns) turns) after
    turn_stands true known rows between after turn turns is t on = (between, kept_stands known rows between turn is t, on)
    turn_stands false known rows between after turn turns is t on =
        subst (λ (r : Rows). AreTurns c place operator [] r turns after) (sym (others_leave known rows between turn is t)) on

    alone_are : (known : List Publication) (rows after : Rows) (turns : List Turn) → AreTurns c place operator known rows turns after
        → AreTurns c place operator [] rows (alone turns) after
    alone_are known rows after [] are = are
    alone_are known rows after (turn ∷ turns) are =
        turn_stands (is_turn_kept c turn) known rows are.0 after turn (alone turns) refl are.1 (alone_are turn.front are.0 after turns are.2)

    pub desk_first : (publications : List Publication) (rows : Rows) (turns whole : List Turn) → IsPrefix turns whole
        → AreTurns c place operator [] empty whole rows
        → (after : Rows) × AreTurns c place operator [] empty (alone turns) after × IsPrefix (last_front [] (alone turns)) publications
    desk_first publications rows turns whole within are =
        let cut = cut_turns c place operator [] empty rows turns within.0
        (subst (λ (ts : List Turn). AreTurns c place operator [] empty ts rows) (sym within.1) are) in
        (cut.0, alone_are [] empty cut.0 turns cut.1, (publications, ap (λ (l : List Publication). l ++ publications) (alone_front turns)))

pub of_one_server : ChangesStandApart → DeskIsRecovered → PrefixesAreOfOneServer
of_one_server apart recovers c front rest whole one =
    let cut = fronts c front rest whole.exchanges whole.turns one.journal in
    let shown = published_first c (new_server c) cut.0 whole.exchanges whole.publications cut.3 (one.served.drafts, one.served.room) in
    let first : Work = record { exchanges = cut.0; publications = shown.0; turns = λ place. alone c (cut.1 place) } in (
      first,
      record {
        served = record {
          drafts = shown.1.0;
          room = shown.1.1;
          desks = λ place operator is.
              let own = one.served.desks place operator is in
              desk_first c apart recovers place operator shown.0 own.0 (cut.1 place) (whole.turns place) (cut.4 place) own.1;
        };
        journal = record {
          author = cut.2.author;
          operators = λ place operator is. cut.2.operators place operator is ∙ sym (alone_asks c (cut.1 place));
        };
      },
      cut.3,
      λ place operator is. (cut.1 place, cut.4 place, alone_has c (cut.1 place)),
    )
