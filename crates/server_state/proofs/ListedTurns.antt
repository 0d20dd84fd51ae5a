-- The list of a desk's turns grows with them.
use Rattle.std.proofs.Common.{◌≡◌, ℕ, Bool, true, false, not, ◌||◌, List, [], ◌∷◌, ◌++◌, Option, Some, None, Result, Ok, Err, IfOk, OnErr, MatchResult, refl, sym, ap, subst, ◌∙◌, append_assoc}
use Rattle.std.proofs.lemmas.List.{append-nil}
use Rattle.std.proofs.Math.Logic.{∥∥₁_map}
use Rattle.mds_catalog.specs.Publication.{Publication}
use Rattle.mds_request.specs.Configuration.{Configuration}
use Rattle.mds_request.specs.Request.{Request}
use Rattle.mds_request.specs.Reply.{Reply}
use Rattle.mds_desk.specs.Desk.{DeskState}
use Rattle.mds_desk.specs.Laws.{Event, Becomes, answered, ran, learnt}
use Rattle.server_state.specs.Query.{Looks}
use Rattle.server_state.specs.Turn.{IsDeskAt, IsTold, TakesToldRun, TakesToldTurn}
use Rattle.server_state.specs.TurnItem.{TurnItem, Answered, Ran}
use Rattle.server_state.specs.TurnList.{AreTurnsOf, IsToldTurn, items_of, opened_as}

becomes_more : (first mid last : DeskState) (events more : List Event) → Becomes first events mid → Becomes mid more last → Becomes first (events ++ more) last
becomes_more first mid last [] more is rest = subst (λ (d : DeskState). Becomes d more last) is rest
becomes_more first mid last (answered request reply ∷ events) more (between, takes, then) rest =
    (between, takes, becomes_more between mid last events more then rest)
becomes_more first mid last (ran requests replies ∷ events) more (between, takes, then) rest =
    (between, takes, becomes_more between mid last events more then rest)
becomes_more first mid last (learnt list ∷ events) more (between, learns, then) rest =
    (between, learns, becomes_more between mid last events more then rest)

items_more : (events more : List Event) → items_of (events ++ more) ≡ items_of events ++ items_of more
items_more [] more = refl
items_more (answered request reply ∷ events) more = ap (λ (items : List TurnItem). Answered request reply ∷ items) (items_more events more)
items_more (ran requests replies ∷ events) more = ap (λ (items : List TurnItem). Ran requests replies ∷ items) (items_more events more)
items_more (learnt list ∷ events) more = items_more events more

-- the call by which a desk learns a note
abbrev told_events : Option (List Publication) → List Event
told_events None = []
told_events (Some list) = learnt list ∷ []

told_becomes : (d : DeskState) (note : Option (List Publication)) (told : DeskState) → IsTold d note told → Becomes d (told_events note) told
told_becomes d None told is = is
told_becomes d (Some list) told learns = (told, learns, refl)

told_items : (note : Option (List Publication)) (more : List Event) → items_of (told_events note ++ more) ≡ items_of more
told_items None more = refl
told_items (Some list) more = refl

module _ (configuration : Configuration) (place : ℕ) where
  grown : (items all : List TurnItem) (events : List Event) (d next : DeskState) → AreTurnsOf configuration place items d → Becomes d events next
      → all ≡ items ++ items_of events → AreTurnsOf configuration place all next
  grown items all events d next are becomes is =
      record {
        first = are.first;
        events = are.events ++ events;
        is_its = are.is_its;
        items_are = is ∙ ap (λ (xs : List TurnItem). xs ++ items_of events) are.items_are ∙ append_assoc (opened_as are.first) (items_of are.events) (items_of events)
            ∙ ap (λ (xs : List TurnItem). opened_as are.first ++ xs) (sym (items_more are.events events));
        becomes = becomes_more are.first d next are.events events are.becomes becomes;
      }

  -- behind a note that was learnt
  grown_told : (items all : List TurnItem) (note : Option (List Publication)) (event : List Event) (d told next : DeskState)
      → AreTurnsOf configuration place items d → IsTold d note told → Becomes told event next → all ≡ items ++ items_of event → AreTurnsOf configuration place all next
  grown_told items all note event d told next are learns becomes is =
      grown items all (told_events note ++ event) d next are (becomes_more d told next (told_events note) event (told_becomes d note told learns) becomes)
      (is ∙ ap (λ (xs : List TurnItem). items ++ xs) (sym (told_items note event)))

  -- no turn yet
  pub none_yet : (d : DeskState) → IsDeskAt configuration place d → AreTurnsOf configuration place (opened_as d) d
  none_yet d its = record { first = d; events = []; is_its = its; items_are = refl; becomes = refl }

  -- one more turn
  pub one_more : (items all : List TurnItem) (note : Option (List Publication)) (request : Request) (reply : Reply) (d next : DeskState)
      → AreTurnsOf configuration place items d → TakesToldTurn d note request reply next → all ≡ items ++ Answered request reply ∷ [] → AreTurnsOf configuration place all next
  one_more items all note request reply d next are takes is =
      grown_told items all note (answered request reply ∷ []) d takes.told next are takes.learns (next, takes.turn, refl) is

  -- one more run of turns
  pub run_more : (items all : List TurnItem) (note : Option (List Publication)) (requests : List Request) (replies : List Reply) (d next : DeskState)
      → AreTurnsOf configuration place items d → TakesToldRun d note requests replies next → all ≡ items ++ Ran requests replies ∷ [] → AreTurnsOf configuration place all next
  run_more items all note requests replies d next are takes is =
      grown_told items all note (ran requests replies ∷ []) d takes.told next are takes.learns (next, takes.run, refl) is

  -- no turn, and a note that was learnt
  pub told_more : (items : List TurnItem) (note : Option (List Publication)) (d next : DeskState) → AreTurnsOf configuration place items d → IsTold d note next
      → AreTurnsOf configuration place items next
  told_more items note d next are learns = grown_told items items note [] d next next are learns refl (sym (append-nil items))

  -- no turn, and a look
  pub look_more : (items : List TurnItem) (note : Option (List Publication)) (d next : DeskState) → AreTurnsOf configuration place items d → Looks d note next
      → AreTurnsOf configuration place items next
  look_more items note d next are looks =
      grown_told items items note (learnt next.known ∷ []) d looks.told next are looks.learns (next, looks.learnt, refl) (sym (append-nil items))

  pub none_lost : (lost listed after : Bool) → after ≡ (lost || not listed) → after ≡ false → (lost ≡ false) × (listed ≡ true)
  none_lost false true after is kept = (refl, refl)
  none_lost false false after is kept = absurd (cc (is, kept))
  none_lost true listed after is kept = absurd (cc (is, kept))

  abbrev pub Listed : Bool → List TurnItem → DeskState → Type 0
  Listed lost items d = lost ≡ false → AreTurnsOf configuration place items d

  -- what a lock's desk keeps, over one more turn
  pub turn_listed : (lost listed after : Bool) (items all : List TurnItem) (note : Option (List Publication)) (request : Request) (reply : Reply) (d next : DeskState)
      → ∥ Listed lost items d ∥₁ → TakesToldTurn d note request reply next → after ≡ (lost || not listed) → (listed ≡ true → all ≡ items ++ Answered request reply ∷ [])
      → ∥ Listed after all next ∥₁
  turn_listed lost listed after items all note request reply d next were takes is added =
      ∥∥₁_map were (λ are kept.
      let both = none_lost lost listed after is kept in
      one_more items all note request reply d next (are both.0) takes (added both.1))

  -- over a run of turns, or none where there was no memory for it
  pub run_listed : {V E : Type 0} (replies : V → List Reply) (lost listed after : Bool) (items all : List TurnItem) (note : Option (List Publication)) (requests : List Request)
      (run : Result V E) (d next : DeskState) → ∥ Listed lost items d ∥₁ → IfOk run (λ r. TakesToldRun d note requests (replies r) next) → OnErr run (IsTold d note next)
      → after ≡ (lost || not listed)
      → MatchResult run (λ r. listed ≡ true → all ≡ items ++ Ran requests (replies r) ∷ []) (λ _. (listed ≡ true) × (all ≡ items))
      → ∥ Listed after all next ∥₁
  run_listed replies lost listed after items all note requests (Ok r) d next were takes unasked is added =
      ∥∥₁_map were (λ are kept.
      let both = none_lost lost listed after is kept in
      run_more items all note requests (replies r) d next (are both.0) takes (added both.1))
  run_listed replies lost listed after items all note requests (Err e) d next were takes unasked is added =
      ∥∥₁_map were (λ are kept.
      let both = none_lost lost listed after is kept in
      subst (λ (xs : List TurnItem). AreTurnsOf configuration place xs next) (sym added.1) (told_more items note d next (are both.0) unasked))

  -- what a run adds to the list
  pub run_added : {V E : Type 0} (replies : V → List Reply) (lost listed after : Bool) (items all : List TurnItem) (requests : List Request) (run : Result V E)
      → after ≡ (lost || not listed) → MatchResult run (λ r. listed ≡ true → all ≡ items ++ Ran requests (replies r) ∷ []) (λ _. (listed ≡ true) × (all ≡ items))
      → IfOk run (λ r. after ≡ false → all ≡ items ++ Ran requests (replies r) ∷ [])
  run_added replies lost listed after items all requests (Ok r) is added = λ kept. added (none_lost lost listed after is kept).1
  run_added replies lost listed after items all requests (Err e) is added = tt

  -- over a look
  pub look_listed : (lost : Bool) (items : List TurnItem) (note : Option (List Publication)) (d next : DeskState) → ∥ Listed lost items d ∥₁ → Looks d note next
      → ∥ Listed lost items next ∥₁
  look_listed lost items note d next were looks = ∥∥₁_map were (λ are kept. look_more items note d next (are kept) looks)

  -- that turn is the last of the list
  pub is_last : (items all : List TurnItem) (request : Request) (reply : Reply) (d : DeskState) → ∥ AreTurnsOf configuration place all d ∥₁
      → all ≡ items ++ Answered request reply ∷ [] → ∥ IsToldTurn configuration place request reply all ∥₁
  is_last items all request reply d are is =
      ∥∥₁_map are (λ turns. record { before = items; after = d; last = is; turns = turns })
