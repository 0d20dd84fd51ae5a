-- In two histories that look the same to an operator its replies are the same.
use Rattle.std.proofs.Common.{◌≡◌, ◌≢◌, ℕ, Bool, true, false, cond, List, [], ◌∷◌, ◌++◌, map, Option, Some, None, inl, inr, refl, sym, ap, subst, ◌∙◌}
use Rattle.std.specs.List.{filter, slice_get}
use Rattle.std.specs.Option.{option_to_list}
use Rattle.std.proofs.lemmas.List.{append-nil, append_assoc, map-append}
use Rattle.std.proofs.lemmas.List.Elements.{filter-append}
use Rattle.mds_catalog.specs.Publication.{Publication}
use Rattle.mds_request.specs.Configuration.{Configuration, actor_of}
use Rattle.mds_request.specs.Reply.{Reply, refused}
use Rattle.mds_request.specs.declared.code.Code.TheVariants.{NoMemory}
use Rattle.mds_machine.specs.History.{draft_after, published_in}
use Rattle.mds_machine.specs.Isolation.{Agree, AreKeyed, HasMemory, IsIsolatedThroughout, replies_to, served_for}
use Rattle.mds_machine.specs.Laws.{IsAfter}
use Rattle.mds_machine.specs.Step.{State, Exchange, Step, Run, answered}
use Rattle.mds_machine.specs.Views.{Seen, asked, published, is_of, view}
use Rattle.mds_machine.proofs.Histories.{along, now_published, after_one, after_none}
use Rattle.mds_machine.proofs.Isolated.{rows_stay, whose, memory_before, memory_last, view_on}
use Rattle.mds_machine.proofs.Served.{served_memory, served_run}
use Rattle.mds_machine.proofs.Steps.{same_answer}

pub agree_back : (w v : State) (place : ℕ) → Agree w v place → Agree v w place
agree_back w v place agree = record { configuration = sym agree.configuration; publications = sym agree.publications; rows = sym agree.rows }

agree_on : (u v w : State) (place : ℕ) → Agree u v place → Agree v w place → Agree u w place
agree_on u v w place one two =
    record { configuration = one.configuration ∙ two.configuration; publications = one.publications ∙ two.publications; rows = one.rows ∙ two.rows }

-- ---- the state and the replies by a view alone

abbrev shown : State → Seen → State
shown w (asked request) = (answered w request).1
shown w (published p) = record { configuration = w.configuration; publications = w.publications ++ p ∷ []; drafts = w.drafts; fleets = w.fleets }

abbrev all_shown : State → List Seen → State
all_shown w [] = w
all_shown w (s ∷ seen) = all_shown (shown w s) seen

abbrev reply_shown : State → Seen → List Reply
reply_shown w (asked request) = (answered w request).0 ∷ []
reply_shown w (published p) = []

abbrev replies_shown : State → List Seen → List Reply
replies_shown w [] = []
replies_shown w (s ∷ seen) = reply_shown w s ++ replies_shown (shown w s) seen

shown_on : (w : State) (seen more : List Seen) → all_shown w (seen ++ more) ≡ all_shown (all_shown w seen) more
shown_on w [] more = refl
shown_on w (s ∷ seen) more = shown_on (shown w s) seen more

replies_on : (w : State) (seen more : List Seen) → replies_shown w (seen ++ more) ≡ replies_shown w seen ++ replies_shown (all_shown w seen) more
replies_on w [] more = refl
replies_on w (s ∷ seen) more =
    ap (λ rs. reply_shown w s ++ rs) (replies_on (shown w s) seen more)
    ∙ sym (append_assoc (reply_shown w s) (replies_shown (shown w s) seen) (replies_shown (all_shown (shown w s) seen) more))

-- ---- one more exchange

abbrev reply_if : Bool → Exchange → List Reply
reply_if own e = cond own (e.reply ∷ []) []

one_reply : (configuration : Configuration) (place : ℕ) (e : Exchange) (own : Bool) → is_of configuration place e.request ≡ own → replies_to configuration place (e ∷ []) ≡ reply_if own e
one_reply configuration place e true is = rw is refl
one_reply configuration place e false is = rw is refl

replies_to_on : (configuration : Configuration) (place : ℕ) (before : List Exchange) (e : Exchange) → replies_to configuration place (before ++ e ∷ []) ≡ replies_to configuration place before ++ reply_if (is_of configuration place e.request) e
replies_to_on configuration place before e =
    ap (λ es. map (λ (e : Exchange). e.reply) es) (filter-append (λ e. is_of configuration place e.request) before (e ∷ []))
    ∙ map-append (λ e. e.reply) (filter (λ e. is_of configuration place e.request) before) (filter (λ e. is_of configuration place e.request) (e ∷ []))
    ∙ ap (λ rs. replies_to configuration place before ++ rs) (one_reply configuration place e (is_of configuration place e.request) refl)

module _ (first other : State) (place : ℕ) where
  abbrev seen_by : List Exchange → List Seen
  seen_by before = view first.configuration first.drafts before place

  abbrev news : List Exchange → Exchange → Bool → List Seen
  news before e own =
      cond own (asked e.request ∷ []) (map published (option_to_list (published_in first.configuration (draft_after first.configuration first.drafts before) e)))

  -- a history changes a state as its view alone changes another
  abbrev Goes : List Exchange → State → Type 0
  Goes before w =
      Agree w (all_shown other (seen_by before)) place
      × (replies_to first.configuration place before ≡ replies_shown other (seen_by before))

  abbrev So : List Exchange → State → Type 0
  So before w = IsAfter first before w × (HasMemory first.configuration place before → Goes before w)

  -- one more exchange changes it as what is seen of the exchange does
  abbrev Follows : State → State → Exchange → Bool → List Seen → Type 0
  Follows u next e own more = Agree next (all_shown u more) place × (reply_if own e ≡ replies_shown u more)

  own_follows : (u w : State) (e : Exchange) (next : State) → w.configuration ≡ first.configuration → Agree w u place → is_of first.configuration place e.request ≡ true → Step w e.request e.reply next → e.reply ≢ refused NoMemory → Follows u next e true (asked e.request ∷ [])
  own_follows u w e next same agree own step really = elim step [
    | inl a ↦ let mine = ap (λ c. actor_of c e.request.token) same ∙ whose first.configuration place e.request own in
        let both = same_answer w u e.request place agree mine in
        (subst (λ s. Agree s (answered u e.request).1 place) (sym a.1) both.1, ap (λ reply. reply ∷ []) (a.0 ∙ both.0))
    | inr a ↦ absurd (really a.1)
  ]

  others_follow : (u w : State) (e : Exchange) (next : State) (made : Option Publication) → Agree w u place → next.configuration ≡ w.configuration → next.publications ≡ w.publications ++ option_to_list made → slice_get next.fleets place ≡ slice_get w.fleets place → Follows u next e false (map published (option_to_list made))
  others_follow u w e next None agree configuration publications rows = (
    record {
      configuration = configuration ∙ agree.configuration;
      publications = publications ∙ append-nil w.publications ∙ agree.publications;
      rows = rows ∙ agree.rows;
    },
    refl,
  )
  others_follow u w e next (Some p) agree configuration publications rows = (
    record {
      configuration = configuration ∙ agree.configuration;
      publications = publications ∙ ap (λ ps. ps ++ p ∷ []) agree.publications;
      rows = rows ∙ agree.rows;
    },
    refl,
  )

  follows : (before : List Exchange) (u w : State) (e : Exchange) (next : State) → IsAfter first before w → Agree w u place → Step w e.request e.reply next → (is_of first.configuration place e.request ≡ true → e.reply ≢ refused NoMemory) → (own : Bool) → is_of first.configuration place e.request ≡ own → Follows u next e own (news before e own)
  follows before u w e next is agree step really true own = own_follows u w e next is.configuration agree own step (really own)
  follows before u w e next is agree step really false others =
      others_follow u w e next (published_in first.configuration (draft_after first.configuration first.drafts before) e) agree
      ((after_one first before w e next is step).configuration ∙ sym is.configuration)
      (now_published first before w e next is step)
      (rows_stay w place e.request e.reply next (ap (λ c. is_of c place e.request) is.configuration ∙ others) step)

  goes_on : (before : List Exchange) (e : Exchange) (w next : State) → Goes before w → Follows (all_shown other (seen_by before)) next e (is_of first.configuration place e.request) (news before e (is_of first.configuration place e.request)) → Goes (before ++ e ∷ []) next
  goes_on before e w next goes follows =
      let more = news before e (is_of first.configuration place e.request) in
      let seen : seen_by (before ++ e ∷ []) ≡ seen_by before ++ more = view_on first place before e in (
        subst (λ s. Agree next s place) (sym (ap (all_shown other) seen ∙ shown_on other (seen_by before) more)) follows.0,
        replies_to_on first.configuration place before e
            ∙ ap (λ rs. rs ++ reply_if (is_of first.configuration place e.request) e) goes.1
            ∙ ap (λ rs. replies_shown other (seen_by before) ++ rs) follows.1
            ∙ sym (ap (replies_shown other) seen ∙ replies_on other (seen_by before) more),
      )

  on : (before : List Exchange) (w : State) (e : Exchange) (next : State) → So before w → Step w e.request e.reply next → So (before ++ e ∷ []) next
  on before w e next so step = (
    after_one first before w e next so.0 step,
    λ has. let goes = so.1 (memory_before first.configuration place before e has) in
        goes_on before e w next goes
        (follows before (all_shown other (seen_by before)) w e next so.0 goes.0 step (memory_last first.configuration place before e has) (is_of first.configuration place e.request) refl),
  )

  pub goes_by_view : (history : List Exchange) (next : State) → AreKeyed first.drafts → Agree first other place → Run first history next → HasMemory first.configuration place history → Goes history next
  goes_by_view history next keyed agree run has =
      (along So on [] history first next (after_none first keyed, λ h. (agree, refl)) run).1 has

pub is_isolated_throughout : IsIsolatedThroughout
is_isolated_throughout w next history keyed run v apart other place kept agree ran seen =
    let self : Agree w w place = record { configuration = refl; publications = refl; rows = refl } in
    let served = served_for w.configuration place history in
    let others = served_for v.configuration place other in
    let one = goes_by_view w w place served next keyed self (served_run w.configuration place history w next run) (served_memory w.configuration place history) in
    let two = goes_by_view v w place others apart kept (agree_back w v place agree) (served_run v.configuration place other v apart ran) (served_memory v.configuration place other) in (
      one.1 ∙ ap (replies_shown w) seen ∙ sym two.1,
      agree_on next (all_shown w (view v.configuration v.drafts others place)) apart place
          (subst (λ s. Agree next (all_shown w s) place) seen one.0) (agree_back apart (all_shown w (view v.configuration v.drafts others place)) place two.0),
    )
