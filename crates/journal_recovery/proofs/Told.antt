-- The first of what was done, with all that was told.
use mathlib.Core.List.{IsPrefix}
use Rattle.std.proofs.Common.{◌≡◌, ◌⊎◌, ℕ, List, [], ◌∷◌, ◌++◌, Option, Some, None, inl, inr, refl, sym, ap, subst, ◌∙◌}
use Rattle.std.specs.Prelude.{slice_get}
use Rattle.std.proofs.lemmas.List.{append-nil, append_assoc}
use Rattle.mds_catalog.specs.Publication.{Publication}
use Rattle.mds_request.specs.Configuration.{Configuration, Operator}
use Rattle.mds_request.specs.Request.{Request}
use Rattle.mds_request.specs.declared.config.Actor.TheVariants.{Author, Operator as OperatorAt}
use Rattle.mds_machine.specs.Fronts.{Turn, requests_in}
use Rattle.mds_machine.specs.Room.{authors_in}
use Rattle.mds_machine.specs.Step.{Exchange}
use Rattle.journal_laws.specs.Persisted.{kept}
use Rattle.journal_laws.specs.Persisted.{requests_in as room_requests_in}
use Rattle.journal_laws.specs.Servers.{kept_turns}
use Rattle.journal_entry.specs.Entries.{Entry}
use Rattle.journal_recovery.specs.Recovery.{Server}
use Rattle.journal_recovery.specs.Laws.{IsJournalOf, requests_by}
use Rattle.journal_recovery.specs.Owners.{HavePublished, HaveRecordsOf, IsFirstOf, PrefixesIncludeReplies, Work}
use Rattle.journal_recovery.proofs.Answered.{prefix_self}
use Rattle.journal_recovery.proofs.Fronts.{authors_front, first_is, no_first, others_are, turns_front}
use Rattle.journal_recovery.proofs.Grows.{requests_of_both}
use Rattle.journal_recovery.proofs.Lists.{none_some}
use Rattle.journal_recovery.proofs.Owners.{desk_asks, prefixes_have_published, room_asks}

-- of two prefixes of a list, one is a prefix of the other
either_is : {X : Type 0} (a b rest others : List X) → a ++ rest ≡ b ++ others → IsPrefix a b ⊎ IsPrefix b a
either_is [] b rest others e = inl (b, refl)
either_is (x ∷ a) [] rest others e = inr (x ∷ a, refl)
either_is (x ∷ a) (y ∷ b) rest others e =
    let first : x ≡ y = first_is x y (a ++ rest) (b ++ others) e in
    elim (either_is a b rest others (others_are x y (a ++ rest) (b ++ others) e)) [
      | inl p ↦ inl (p.0, ap (λ l. x ∷ l) p.1 ∙ ap (λ z. z ∷ b) first)
      | inr p ↦ inr (p.0, ap (λ l. y ∷ l) p.1 ∙ ap (λ z. z ∷ a) (sym first))
    ]

nothing_behind : {X : Type 0} (xs more : List X) → xs ++ more ≡ xs → more ≡ []
nothing_behind [] more e = e
nothing_behind (x ∷ xs) more e = nothing_behind xs more (others_are x x (xs ++ more) xs e)

first_none : {X : Type 0} (xs more : List X) → xs ++ more ≡ [] → xs ≡ []
first_none [] more e = refl
first_none (x ∷ xs) more e = absurd (no_first x (xs ++ more) e)

-- the first elements, with those that were told, of which just these requests are asked
abbrev Has : {X : Type 0} → (List X → List Request) → List X → List X → List Request → Type 0
Has {X} asks told whole front = (first : List X) × IsPrefix told first × IsPrefix first whole × (front ≡ asks first)

module _ {X : Type 0} (asks : List X → List Request) (both : (xs ys : List X) → asks (xs ++ ys) ≡ asks xs ++ asks ys) where
  no_more : (before told : List X) (front : List Request) → front ≡ asks before → IsPrefix (asks told) front → IsPrefix before told → front ≡ asks told
  no_more before told front is has more =
      let told_asks : asks told ≡ front ++ asks more.0 = ap asks (sym more.1) ∙ both before more.0 ∙ ap (λ (rs : List Request). rs ++ asks more.0) (sym is) in
      let none : asks more.0 ++ has.0 ≡ [] = nothing_behind front (asks more.0 ++ has.0)
      (sym (append_assoc front (asks more.0) has.0) ∙ ap (λ (rs : List Request). rs ++ has.0) (sym told_asks) ∙ has.1) in
      sym (append-nil front) ∙ ap (λ (rs : List Request). front ++ rs) (sym (first_none (asks more.0) has.0 none)) ∙ sym told_asks

  longer : (before later told whole : List X) (front : List Request) → whole ≡ before ++ later → front ≡ asks before → IsPrefix told whole
      → IsPrefix (asks told) front → Has asks told whole front
  longer before later told whole front parts is within has =
      elim (either_is told before within.0 later (within.1 ∙ parts)) [
        | inl p ↦ (before, p, (later, sym parts), is)
        | inr p ↦ (told, prefix_self told, within, no_more before told front is has p)
      ]

abbrev room_asked : Configuration → List Exchange → List Request
room_asked c history = room_requests_in (kept c (authors_in c history))

abbrev desk_asked : Configuration → List Turn → List Request
desk_asked c turns = requests_in (kept_turns c turns)

-- the turns of a desk, if there is one
abbrev Turns : Option Operator → Configuration → List Turn → List Turn → List Request → Type 0
Turns found c told whole front =
    (first : List Turn) × IsPrefix told first × IsPrefix first whole × ((operator : Operator) → found ≡ Some operator → front ≡ desk_asked c first)

desk_first : (c : Configuration) (found : Option Operator) (told whole : List Turn) (front rest : List Request) → IsPrefix told whole
    → ((operator : Operator) → found ≡ Some operator → front ++ rest ≡ desk_asked c whole)
    → ((operator : Operator) → found ≡ Some operator → IsPrefix (desk_asked c told) front) → Turns found c told whole front
desk_first c None told whole front rest within is has = (told, prefix_self told, within, λ operator found. absurd (none_some operator found))
desk_first c (Some o) told whole front rest within is has =
    let cut = turns_front c (Some o) whole front rest is in
    let all = longer (desk_asked c) (desk_asks c) cut.0 cut.1 told whole front cut.2 (cut.3 o refl) within (has o refl) in
    (all.0, all.1, all.2, λ operator found. all.3)

pub published_first : (c : Configuration) (s : Server) (first whole : List Exchange) (publications : List Publication) → IsPrefix first whole
    → HavePublished c s whole publications → (shown : List Publication) × HavePublished c s first shown
published_first c s first whole publications within have =
    let shown = prefixes_have_published c s first within.0 publications
    (subst (λ (h : List Exchange). HavePublished c s h publications) (sym within.1) have) in
    (shown.0, shown.1)

desk_journal : (c : Configuration) (front rest : List Entry) (told whole : Work) → IsJournalOf c (front ++ rest) whole.exchanges whole.turns
    → IsFirstOf told whole → HaveRecordsOf c front told → (place : ℕ)
    → Turns (slice_get c.operators place) c (told.turns place) (whole.turns place) (requests_by c (OperatorAt place) front)
desk_journal c front rest told whole journal order have place =
    desk_first c (slice_get c.operators place) (told.turns place) (whole.turns place) (requests_by c (OperatorAt place) front)
    (requests_by c (OperatorAt place) rest) (order.turns place)
    (λ operator is. sym (requests_of_both c (OperatorAt place) front rest) ∙ journal.operators place operator is)
    (λ operator is. have.operators place operator is)

pub include_replies : PrefixesIncludeReplies
include_replies c s front rest told whole done journal order have =
    let cut = authors_front c whole.exchanges (requests_by c Author front) (requests_by c Author rest)
    (sym (requests_of_both c Author front rest) ∙ journal.author) in
    let room = longer (room_asked c) (room_asks c) cut.0 cut.1 told.exchanges whole.exchanges (requests_by c Author front) cut.2 cut.3 order.exchanges have.author in
    let at = desk_journal c front rest told whole journal order have in
    let shown = published_first c s room.0 whole.exchanges whole.publications room.2 (done.drafts, done.room) in (
      record { exchanges = room.0; publications = shown.0; turns = λ place. (at place).0 },
      record { author = room.3; operators = λ place operator is. (at place).3 operator is },
      record { exchanges = room.1; turns = λ place. (at place).1 },
      record { exchanges = room.2; turns = λ place. (at place).2 },
      shown.1,
    )
