-- Prefixes of filtered and mapped lists.
use Rattle.std.proofs.Common.{◌≡◌, ℕ, Bool, true, false, cond, List, [], ◌∷◌, ◌++◌, map, drop, get_or, Option, Some, None, refl, sym, ap, ◌∙◌}
use Rattle.std.specs.List.{filter}
use Rattle.std.specs.Prelude.{slice_get}
use Rattle.mds_request.specs.Configuration.{Configuration, Operator}
use Rattle.mds_request.specs.Request.{Request}
use Rattle.mds_request.specs.declared.config.Actor.TheVariants.{Author, Operator as OperatorAt}
use Rattle.mds_machine.specs.Step.{Exchange}
use Rattle.mds_machine.specs.Fronts.{Turn, requests_in}
use Rattle.mds_machine.specs.Room.{is_authors, authors_in}
use Rattle.journal_laws.specs.Persisted.{is_kept, kept}
use Rattle.journal_laws.specs.Persisted.{requests_in as room_requests_in}
use Rattle.journal_laws.specs.Servers.{kept_turns}
use Rattle.journal_recovery.specs.Laws.{requests_by, is_turn_kept, FrontsAreJournals}
use Rattle.journal_recovery.proofs.Lists.{none_some}
use Rattle.journal_recovery.proofs.Grows.{requests_of_both}

pub first_is : {X : Type 0} (a b : X) (xs ys : List X) → a ∷ xs ≡ b ∷ ys → a ≡ b
first_is a b xs ys e = ap (λ l. get_or l 0 a) e

pub others_are : {X : Type 0} (a b : X) (xs ys : List X) → a ∷ xs ≡ b ∷ ys → xs ≡ ys
others_are a b xs ys e = ap (λ l. drop 1 l) e

pub no_first : {X : Type 0} (a : X) (xs : List X) → a ∷ xs ≡ [] → ⊥
no_first a xs e = absurd cc

-- a prefix of a mapped list is the map of a prefix
abbrev MapsFront : {X Y : Type 0} → (X → Y) → List X → List Y → Type 0
MapsFront {X} f xs front = (before : List X) × (later : List X) × (xs ≡ before ++ later) × (front ≡ map f before)

maps_front : {X Y : Type 0} (f : X → Y) (xs : List X) (front rest : List Y) → front ++ rest ≡ map f xs → MapsFront f xs front
maps_front f xs [] rest e = ([], xs, refl, refl)
maps_front f [] (a ∷ front) rest e = absurd (no_first a (front ++ rest) e)
maps_front f (x ∷ xs) (a ∷ front) rest e =
    let on = maps_front f xs front rest (others_are a (f x) (front ++ rest) (map f xs) e) in
    let first : a ≡ f x = first_is a (f x) (front ++ rest) (map f xs) e in
    (x ∷ on.0, on.1, ap (λ l. x ∷ l) on.2, ap (λ y. y ∷ front) first ∙ ap (λ l. f x ∷ l) on.3)

-- a prefix of a filtered list is the filter of a prefix
abbrev KeepsFront : {X : Type 0} → (X → Bool) → List X → List X → Type 0
KeepsFront {X} p xs front = (before : List X) × (later : List X) × (xs ≡ before ++ later) × (filter p before ≡ front)

keeps : {X : Type 0} (p : X → Bool) (x : X) (xs : List X) (b : Bool) → p x ≡ b → filter p (x ∷ xs) ≡ cond b (x ∷ filter p xs) (filter p xs)
keeps p x xs b is = ap (λ (c : Bool). cond c (x ∷ filter p xs) (filter p xs)) is

keeps_by : {X : Type 0} (p : X → Bool) (x : X) (xs front rest : List X) (b : Bool) → p x ≡ b
    → ((front rest : List X) → filter p xs ≡ front ++ rest → KeepsFront p xs front)
    → cond b (x ∷ filter p xs) (filter p xs) ≡ front ++ rest → KeepsFront p (x ∷ xs) front
keeps_by p x xs [] rest b is on e = ([], x ∷ xs, refl, refl)
keeps_by p x xs (a ∷ front) rest true is on e =
    let s = on front rest (others_are x a (filter p xs) (front ++ rest) e) in
    let first : x ≡ a = first_is x a (filter p xs) (front ++ rest) e in
    (x ∷ s.0, s.1, ap (λ l. x ∷ l) s.2, keeps p x s.0 true is ∙ ap (λ l. x ∷ l) s.3 ∙ ap (λ y. y ∷ front) first)
keeps_by p x xs (a ∷ front) rest false is on e =
    let s = on (a ∷ front) rest e in
    (x ∷ s.0, s.1, ap (λ l. x ∷ l) s.2, keeps p x s.0 false is ∙ s.3)

keeps_front : {X : Type 0} (p : X → Bool) (xs front rest : List X) → filter p xs ≡ front ++ rest → KeepsFront p xs front
keeps_front p [] [] rest e = ([], [], refl, refl)
keeps_front p [] (a ∷ front) rest e = absurd (no_first a (front ++ rest) (sym e))
keeps_front p (x ∷ xs) front rest e = keeps_by p x xs front rest (p x) refl (keeps_front p xs) e

-- ---- of the author's exchanges, and of a desk's turns

abbrev pub AuthorsFront : Configuration → List Exchange → List Request → Type 0
AuthorsFront c history front =
    (before : List Exchange) × (later : List Exchange) × (history ≡ before ++ later) × (front ≡ room_requests_in (kept c (authors_in c before)))

pub authors_front : (c : Configuration) (history : List Exchange) (front rest : List Request)
    → front ++ rest ≡ room_requests_in (kept c (authors_in c history)) → AuthorsFront c history front
authors_front c history front rest e =
    let asked = maps_front (λ (x : Exchange). x.request) (kept c (authors_in c history)) front rest e in
    let own = keeps_front (is_kept c) (authors_in c history) asked.0 asked.1 asked.2 in
    let all = keeps_front (λ (x : Exchange). is_authors c x.request) history own.0 own.1 own.2 in
    (all.0, all.1, all.2, asked.3 ∙ ap room_requests_in (sym own.3) ∙ ap (λ (h : List Exchange). room_requests_in (kept c h)) (sym all.3))

-- where there is no operator, no turn is taken
abbrev pub TurnsFront : Configuration → Option Operator → List Turn → List Request → Type 0
TurnsFront c found turns front =
    (before : List Turn) × (later : List Turn) × (turns ≡ before ++ later)
    × ((operator : Operator) → found ≡ Some operator → front ≡ requests_in (kept_turns c before))

pub turns_front : (c : Configuration) (found : Option Operator) (turns : List Turn) (front rest : List Request)
    → ((operator : Operator) → found ≡ Some operator → front ++ rest ≡ requests_in (kept_turns c turns)) → TurnsFront c found turns front
turns_front c None turns front rest e = ([], turns, refl, λ operator is. absurd (none_some operator is))
turns_front c (Some o) turns front rest e =
    let asked = maps_front (λ (x : Turn). x.request) (kept_turns c turns) front rest (e o refl) in
    let own = keeps_front (is_turn_kept c) turns asked.0 asked.1 asked.2 in
    (own.0, own.1, own.2, λ operator is. asked.3 ∙ ap requests_in (sym own.3))

pub fronts : FrontsAreJournals
fronts c front rest history turns journal =
    let room = authors_front c history (requests_by c Author front) (requests_by c Author rest) (sym (requests_of_both c Author front rest) ∙ journal.author) in
    let at : (place : ℕ) → TurnsFront c (slice_get c.operators place) (turns place) (requests_by c (OperatorAt place) front) =
    λ place. turns_front c (slice_get c.operators place) (turns place) (requests_by c (OperatorAt place) front) (requests_by c (OperatorAt place) rest)
    (λ operator is. sym (requests_of_both c (OperatorAt place) front rest) ∙ journal.operators place operator is) in (
      room.0,
      λ place. (at place).0,
      record { author = room.3; operators = λ place operator is. (at place).3 operator is },
      (room.1, sym room.2),
      λ place. ((at place).1, sym (at place).2),
    )
