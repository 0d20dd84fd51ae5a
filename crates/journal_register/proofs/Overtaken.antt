-- What an owner that was overtaken sends does nothing, and while an owner stays only what it sends does anything.
use Rattle.std.proofs.Common.{◌≡◌, arith, Bool, true, false, List, [], ◌∷◌, inl, inr, refl, sym, ap, subst}
use Rattle.std.proofs.Common.{◌∙◌}
use Rattle.std.specs.Prelude.{nat_le, not, if◌then◌else◌, filter}
use Rattle.std.proofs.lemmas.Bool.{and_parts, both_ways, not-true, leb-true}
use Rattle.journal_register.specs.declared.owner.Owner.{Owner}
use Rattle.journal_register.specs.declared.transaction.Transaction.{Transaction}
use Rattle.journal_register.specs.Order.{is_owner}
use Rattle.journal_register.specs.Register.{Register, Message, holds, after, after_all}
use Rattle.journal_register.specs.Lawful.{IsLawful, AreLawful}
use Rattle.journal_register.specs.Laws.{is_overtaken, OvertakenForGood, OnlyTheOwnerWrites}
use Rattle.journal_register.proofs.Orders.{owner_itself}
use Rattle.journal_register.proofs.Rising.{each_after, holds_owner, IsLater, later_on, owner_step, owners}
use Rattle.journal_register.proofs.Rising.{owner_between}

-- ---- who was overtaken

not_holding : (b : Owner) (k : Register) (t : Transaction) → IsLater b k.owner → is_overtaken b t ≡ true
    → holds k t ≡ true → ⊥
not_holding b k t later late held = by later
  where
    is : t.owner ≡ k.owner
    is = holds_owner k t held

    parts : (not (is_owner t.owner b) ≡ true) × (nat_le t.owner.epoch b.epoch ≡ true)
    parts = and_parts (not (is_owner t.owner b)) (nat_le t.owner.epoch b.epoch) late

    by : IsLater b k.owner → ⊥
    by (inl e) =
        both_ways (is_owner t.owner b) (not-true (is_owner t.owner b) parts.0)
        (subst (λ o. is_owner o b ≡ true) (sym (is ∙ e)) (owner_itself b))
    by (inr less) =
        let le = leb-true t.owner.epoch b.epoch parts.1 in
        let e = ap (λ (o : Owner). o.epoch) is in
        omega arith

refused : (b : Owner) (k : Register) (m : Message) → IsLater b k.owner → is_overtaken b m.transaction ≡ true
    → after k m ≡ k
refused b k m later late =
    each_after (λ n. n ≡ k) k m (λ held. absurd (not_holding b k m.transaction later late held)) refl

by_late : (b : Owner) (k : Register) (m : Message) (ms rest : List Message) → IsLawful m.transaction → IsLater b k.owner
    → ((n : Register) → IsLater b n.owner → after_all n ms ≡ after_all n rest)
    → (late : Bool) → is_overtaken b m.transaction ≡ late
    → after_all (after k m) ms ≡ after_all k (if not late then m ∷ rest else rest)
by_late b k m ms rest lawful later again true e = ap (λ n. after_all n ms) (refused b k m later e) ∙ again k later
by_late b k m ms rest lawful later again false e =
    again (after k m) (later_on b k.owner (after k m).owner later (owner_step k m lawful))

over : (b : Owner) (sent : List Message) (k : Register) → AreLawful sent → IsLater b k.owner
    → after_all k sent ≡ after_all k (filter (λ m. not (is_overtaken b m.transaction)) sent)
over b [] k lawful later = refl
over b (m ∷ ms) k lawful later =
    by_late b k m ms (filter (λ n. not (is_overtaken b n.transaction)) ms) lawful.0 later (λ n. over b ms n lawful.1)
    (is_overtaken b m.transaction) refl

pub overtaken : OvertakenForGood
overtaken k sent lawful = over k.owner sent k lawful (inl refl)

-- ---- while the owner is the same

other_refused : (o : Owner) (k : Register) (m : Message) → k.owner ≡ o → is_owner m.transaction.owner o ≡ false
    → after k m ≡ k
other_refused o k m is other =
    each_after (λ n. n ≡ k) k m
    (λ held. absurd (both_ways (is_owner m.transaction.owner o) other
    (subst (λ x. is_owner x o ≡ true) (sym (holds_owner k m.transaction held ∙ is)) (owner_itself o)))) refl

by_own : (o : Owner) (k : Register) (m : Message) (ms rest : List Message) → k.owner ≡ o → (after k m).owner ≡ o
    → (after_all (after k m) ms).owner ≡ o
    → ((n : Register) → n.owner ≡ o → (after_all n ms).owner ≡ o → after_all n ms ≡ after_all n rest)
    → (own : Bool) → is_owner m.transaction.owner o ≡ own
    → after_all (after k m) ms ≡ after_all k (if own then m ∷ rest else rest)
by_own o k m ms rest is next last again true e = again (after k m) next last
by_own o k m ms rest is next last again false e =
    let same = other_refused o k m is e in
    ap (λ n. after_all n ms) same ∙ again k is (subst (λ (n : Register). (after_all n ms).owner ≡ o) same last)

only : (o : Owner) (sent : List Message) (k : Register) → AreLawful sent → k.owner ≡ o → (after_all k sent).owner ≡ o
    → after_all k sent ≡ after_all k (filter (λ m. is_owner m.transaction.owner o) sent)
only o [] k lawful is last = refl
only o (m ∷ ms) k lawful is last =
    let step = owner_step k m lawful.0 in
    let next = owner_between k.owner (after k m).owner (after_all (after k m) ms).owner step (owners
    (after k m) ms lawful.1) (last ∙ sym is) in
    by_own o k m ms (filter (λ n. is_owner n.transaction.owner o) ms) is (next ∙ is) last (λ n. only o ms n lawful.1)
    (is_owner m.transaction.owner o) refl

pub own : OnlyTheOwnerWrites
own k sent lawful last = only k.owner sent k lawful refl last
