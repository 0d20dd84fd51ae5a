-- What a register shows came, and what an answer means.
use Rattle.std.proofs.Common.{◌≡◌, ◌&&◌, arith, Bool, true, false, cond, List, [], ◌∷◌, inl, inr, refl}
use Rattle.std.proofs.Common.{sym, ap, subst, ◌∙◌}
use Rattle.std.specs.Prelude.{◌⊎◌, Option, Some, None, unwrap_or}
use Rattle.std.proofs.lemmas.Bool.{and_parts, and_cases, both_ways, true≢false, false_from_ne_true}
use Rattle.journal_register.specs.declared.owner.Owner.{Owner}
use Rattle.journal_register.specs.declared.head.Head.{Head}
use Rattle.journal_register.specs.declared.outcome.Answer.TheVariants.{Succeeded, Failed}
use Rattle.journal_register.specs.declared.outcome.Outcome.TheVariants.{Applied, Overtaken, Elsewhere}
use Rattle.journal_register.specs.declared.transaction.Transaction.{Transaction}
use Rattle.journal_register.specs.Order.{is_owner, is_head}
use Rattle.journal_register.specs.Outcomes.{shows_put, shows, outcome_of}
use Rattle.journal_register.specs.Register.{Register, Message, holds, after, after_all}
use Rattle.journal_register.specs.Lawful.{AreLawful}
use Rattle.journal_register.specs.Laws.{HasCome, PutsAlike, IsOnlyOne, WhatShowsCame, OutcomesAreRight}
use Rattle.journal_register.proofs.Orders.{same_owner, owner_itself, same_head}
use Rattle.journal_register.proofs.Rising.{each_after, holds_owner, IsLater, owner_step, owners, owner_between}

-- ---- what is put where it wasn't

put_owner : (put : Option Owner) (next owner : Owner) → is_owner next owner ≡ false
    → is_owner next (unwrap_or put owner) ≡ true
    → put ≡ Some next
put_owner None next owner was is = absurd (both_ways (is_owner next owner) was is)
put_owner (Some x) next owner was is = ap Some (sym (same_owner next x is))

put_head : (put : Option Head) (next head : Head) → is_head next head ≡ false → is_head next (unwrap_or put head) ≡ true
    → put ≡ Some next
put_head None next head was is = absurd (both_ways (is_head next head) was is)
put_head (Some x) next head was is = ap Some (sym (same_head next x is))

other_head : (sender owner : Owner) (next head : Head) → owner ≡ sender
    → (is_owner sender owner && is_head next head) ≡ false
    → is_head next head ≡ false
other_head sender owner next head is was = by (and_cases (is_owner sender owner) (is_head next head) was)
  where
    by : (is_owner sender owner ≡ false) ⊎ (is_head next head ≡ false) → is_head next head ≡ false
    by (inl other) =
        absurd (both_ways (is_owner sender owner) other (subst (λ o. is_owner sender o ≡ true) (sym is)
        (owner_itself sender)))
    by (inr e) = e

abbrev Alike : Owner → Option Owner → Option Head → Transaction → Type 0
Alike sender put_owner put_head other =
    ((next : Owner) × (put_owner ≡ Some next) × (other.new_owner ≡ Some next))
    ⊎ ((next : Head) × (put_owner ≡ None) × (put_head ≡ Some next) × (other.owner ≡ sender) ×
    (other.new_head ≡ Some next))

alike : (sender : Owner) (new_owner : Option Owner) (new_head : Option Head) (other : Transaction) (owner : Owner)
    (head : Head)
    → other.owner ≡ owner → (new_owner ≡ None → owner ≡ sender) → shows_put sender new_owner new_head owner head ≡ false
    → shows_put sender new_owner new_head (unwrap_or other.new_owner owner) (unwrap_or other.new_head head) ≡ true
    → Alike sender new_owner new_head other
alike sender (Some next) new_head other owner head same from was is = inl
    (next, refl, put_owner other.new_owner next owner was is)
alike sender None (Some next) other owner head same from was is =
    let parts = and_parts (is_owner sender (unwrap_or other.new_owner owner)) (is_head next
    (unwrap_or other.new_head head)) is in
    let before = other_head sender owner next head (from refl) was in
    inr (next, refl, refl, same ∙ from refl, put_head other.new_head next head before parts.1)
alike sender None None other owner head same from was is = absurd (true≢false (sym is))

-- the owner of a register that shows a head that was put
shown_owner : (sender : Owner) (new_owner : Option Owner) (new_head : Option Head) (owner : Owner) (head : Head)
    → new_owner ≡ None → shows_put sender new_owner new_head owner head ≡ true → owner ≡ sender
shown_owner sender (Some next) new_head owner head none is = absurd (different none)
  where
    different : Some next ≡ None → ⊥
    different e = cc
shown_owner sender None (Some next) owner head none is =
    sym (same_owner sender owner (and_parts (is_owner sender owner) (is_head next head) is).0)
shown_owner sender None None owner head none is = absurd (true≢false (sym is))

-- ---- what shows came

came_later : (k : Register) (m s : Message) (ss : List Message) → HasCome (after k s) m ss → HasCome k m (s ∷ ss)
came_later k m s ss come = (s ∷ come.0, come.1, ap (λ (l : List Message). s ∷ l) come.2, come.3)

came_now : (k : Register) (m s : Message) (ss : List Message) → s ≡ m → holds k s.transaction ≡ true
    → HasCome k m (s ∷ ss)
came_now k m s ss is held =
    ([], ss, ap (λ (x : Message). x ∷ ss) is, subst (λ (x : Message). holds k x.transaction ≡ true) is held)

-- one message puts what shows afterwards
puts_it : (k : Register) (m s : Message) → (m.transaction.new_owner ≡ None → k.owner ≡ m.transaction.owner)
    → shows m.transaction k.owner k.head ≡ false → shows m.transaction (after k s).owner (after k s).head ≡ true
    → (holds k s.transaction ≡ true) × PutsAlike m.transaction s.transaction
puts_it k m s from was =
    let t = m.transaction in
    each_after (λ n. shows t n.owner n.head ≡ true → (holds k s.transaction ≡ true) × PutsAlike t s.transaction) k s
    (λ held is. (
      held,
      alike t.owner t.new_owner t.new_head s.transaction k.owner k.head
          (holds_owner k s.transaction held) from was is,
    ))
    (λ is. absurd (both_ways (shows t k.owner k.head) was is))

by_shown : (k : Register) (m s : Message) (ss : List Message) → (m.transaction.new_owner ≡ None
    → k.owner ≡ m.transaction.owner)
    → shows m.transaction k.owner k.head ≡ false
    → (PutsAlike m.transaction s.transaction → s ≡ m)
    → (shows m.transaction (after k s).owner (after k s).head ≡ false → HasCome (after k s) m ss)
    → (now : Bool) → shows m.transaction (after k s).owner (after k s).head ≡ now → HasCome k m (s ∷ ss)
by_shown k m s ss from was one again true e =
    let put = puts_it k m s from was e in
    came_now k m s ss (one put.1) put.0
by_shown k m s ss from was one again false e = came_later k m s ss (again e)

-- between a register with the sender as its owner and one that shows the head that it put, the owner is the same
stays : (k n last : Register) (t : Transaction) → IsLater k.owner n.owner → IsLater n.owner last.owner
    → k.owner ≡ t.owner
    → t.new_owner ≡ None → shows t last.owner last.head ≡ true → n.owner ≡ t.owner
stays k n last t one two is none ends =
    let there = shown_owner t.owner t.new_owner t.new_head last.owner last.head none ends in
    owner_between k.owner n.owner last.owner one two (there ∙ sym is) ∙ is

came : (m : Message) (sent : List Message) (k : Register) → AreLawful sent → IsOnlyOne m sent
    → (m.transaction.new_owner ≡ None → k.owner ≡ m.transaction.owner)
    → shows m.transaction k.owner k.head ≡ false
    → shows m.transaction (after_all k sent).owner (after_all k sent).head ≡ true → HasCome k m sent
came m [] k lawful one from was is = absurd (both_ways (shows m.transaction k.owner k.head) was is)
came m (s ∷ ss) k lawful one from was is =
    let n = after k s in
    let last = after_all n ss in
    by_shown k m s ss from was one.0
    (λ e. came m ss n lawful.1 one.1
    (λ none. stays k n last m.transaction (owner_step k s lawful.0) (owners n ss lawful.1) (from none) none is) e is)
    (shows m.transaction n.owner n.head) refl

pub shown : WhatShowsCame
shown k m sent lawful one is was shows = came m sent k lawful one (λ _. is) was shows

-- ---- what an answer means

applied_tells : (a b : Bool) → cond a Applied (cond b Elsewhere Overtaken) ≡ Applied → a ≡ true
applied_tells true b e = refl
applied_tells false true e = cc
applied_tells false false e = cc

overtaken_tells : (a b : Bool) → cond a Applied (cond b Elsewhere Overtaken) ≡ Overtaken → b ≡ false
overtaken_tells true b e = cc
overtaken_tells false true e = cc
overtaken_tells false false e = refl

never : (k n last : Register) (t : Transaction) → IsLater k.owner n.owner → IsLater n.owner last.owner
    → k.owner ≡ t.owner
    → is_owner t.owner n.owner ≡ false → t.owner ≡ last.owner → ⊥
never k n last t (inl e) later is other there =
    both_ways (is_owner t.owner n.owner) other (subst (λ o. is_owner t.owner o ≡ true) (sym (e ∙ is))
    (owner_itself t.owner))
never k n last t (inr less) (inl e) is other there =
    let one = ap (λ (o : Owner). o.epoch) is in
    let two = ap (λ (o : Owner). o.epoch) there in
    let three = ap (λ (o : Owner). o.epoch) e in
    omega arith
never k n last t (inr less) (inr more) is other there =
    let one = ap (λ (o : Owner). o.epoch) is in
    let two = ap (λ (o : Owner). o.epoch) there in
    omega arith

never_again : (k : Register) (t : Transaction) (sent more : List Message) → AreLawful sent → AreLawful more
    → k.owner ≡ t.owner
    → is_owner t.owner (after_all k sent).owner ≡ false → holds (after_all (after_all k sent) more) t ≡ false
never_again k t sent more lawful lawful_more is other =
    let n = after_all k sent in
    let last = after_all n more in
    false_from_ne_true (holds last t)
    (λ held. never k n last t (owners k sent lawful) (owners n more lawful_more) is other (holds_owner last t held))

applied_or_not : Applied ≡ Overtaken → ⊥
applied_or_not e = cc

means : (k : Register) (m : Message) (sent more : List Message) → AreLawful sent → AreLawful more → IsOnlyOne m sent
    → k.owner ≡ m.transaction.owner → shows m.transaction k.owner k.head ≡ false
    → (held : Bool) → holds (after_all k sent) m.transaction ≡ held
    → (outcome_of m.transaction (cond held Succeeded (Failed (after_all k sent).owner
    (after_all k sent).head)) ≡ Applied
    → HasCome k m sent ⊎ (holds (after_all k sent) m.transaction ≡ true))
    × (outcome_of m.transaction (cond held Succeeded (Failed (after_all k sent).owner
    (after_all k sent).head)) ≡ Overtaken
    → holds (after_all (after_all k sent) more) m.transaction ≡ false)
means k m sent more lawful lawful_more one is was true e = (λ _. inr e, λ wrong. absurd (applied_or_not wrong))
means k m sent more lawful lawful_more one is was false e = (
  λ applied. inl (shown k m sent lawful one is was
      (applied_tells (shows m.transaction (after_all k sent).owner (after_all k sent).head)
      (is_owner m.transaction.owner (after_all k sent).owner) applied)),
  λ overtaken. never_again k m.transaction sent more lawful lawful_more is
      (overtaken_tells (shows m.transaction (after_all k sent).owner (after_all k sent).head)
      (is_owner m.transaction.owner (after_all k sent).owner) overtaken),
)

pub outcomes : OutcomesAreRight
outcomes k m sent more lawful lawful_more one is was =
    means k m sent more lawful lawful_more one is was (holds (after_all k sent) m.transaction) refl
