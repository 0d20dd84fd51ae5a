-- What may become of a register while messages come of which each does nothing, or one thing.
use Rattle.std.proofs.Common.{◌≡◌, ℕ, ◌+◌, ◌<◌, ◌&&◌, ◌==◌, arith, Bool, true, cond, List, [], ◌∷◌, inl, inr, refl}
use Rattle.std.proofs.Common.{sym, ap, subst, ◌∙◌}
use Rattle.std.specs.Prelude.{◌⊎◌, suc, nat_lt, Option, Some, None, unwrap_or, IfSome, IsSomeAnd}
use Rattle.std.specs.List.{AllByRecursion}
use Rattle.std.proofs.lemmas.Bool.{and_parts, and_from, or_cases, or_left, or_right, ltb-true, lt-ltb, cond_both}
use Rattle.std.proofs.lemmas.Bool.{eqb-true, true≢false}
use Rattle.journal_register.specs.declared.owner.Owner.{Owner}
use Rattle.journal_register.specs.declared.head.Generation.{Generation}
use Rattle.journal_register.specs.declared.head.Head.{Head}
use Rattle.journal_register.specs.declared.transaction.ChunkKey.{ChunkKey}
use Rattle.journal_register.specs.declared.transaction.Transaction.{Transaction}
use Rattle.journal_register.specs.Order.{is_owner, is_generation, is_head, is_before}
use Rattle.journal_register.specs.Register.{Register, Message, has_head, holds, is_at, is_of, chunk_with, with_writes}
use Rattle.journal_register.specs.Register.{after, after_all}
use Rattle.journal_register.specs.Lawful.{IsLawful, AreLawful}
use Rattle.journal_register.proofs.Orders.{same_owner, same_generation, same_head, never_earlier, HasLess, IsBefore}
use Rattle.journal_register.proofs.Orders.{before_tells, owner_itself, head_itself}
use Rattle.journal_register.proofs.Rising.{each_after, holds_owner, holds_head, IsLater, owner_step, owners}
use Rattle.journal_remote.specs.Passing.{IsOwn, Goes}
use Rattle.journal_remote.specs.Kept.{IsOf, compares_earlier, AreSettled, is_current}
use Rattle.journal_remote.specs.Laid.{IsLaid}

-- ---- registers that differ in their revision alone

abbrev pub Alike : Register → Register → Type 0
Alike l k = (l.owner ≡ k.owner) × (l.head ≡ k.head) × (l.chunk ≡ k.chunk)

pub alike_itself : (k : Register) → Alike k k
alike_itself k = (refl, refl, refl)

pub alike_on : (m l k : Register) → Alike m l → Alike l k → Alike m k
alike_on m l k a b = (a.0 ∙ b.0, a.1 ∙ b.1, a.2 ∙ b.2)

pub alike_is : (l k : Register) → l ≡ k → Alike l k
alike_is l k e = (ap (λ (r : Register). r.owner) e, ap (λ (r : Register). r.head) e, ap (λ (r : Register). r.chunk) e)

pub holds_alike : (l k : Register) (t : Transaction) → Alike l k → holds l t ≡ true → holds k t ≡ true
holds_alike l k t a held =
    subst (λ h. (is_owner t.owner k.owner && has_head t.head h) ≡ true) a.1
    (subst (λ o. (is_owner t.owner o && has_head t.head l.head) ≡ true) a.0 held)

pub writes_alike : (l k : Register) (m : Message) → Alike l k → Alike (with_writes l m) (with_writes k m)
writes_alike l k m a =
    let owner : Owner → Owner = λ o. unwrap_or m.transaction.new_owner o in
    let head : Head → Head = λ h. unwrap_or m.transaction.new_head h in
    let put : (Generation → ℕ → Option (List ℕ)) → Generation → ℕ → Option (List ℕ) = λ c generation index.
    cond (is_at m.transaction.chunk generation index) (Some m.bytes)
    (cond (is_of m.transaction.deleted generation) None (c generation index)) in
    (ap owner a.0, ap head a.1, ap put a.2)

-- ---- who has come since

-- another owner has come; or the register is as the one or the other
abbrev pub IsEither : Owner → Register → Register → Register → Type 0
IsEither owner k w l = (owner.epoch < l.owner.epoch) ⊎ (Alike l k ⊎ Alike l w)

-- what the message does at the one does nothing, or makes it the other; and at the other nothing
pub record Keeps2 (k w : Register) (m : Message) : Type 0 where
  pub at_one : holds k m.transaction ≡ true → Alike (with_writes k m) k ⊎ Alike (with_writes k m) w
  pub at_other : holds w m.transaction ≡ true → Alike (with_writes w m) w

stays_over : (owner a b : Owner) → owner.epoch < a.epoch → IsLater a b → owner.epoch < b.epoch
stays_over owner a b less (inl e) = subst (λ (o : Owner). owner.epoch < o.epoch) (sym e) less
stays_over owner a b less (inr more) = omega arith

claim_or_not : (put : Option Owner) (sender owner : Owner) → IfSome put (λ next. next.epoch ≡ suc sender.epoch)
    → sender ≡ owner → (put ≡ None) ⊎ (owner.epoch < (unwrap_or put owner).epoch)
claim_or_not None sender owner claims is = inl refl
claim_or_not (Some next) sender owner claims is = let e = ap (λ (o : Owner). o.epoch) is in inr (omega arith)

step_one : (owner : Owner) (k w l : Register) (m : Message) → Keeps2 k w m → holds l m.transaction ≡ true
    → Alike l k → IsEither owner k w (with_writes l m)
step_one owner k w l m keeps held a = by (keeps.at_one (holds_alike l k m.transaction a held))
  where
    by : Alike (with_writes k m) k ⊎ Alike (with_writes k m) w → IsEither owner k w (with_writes l m)
    by (inl same) = inr (inl (alike_on (with_writes l m) (with_writes k m) k (writes_alike l k m a) same))
    by (inr moved) = inr (inr (alike_on (with_writes l m) (with_writes k m) w (writes_alike l k m a) moved))

step_other : (owner : Owner) (k w l : Register) (m : Message) → Keeps2 k w m → holds l m.transaction ≡ true
    → Alike l w → IsEither owner k w (with_writes l m)
step_other owner k w l m keeps held a =
    inr (inr (alike_on (with_writes l m) (with_writes w m) w (writes_alike l w m a)
    (keeps.at_other (holds_alike l w m.transaction a held))))

step_alike : (owner : Owner) (k w l : Register) (m : Message) → Keeps2 k w m → holds l m.transaction ≡ true
    → Alike l k ⊎ Alike l w → IsEither owner k w (with_writes l m)
step_alike owner k w l m keeps held (inl a) = step_one owner k w l m keeps held a
step_alike owner k w l m keeps held (inr a) = step_other owner k w l m keeps held a

step_held : (owner : Owner) (k w l : Register) (m : Message) → IsLawful m.transaction
    → (IsOf owner m.transaction → Keeps2 k w m) → l.owner ≡ owner → Alike l k ⊎ Alike l w
    → holds l m.transaction ≡ true → IsEither owner k w (with_writes l m)
step_held owner k w l m lawful own is a held =
    by (claim_or_not m.transaction.new_owner m.transaction.owner l.owner lawful.claims sender)
  where
    sender : m.transaction.owner ≡ l.owner
    sender = holds_owner l m.transaction held

    by : (m.transaction.new_owner ≡ None) ⊎ (l.owner.epoch < (unwrap_or m.transaction.new_owner l.owner).epoch)
        → IsEither owner k w (with_writes l m)
    by (inl none) = step_alike owner k w l m (own (sender ∙ is, none)) held a
    by (inr less) =
        inl (subst (λ (o : Owner). o.epoch < (unwrap_or m.transaction.new_owner l.owner).epoch) is less)

owner_of : (owner : Owner) (k w l : Register) → k.owner ≡ owner → w.owner ≡ owner → Alike l k ⊎ Alike l w
    → l.owner ≡ owner
owner_of owner k w l one other (inl a) = a.0 ∙ one
owner_of owner k w l one other (inr a) = a.0 ∙ other

step : (owner : Owner) (k w l : Register) (m : Message) → IsLawful m.transaction
    → (IsOf owner m.transaction → Keeps2 k w m) → k.owner ≡ owner → w.owner ≡ owner → IsEither owner k w l
    → IsEither owner k w (after l m)
step owner k w l m lawful own one other (inl over) =
    inl (stays_over owner l.owner (after l m).owner over (owner_step l m lawful))
step owner k w l m lawful own one other (inr a) =
    each_after (IsEither owner k w) l m
    (step_held owner k w l m lawful own (owner_of owner k w l one other a) a) (inr a)

steps : (owner : Owner) (is_own : Owner → Bool) (sends : Message → Bool) (k w : Register) (came : List Message)
    (l : Register)
    → AreLawful came → AllByRecursion (λ m. IsOwn is_own m.transaction → sends m ≡ true) came
    → is_own owner ≡ true → ((m : Message) → sends m ≡ true → IsOf owner m.transaction → Keeps2 k w m)
    → k.owner ≡ owner → w.owner ≡ owner → IsEither owner k w l → IsEither owner k w (after_all l came)
steps owner is_own sends k w [] l lawful own mine keeps one other e = e
steps owner is_own sends k w (m ∷ ms) l lawful own mine keeps one other e =
    steps owner is_own sends k w ms (after l m) lawful.1 own.1 mine keeps one other
    (step owner k w l m lawful.0
    (λ of. keeps m (own.0 (subst (λ o. is_own o ≡ true) (sym of.0) mine, of.1)) of) one other e)

pub carried : (owner : Owner) (is_own : Owner → Bool) (sends : Message → Bool) (k w l n : Register)
    → Goes is_own sends l n → is_own owner ≡ true
    → ((m : Message) → sends m ≡ true → IsOf owner m.transaction → Keeps2 k w m)
    → k.owner ≡ owner → w.owner ≡ owner → IsEither owner k w l → IsEither owner k w n
carried owner is_own sends k w l n goes mine keeps one other e =
    subst (IsEither owner k w) (sym goes.reached)
    (steps owner is_own sends k w goes.came l goes.lawful goes.own mine keeps one other e)

-- who was overtaken stays so
pub over_on : (owner : Owner) (is_own : Owner → Bool) (sends : Message → Bool) (l n : Register)
    → Goes is_own sends l n → owner.epoch < l.owner.epoch → owner.epoch < n.owner.epoch
over_on owner is_own sends l n goes over =
    subst (λ (r : Register). owner.epoch < r.owner.epoch) (sym goes.reached)
    (stays_over owner l.owner (after_all l goes.came).owner over (owners l goes.came goes.lawful))

pub never_over : (owner other : Owner) → owner.epoch < other.epoch → other ≡ owner → ⊥
never_over owner other less e = let f = ap (λ (o : Owner). o.epoch) e in omega arith

-- ---- what was sent before the head came

never_less : (h : Head) → HasLess h h → ⊥
never_less h (inl less) = omega arith
never_less h (inr both) = let less = both.1 in omega arith

pub never_before : (h : Head) → is_before h h ≡ true → ⊥
never_before h e = by (before_tells h h e)
  where
    by : IsBefore h h → ⊥
    by (inl earlier) = never_earlier h.extent.generation earlier
    by (inr both) = never_less h both.1

never_compared : (compared : Option Head) (head : Head) → compares_earlier compared head ≡ true
    → has_head compared head ≡ true → ⊥
never_compared None head earlier has = true≢false (sym earlier)
never_compared (Some h) head earlier has =
    never_before head (subst (λ x. is_before x head ≡ true) (same_head h head has) earlier)

pub never_holds : (head : Head) (k : Register) (m : Message) → k.head ≡ head
    → compares_earlier m.transaction.head head ≡ true → holds k m.transaction ≡ true → ⊥
never_holds head k m is earlier held =
    never_compared m.transaction.head head earlier
    (subst (λ h. has_head m.transaction.head h ≡ true) is (holds_head k m.transaction held))

-- ---- what put a chunk that stands

stands_again : (put : Option ChunkKey) (bytes : List ℕ) (chunk : Generation → ℕ → Option (List ℕ)) (head : Head)
    (count : ℕ) (generation : Generation) (index : ℕ)
    → IsSomeAnd put (λ key. (key.generation ≡ head.extent.generation) × (key.index < head.extent.chunks + count)
    × (chunk key.generation key.index ≡ Some bytes))
    → is_at put generation index ≡ true → Some bytes ≡ chunk generation index
stands_again None bytes chunk head count generation index stands at = absurd stands
stands_again (Some key) bytes chunk head count generation index stands at =
    let parts = and_parts (is_generation key.generation generation) (key.index == index) at in
    let one = same_generation key.generation generation parts.0 in
    let two = eqb-true key.index index parts.1 in
    sym (subst (λ (n : ℕ). chunk generation n ≡ Some bytes) two
    (subst (λ g. chunk g key.index ≡ Some bytes) one stands.2))

laid_chunk : (head : Head) (count : ℕ) (k : Register) (m : Message) → IsLaid head count k m
    → (generation : Generation) (index : ℕ) → chunk_with k m generation index ≡ k.chunk generation index
laid_chunk head count k m laid generation index =
    cond_both (is_at m.transaction.chunk generation index) (Some m.bytes)
    (cond (is_of m.transaction.deleted generation) None (k.chunk generation index))
    (λ c. c ≡ k.chunk generation index)
    (λ at. stands_again m.transaction.chunk m.bytes k.chunk head count generation index laid.stands at)
    (λ _. ap (λ d. cond (is_of d generation) None (k.chunk generation index)) laid.deletes_nothing)

pub laid_again : (head : Head) (count : ℕ) (k : Register) (m : Message) → m.transaction.new_owner ≡ None
    → IsLaid head count k m → Alike (with_writes k m) k
laid_again head count k m none laid = (
  ap (λ o. unwrap_or o k.owner) none,
  ap (λ h. unwrap_or h k.head) laid.moves_nothing,
  λ i generation index. laid_chunk head count k m laid generation index i,
)

-- what compares an earlier head, or put a chunk that stands, does nothing
pub laid_keeps : (head : Head) (count : ℕ) (k : Register) (m : Message) → k.head ≡ head
    → m.transaction.new_owner ≡ None → (compares_earlier m.transaction.head head ≡ true) ⊎ IsLaid head count k m
    → holds k m.transaction ≡ true → Alike (with_writes k m) k
laid_keeps head count k m is none (inl earlier) held = absurd (never_holds head k m is earlier held)
laid_keeps head count k m is none (inr laid) held = laid_again head count k m none laid

-- ---- a register whose owner has sent nothing that isn't settled

pub quiet : (owner : Owner) (head : Head) (is_own : Owner → Bool) (sends : Message → Bool) (k n : Register)
    → Goes is_own sends k n → is_own owner ≡ true → AreSettled sends owner head → k.owner ≡ owner → k.head ≡ head
    → (owner.epoch < n.owner.epoch) ⊎ Alike n k
quiet owner head is_own sends k n goes mine settled is at =
    by (carried owner is_own sends k k k n goes mine keeps is is (inr (inl (alike_itself k))))
  where
    keeps : (m : Message) → sends m ≡ true → IsOf owner m.transaction → Keeps2 k k m
    keeps m sent of = record {
      at_one = λ held. absurd (never_holds head k m at (settled m sent of) held);
      at_other = λ held. absurd (never_holds head k m at (settled m sent of) held);
    }

    by : IsEither owner k k n → (owner.epoch < n.owner.epoch) ⊎ Alike n k
    by (inl over) = inl over
    by (inr (inl a)) = inr a
    by (inr (inr a)) = inr a

-- ---- the register that an owner knows

abbrev pub IsCurrent : Owner → Head → Register → Type 0
IsCurrent owner head k = (owner.epoch < k.owner.epoch) ⊎ ((k.owner ≡ owner) × (k.head ≡ head))

pub current_tells : (owner : Owner) (head : Head) (k : Register) → is_current owner head k ≡ true
    → IsCurrent owner head k
current_tells owner head k e =
    by (or_cases (nat_lt owner.epoch k.owner.epoch) (is_owner owner k.owner && is_head head k.head) e)
  where
    by : (nat_lt owner.epoch k.owner.epoch ≡ true) ⊎ ((is_owner owner k.owner && is_head head k.head) ≡ true)
        → IsCurrent owner head k
    by (inl less) = inl (ltb-true owner.epoch k.owner.epoch less)
    by (inr both) =
        let parts = and_parts (is_owner owner k.owner) (is_head head k.head) both in
        inr (sym (same_owner owner k.owner parts.0), sym (same_head head k.head parts.1))

pub owner_tests : (owner other : Owner) → other ≡ owner → is_owner owner other ≡ true
owner_tests owner other e = subst (λ o. is_owner owner o ≡ true) (sym e) (owner_itself owner)

pub current_when : (owner : Owner) (head : Head) (k : Register) → IsCurrent owner head k
    → is_current owner head k ≡ true
current_when owner head k (inl less) =
    or_left (nat_lt owner.epoch k.owner.epoch) (is_owner owner k.owner && is_head head k.head)
    (lt-ltb owner.epoch k.owner.epoch less)
current_when owner head k (inr both) =
    or_right (nat_lt owner.epoch k.owner.epoch) (is_owner owner k.owner && is_head head k.head)
    (and_from (is_owner owner k.owner) (is_head head k.head) (owner_tests owner k.owner both.0)
    (subst (λ h. is_head head h ≡ true) (sym both.1) (head_itself head)))

-- while nothing is sent that isn't settled, the register is the same, or another owner has come
pub quiet_current : (owner : Owner) (head : Head) (is_own : Owner → Bool) (sends : Message → Bool) (k n : Register)
    → Goes is_own sends k n → is_own owner ≡ true → AreSettled sends owner head → IsCurrent owner head k
    → (owner.epoch < n.owner.epoch) ⊎ (Alike n k × (k.owner ≡ owner) × (k.head ≡ head))
quiet_current owner head is_own sends k n goes mine settled (inl over) =
    inl (over_on owner is_own sends k n goes over)
quiet_current owner head is_own sends k n goes mine settled (inr both) =
    by (quiet owner head is_own sends k n goes mine settled both.0 both.1)
  where
    by : (owner.epoch < n.owner.epoch) ⊎ Alike n k
        → (owner.epoch < n.owner.epoch) ⊎ (Alike n k × (k.owner ≡ owner) × (k.head ≡ head))
    by (inl over) = inl over
    by (inr a) = inr (a, both.0, both.1)

pub current_on : (owner : Owner) (head : Head) (is_own : Owner → Bool) (sends : Message → Bool) (k n : Register)
    → Goes is_own sends k n → is_own owner ≡ true → AreSettled sends owner head → is_current owner head k ≡ true
    → is_current owner head n ≡ true
current_on owner head is_own sends k n goes mine settled current =
    by (quiet_current owner head is_own sends k n goes mine settled (current_tells owner head k current))
  where
    by : (owner.epoch < n.owner.epoch) ⊎ (Alike n k × (k.owner ≡ owner) × (k.head ≡ head))
        → is_current owner head n ≡ true
    by (inl over) = current_when owner head n (inl over)
    by (inr q) = current_when owner head n (inr (q.0.0 ∙ q.1, q.0.1 ∙ q.2))
