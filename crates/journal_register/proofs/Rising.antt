-- Owners, heads and revisions go up, message by message.
use Rattle.std.proofs.Common.{◌≡◌, ◌<◌, ◌≤◌, ◌==◌, ◌&&◌, ◌||◌, nat_lt, arith, true, [], ◌∷◌}
use Rattle.std.proofs.Common.{inl, inr, refl, sym, ap, subst, ◌∙◌}
use Rattle.std.specs.Prelude.{suc, nat_le, ◌⊎◌, Option, Some, None, unwrap_or, IfSome, IsSomeAnd}
use Rattle.std.proofs.lemmas.Bool.{and_parts, and_from, or_left, or_right, cond_both, eq-eqb, lt-ltb, le-leb}
use Rattle.journal_register.specs.declared.owner.Owner.{Owner}
use Rattle.journal_register.specs.declared.head.Generation.{Generation}
use Rattle.journal_register.specs.declared.head.Head.{Head}
use Rattle.journal_register.specs.declared.transaction.Transaction.{Transaction}
use Rattle.journal_register.specs.Order.{is_owner, is_head, is_before}
use Rattle.journal_register.specs.Register.{Register, Message, has_head, holds, with_writes, after, after_all}
use Rattle.journal_register.specs.Lawful.{IsLawful}
use Rattle.journal_register.specs.Laws.{OwnersGoUp, HeadsGoUp, RevisionsGoUp, LaterLooksFollow}
use Rattle.journal_register.specs.Laws.{GenerationsAreOfOwners}
use Rattle.journal_register.proofs.Orders.{same_owner, owner_itself, same_head, head_itself, before_on}

-- what holds of the register with the writes, where the compares hold, and of it as it was, holds of it afterwards
pub each_after : (P : Register → Type 0) (k : Register) (m : Message) → (holds k m.transaction ≡ true
    → P (with_writes k m)) → P k
    → P (after k m)
each_after P k m written same = cond_both (holds k m.transaction) (with_writes k m) k P written (λ _. same)

pub holds_owner : (k : Register) (t : Transaction) → holds k t ≡ true → t.owner ≡ k.owner
holds_owner k t e = same_owner t.owner k.owner (and_parts (is_owner t.owner k.owner) (has_head t.head k.head) e).0

pub holds_head : (k : Register) (t : Transaction) → holds k t ≡ true → has_head t.head k.head ≡ true
holds_head k t e = (and_parts (is_owner t.owner k.owner) (has_head t.head k.head) e).1

-- ---- owners

abbrev pub IsLater : Owner → Owner → Type 0
IsLater old new = (new ≡ old) ⊎ (old.epoch < new.epoch)

pub later_on : (a b c : Owner) → IsLater a b → IsLater b c → IsLater a c
later_on a b c (inl e) (inl f) = inl (f ∙ e)
later_on a b c (inl e) (inr more) = inr (subst (λ (o : Owner). o.epoch < c.epoch) e more)
later_on a b c (inr less) (inl f) = inr (subst (λ (o : Owner). a.epoch < o.epoch) (sym f) less)
later_on a b c (inr less) (inr more) = inr (omega arith)

owner_with : (put : Option Owner) (sender owner : Owner) → IfSome put (λ next. next.epoch ≡ suc sender.epoch)
    → sender ≡ owner
    → IsLater owner (unwrap_or put owner)
owner_with None sender owner claims is = inl refl
owner_with (Some next) sender owner claims is = let e = ap (λ (o : Owner). o.epoch) is in inr (omega arith)

pub owner_step : (k : Register) (m : Message) → IsLawful m.transaction → IsLater k.owner (after k m).owner
owner_step k m lawful =
    each_after (λ n. IsLater k.owner n.owner) k m
    (λ e. owner_with m.transaction.new_owner m.transaction.owner k.owner lawful.claims (holds_owner k m.transaction e))
    (inl refl)

pub owners : OwnersGoUp
owners k [] lawful = inl refl
owners k (m ∷ ms) lawful =
    later_on k.owner (after k m).owner (after_all (after k m) ms).owner (owner_step k m lawful.0) (owners
    (after k m) ms lawful.1)

-- an owner between two that are one is that one
pub owner_between : (a b c : Owner) → IsLater a b → IsLater b c → c ≡ a → b ≡ a
owner_between a b c (inl e) two is = e
owner_between a b c (inr less) (inl f) is = sym f ∙ is
owner_between a b c (inr less) (inr more) is = let e = ap (λ (o : Owner). o.epoch) is in absurd (omega arith)

-- ---- heads

abbrev pub IsAhead : Head → Head → Type 0
IsAhead old new = (new ≡ old) ⊎ (is_before old new ≡ true)

ahead_on : (a b c : Head) → IsAhead a b → IsAhead b c → IsAhead a c
ahead_on a b c (inl e) (inl f) = inl (f ∙ e)
ahead_on a b c (inl e) (inr more) = inr (subst (λ h. is_before h c ≡ true) e more)
ahead_on a b c (inr less) (inl f) = inr (subst (λ h. is_before a h ≡ true) (sym f) less)
ahead_on a b c (inr less) (inr more) = inr (before_on a b c less more)

pub head_with : (put compared : Option Head) (head : Head)
    → IfSome put (λ next. IsSomeAnd compared (λ h. is_before h next ≡ true)) → has_head compared head ≡ true
    → IsAhead head (unwrap_or put head)
head_with None compared head moves has = inl refl
head_with (Some next) None head moves has = absurd moves
head_with (Some next) (Some h) head moves has = inr (subst (λ x. is_before x next ≡ true) (same_head h head has) moves)

head_step : (k : Register) (m : Message) → IsLawful m.transaction → IsAhead k.head (after k m).head
head_step k m lawful =
    each_after (λ n. IsAhead k.head n.head) k m
    (λ e. head_with m.transaction.new_head m.transaction.head k.head lawful.moves (holds_head k m.transaction e))
    (inl refl)

pub heads : HeadsGoUp
heads k [] lawful = inl refl
heads k (m ∷ ms) lawful =
    ahead_on k.head (after k m).head (after_all (after k m) ms).head (head_step k m lawful.0) (heads
    (after k m) ms lawful.1)

-- ---- revisions

abbrev IsNewer : Register → Register → Type 0
IsNewer k n = (n ≡ k) ⊎ (k.revision < n.revision)

newer_on : (k n last : Register) → IsNewer k n → IsNewer n last → IsNewer k last
newer_on k n last (inl e) (inl f) = inl (f ∙ e)
newer_on k n last (inl e) (inr more) = inr (subst (λ (r : Register). r.revision < last.revision) e more)
newer_on k n last (inr less) (inl f) = inr (subst (λ (r : Register). k.revision < r.revision) (sym f) less)
newer_on k n last (inr less) (inr more) = inr (omega arith)

revision_step : (k : Register) (m : Message) → IsNewer k (after k m)
revision_step k m = each_after (IsNewer k) k m (λ _. inr (omega arith)) (inl refl)

pub revisions : RevisionsGoUp
revisions k [] = inl refl
revisions k (m ∷ ms) = newer_on k (after k m) (after_all (after k m) ms) (revision_step k m) (revisions (after k m) ms)

-- ---- looks

owner_follows : (a b : Owner) → IsLater a b → (is_owner a b || nat_lt a.epoch b.epoch) ≡ true
owner_follows a b (inl e) =
    or_left (is_owner a b) (nat_lt a.epoch b.epoch) (subst (λ o. is_owner a o ≡ true) (sym e) (owner_itself a))
owner_follows a b (inr less) = or_right (is_owner a b) (nat_lt a.epoch b.epoch) (lt-ltb a.epoch b.epoch less)

head_follows : (a b : Head) → IsAhead a b → (is_head a b || is_before a b) ≡ true
head_follows a b (inl e) = or_left (is_head a b) (is_before a b) (subst (λ h. is_head a h ≡ true) (sym e)
    (head_itself a))
head_follows a b (inr less) = or_right (is_head a b) (is_before a b) less

revision_follows : (k n : Register) → IsNewer k n → nat_le k.revision n.revision ≡ true
revision_follows k n (inl e) = subst (λ (r : Register). nat_le k.revision r.revision ≡ true) (sym e)
    (le-leb k.revision k.revision (omega arith))
revision_follows k n (inr less) = le-leb k.revision n.revision (omega arith)

pub looks : LaterLooksFollow
looks cluster k sent lawful =
    let n = after_all k sent in
    let revision = revision_follows k n (revisions k sent) in
    let owner = owner_follows k.owner n.owner (owners k sent lawful) in
    let head = head_follows k.head n.head (heads k sent lawful) in
    let is_owner_later = is_owner k.owner n.owner || nat_lt k.owner.epoch n.owner.epoch in
    let is_head_later = is_head k.head n.head || is_before k.head n.head in
    and_from ((cluster == cluster) && nat_le k.revision n.revision && is_owner_later) is_head_later
    (and_from ((cluster == cluster) && nat_le k.revision n.revision) is_owner_later
    (and_from (cluster == cluster) (nat_le k.revision n.revision) (eq-eqb cluster cluster refl) revision) owner) head

-- ---- generations

same_epoch : (compared : Option Head) (head next : Head) → IsSomeAnd compared
    (λ h. next.extent.generation ≡ h.extent.generation)
    → has_head compared head ≡ true → next.extent.generation.epoch ≡ head.extent.generation.epoch
same_epoch None head next is has = absurd is
same_epoch (Some h) head next is has =
    ap (λ (g : Generation). g.epoch) is ∙ ap (λ (x : Head). x.extent.generation.epoch) (same_head h head has)

owner_epoch : (a b : Owner) → IsLater a b → a.epoch ≤ b.epoch
owner_epoch a b (inl e) = subst (λ (o : Owner). a.epoch ≤ o.epoch) (sym e) (omega arith)
owner_epoch a b (inr less) = omega arith

generation_with : (put compared : Option Head) (new : Option Owner) (sender owner : Owner) (head : Head)
    → IfSome put (λ next. IsSomeAnd compared (λ h. next.extent.generation ≡ h.extent.generation)
    ⊎ (next.extent.generation.epoch ≤ (unwrap_or new sender).epoch))
    → has_head compared head ≡ true → sender ≡ owner
    → IsLater owner (unwrap_or new owner) → head.extent.generation.epoch ≤ owner.epoch
    → (unwrap_or put head).extent.generation.epoch ≤ (unwrap_or new owner).epoch
generation_with None compared new sender owner head names has is later le =
    let up = owner_epoch owner (unwrap_or new owner) later in omega arith
generation_with (Some next) compared new sender owner head (inl same) has is later le =
    let up = owner_epoch owner (unwrap_or new owner) later in
    let e = same_epoch compared head next same has in
    omega arith
generation_with (Some next) compared new sender owner head (inr named) has is later le =
    subst (λ o. next.extent.generation.epoch ≤ (unwrap_or new o).epoch) is named

generation_step : (k : Register) (m : Message) → IsLawful m.transaction → k.head.extent.generation.epoch ≤ k.owner.epoch
    → (after k m).head.extent.generation.epoch ≤ (after k m).owner.epoch
generation_step k m lawful le =
    let t = m.transaction in
    each_after (λ n. n.head.extent.generation.epoch ≤ n.owner.epoch) k m
    (λ e. generation_with t.new_head t.head t.new_owner t.owner k.owner k.head lawful.names (holds_head k t e)
    (holds_owner k t e) (owner_with t.new_owner t.owner k.owner lawful.claims (holds_owner k t e)) le)
    le

pub generations : GenerationsAreOfOwners
generations k [] lawful le = le
generations k (m ∷ ms) lawful le = generations (after k m) ms lawful.1 (generation_step k m lawful.0 le)
