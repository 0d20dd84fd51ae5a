-- Messages that were sent to the register in memory, and what becomes of it where one comes.
use Rattle.std.proofs.Common.{◌≡◌, ℕ, zero, suc, ◌+◌, ◌≤◌, ◌==◌, ◌&&◌, nat_lt, nat_le, not, Bool, true, false, List, [], ◌∷◌}
use Rattle.std.proofs.Common.{◌++◌, inl, inr, refl, sym, ap, subst, ◌∙◌, arith}
use Rattle.std.specs.Prelude.{◌⊎◌, Option, Some, None, unwrap_or, if◌then◌else◌, bytes_eq, IfSome, IsSomeAnd, slice_get}
use Rattle.std.proofs.lemmas.Bool.{and_parts, and_from, or_cases, or_left, or_right, eqb-true, eq-eqb, leb-true, true≢false}
use Rattle.std.proofs.lemmas.Slice.Eq.{bytes_eq-Decides}
use Rattle.journal_register.specs.declared.owner.Owner.{Owner}
use Rattle.journal_register.specs.declared.owner.TheConstants.{MOST_COUNT}
use Rattle.journal_register.specs.declared.head.Generation.{Generation}
use Rattle.journal_register.specs.declared.head.Head.{Head}
use Rattle.journal_register.specs.declared.head.TheConstants.{NO_HEAD, FIRST_HEAD}
use Rattle.journal_register.specs.declared.outcome.Answer.{Answer}
use Rattle.journal_register.specs.declared.outcome.Answer.TheVariants.{Succeeded, Failed, Missing}
use Rattle.journal_register.specs.declared.transaction.ChunkKey.{ChunkKey}
use Rattle.journal_register.specs.declared.transaction.Transaction.{Transaction}
use Rattle.journal_register.specs.Kinds.{claim_of, comparing}
use Rattle.journal_register.specs.Lawful.{IsLawful}
use Rattle.journal_register.specs.Order.{is_owner, is_generation, is_head, is_before}
use Rattle.journal_register.specs.Register.{Register, Message, is_at, is_of, holds, chunk_with, with_writes}
use Rattle.journal_register.proofs.Orders.{same_owner, same_generation, same_head, owner_itself, generation_itself, head_itself}
use Rattle.journal_remote.specs.declared.memory_engine.MemoryMessage.{MemoryMessage}
use Rattle.journal_remote.specs.declared.memory_register.ChunkWrite.{ChunkWrite}
use Rattle.journal_remote.specs.declared.memory_register.MemoryRegister.{MemoryRegister}
use Rattle.journal_remote.specs.Kept.{AreSettled, is_current}
use Rattle.journal_remote.specs.Memory.{is_option, is_key, is_transaction, is_message, message_of, is_sent, any_owner, chunk_in, register_of, Comes}
use Rattle.journal_remote.specs.Passing.{IsOwn, Goes, Exchanges}
use Rattle.journal_remote.specs.Protocol.{claims_next, moves_on, names_own, puts_behind, deletes_left, is_lawful}
use Rattle.journal_remote.proofs.Carried.{current_when}
use Rattle.journal_remote.proofs.Passing.{goes_nowhere, goes_on, silence}

-- ---- what is the same is one

same_option : {X : Type 0} (same : X → X → Bool) → ((x y : X) → same x y ≡ true → x ≡ y)
    → (a b : Option X) → is_option same a b ≡ true → a ≡ b
same_option same is None None e = refl
same_option same is None (Some y) e = absurd (true≢false (sym e))
same_option same is (Some x) None e = absurd (true≢false (sym e))
same_option same is (Some x) (Some y) e = ap (λ z. Some z) (is x y e)

option_itself : {X : Type 0} (same : X → X → Bool) → ((x : X) → same x x ≡ true) → (a : Option X)
    → is_option same a a ≡ true
option_itself same is None = refl
option_itself same is (Some x) = is x

same_key : (a b : ChunkKey) → is_key a b ≡ true → a ≡ b
same_key a b e =
    let parts = and_parts (is_generation a.generation b.generation) (a.index == b.index) e in
    let generation = same_generation a.generation b.generation parts.0 in
    let index = eqb-true a.index b.index parts.1 in
    λ i. record { generation = generation i; index = index i }

key_itself : (a : ChunkKey) → is_key a a ≡ true
key_itself a =
    and_from (is_generation a.generation a.generation) (a.index == a.index) (generation_itself a.generation)
    (eq-eqb a.index a.index refl)

same_transaction : (t u : Transaction) → is_transaction t u ≡ true → t ≡ u
same_transaction t u e =
    let owner = is_owner t.owner u.owner in
    let head = is_option is_head t.head u.head in
    let new_owner = is_option is_owner t.new_owner u.new_owner in
    let new_head = is_option is_head t.new_head u.new_head in
    let chunk = is_option is_key t.chunk u.chunk in
    let deleted = is_option is_generation t.deleted u.deleted in
    let p5 = and_parts (owner && head && new_owner && new_head && chunk) deleted e in
    let p4 = and_parts (owner && head && new_owner && new_head) chunk p5.0 in
    let p3 = and_parts (owner && head && new_owner) new_head p4.0 in
    let p2 = and_parts (owner && head) new_owner p3.0 in
    let p1 = and_parts owner head p2.0 in
    let e0 = same_owner t.owner u.owner p1.0 in
    let e1 = same_option is_head same_head t.head u.head p1.1 in
    let e2 = same_option is_owner same_owner t.new_owner u.new_owner p2.1 in
    let e3 = same_option is_head same_head t.new_head u.new_head p3.1 in
    let e4 = same_option is_key same_key t.chunk u.chunk p4.1 in
    let e5 = same_option is_generation same_generation t.deleted u.deleted p5.1 in
    λ i. record { owner = e0 i; head = e1 i; new_owner = e2 i; new_head = e3 i; chunk = e4 i; deleted = e5 i }

transaction_itself : (t : Transaction) → is_transaction t t ≡ true
transaction_itself t =
    let owner = is_owner t.owner t.owner in
    let head = is_option is_head t.head t.head in
    let new_owner = is_option is_owner t.new_owner t.new_owner in
    let new_head = is_option is_head t.new_head t.new_head in
    let chunk = is_option is_key t.chunk t.chunk in
    let deleted = is_option is_generation t.deleted t.deleted in
    let e1 = and_from owner head (owner_itself t.owner) (option_itself is_head head_itself t.head) in
    let e2 = and_from (owner && head) new_owner e1 (option_itself is_owner owner_itself t.new_owner) in
    let e3 = and_from (owner && head && new_owner) new_head e2 (option_itself is_head head_itself t.new_head) in
    let e4 = and_from (owner && head && new_owner && new_head) chunk e3 (option_itself is_key key_itself t.chunk) in
    and_from (owner && head && new_owner && new_head && chunk) deleted e4
    (option_itself is_generation generation_itself t.deleted)

same_message : (m n : Message) → is_message m n ≡ true → m ≡ n
same_message m n e =
    let parts = and_parts (is_transaction m.transaction n.transaction) (bytes_eq m.bytes n.bytes) e in
    let transaction = same_transaction m.transaction n.transaction parts.0 in
    let bytes = (bytes_eq-Decides m.bytes n.bytes).0 parts.1 in
    λ i. record { transaction = transaction i; bytes = bytes i }

message_itself : (m : Message) → is_message m m ≡ true
message_itself m =
    and_from (is_transaction m.transaction m.transaction) (bytes_eq m.bytes m.bytes)
    (transaction_itself m.transaction) ((bytes_eq-Decides m.bytes m.bytes).1 refl)

-- ---- what was sent

pub sent_one : (xs : List MemoryMessage) (x : MemoryMessage) (m : Message) → is_sent (xs ++ x ∷ []) m ≡ true
    → (m ≡ message_of x) ⊎ (is_sent xs m ≡ true)
sent_one [] x m e = by (or_cases (is_message m (message_of x)) false e)
  where
    by : (is_message m (message_of x) ≡ true) ⊎ (false ≡ true) → (m ≡ message_of x) ⊎ (false ≡ true)
    by (inl is) = inl (same_message m (message_of x) is)
    by (inr never) = inr never
sent_one (y ∷ xs) x m e = by (sent_one xs x m) (or_cases (is_message m (message_of y)) (is_sent (xs ++ x ∷ []) m) e)
  where
    there : (m ≡ message_of x) ⊎ (is_sent xs m ≡ true) → (m ≡ message_of x) ⊎ (is_sent (y ∷ xs) m ≡ true)
    there (inl is) = inl is
    there (inr is) = inr (or_right (is_message m (message_of y)) (is_sent xs m) is)

    by : (is_sent (xs ++ x ∷ []) m ≡ true → (m ≡ message_of x) ⊎ (is_sent xs m ≡ true))
        → (is_message m (message_of y) ≡ true) ⊎ (is_sent (xs ++ x ∷ []) m ≡ true)
        → (m ≡ message_of x) ⊎ (is_sent (y ∷ xs) m ≡ true)
    by further (inl is) = inr (or_left (is_message m (message_of y)) (is_sent xs m) is)
    by further (inr is) = there (further is)

pub sent_still : (xs : List MemoryMessage) (x : MemoryMessage) (m : Message) → is_sent xs m ≡ true
    → is_sent (xs ++ x ∷ []) m ≡ true
sent_still [] x m e = absurd (true≢false (sym e))
sent_still (y ∷ xs) x m e = by (sent_still xs x m) (or_cases (is_message m (message_of y)) (is_sent xs m) e)
  where
    by : (is_sent xs m ≡ true → is_sent (xs ++ x ∷ []) m ≡ true)
        → (is_message m (message_of y) ≡ true) ⊎ (is_sent xs m ≡ true) → is_sent (y ∷ (xs ++ x ∷ [])) m ≡ true
    by further (inl is) = or_left (is_message m (message_of y)) (is_sent (xs ++ x ∷ []) m) is
    by further (inr is) = or_right (is_message m (message_of y)) (is_sent (xs ++ x ∷ []) m) (further is)

pub sent_last : (xs : List MemoryMessage) (x : MemoryMessage) → is_sent (xs ++ x ∷ []) (message_of x) ≡ true
sent_last [] x = or_left (is_message (message_of x) (message_of x)) false (message_itself (message_of x))
sent_last (y ∷ xs) x =
    or_right (is_message (message_of x) (message_of y)) (is_sent (xs ++ x ∷ []) (message_of x)) (sent_last xs x)

pub sent_at : (xs : List MemoryMessage) (i : ℕ) (x : MemoryMessage) → slice_get xs i ≡ Some x
    → is_sent xs (message_of x) ≡ true
sent_at [] i x e = absurd (no_message x e)
  where
    no_message : (x : MemoryMessage) → None ≡ Some x → ⊥
    no_message x e = cc
sent_at (y ∷ xs) zero x e =
    or_left (is_message (message_of x) (message_of y)) (is_sent xs (message_of x))
    (subst (λ (z : MemoryMessage). is_message (message_of x) (message_of z) ≡ true) (sym (one y x e))
    (message_itself (message_of x)))
  where
    one : (y x : MemoryMessage) → Some y ≡ Some x → y ≡ x
    one y x e = cc
sent_at (y ∷ xs) (suc i) x e =
    or_right (is_message (message_of x) (message_of y)) (is_sent xs (message_of x)) (sent_at xs i x e)

-- ---- what keeps to the protocol

claims : (owner : Owner) (put : Option Owner) → claims_next owner put ≡ true → IfSome put (λ next. next.epoch ≡ suc owner.epoch)
claims owner None e = tt
claims owner (Some next) e =
    let parts = and_parts (nat_lt owner.epoch MOST_COUNT) (next.epoch == owner.epoch + 1) e in
    let is = eqb-true next.epoch (owner.epoch + 1) parts.1 in
    omega (arith, is)

moves : (put compared : Option Head) → moves_on put compared ≡ true
    → IfSome put (λ next. IsSomeAnd compared (λ head. is_before head next ≡ true))
moves None compared e = tt
moves (Some next) None e = absurd (true≢false (sym e))
moves (Some next) (Some head) e = e

names : (put compared : Option Head) (owner : Owner) → names_own put compared owner ≡ true
    → IfSome put (λ next. IsSomeAnd compared (λ head. next.extent.generation ≡ head.extent.generation)
    ⊎ (next.extent.generation.epoch ≤ owner.epoch))
names None compared owner e = tt
names (Some next) None owner e = inr (leb-true next.extent.generation.epoch owner.epoch e)
names (Some next) (Some head) owner e = by (or_cases (is_generation next.extent.generation head.extent.generation) (nat_le next.extent.generation.epoch owner.epoch) e)
  where
    by : (is_generation next.extent.generation head.extent.generation ≡ true) ⊎ (nat_le next.extent.generation.epoch owner.epoch ≡ true)
        → (next.extent.generation ≡ head.extent.generation) ⊎ (next.extent.generation.epoch ≤ owner.epoch)
    by (inl is) = inl (same_generation next.extent.generation head.extent.generation is)
    by (inr is) = inr (leb-true next.extent.generation.epoch owner.epoch is)

puts : (put : Option ChunkKey) (compared : Option Head) → puts_behind put compared ≡ true
    → IfSome put (λ key. IfSome compared (λ head. (key.generation ≡ head.extent.generation) × (head.extent.chunks ≤ key.index)))
puts None compared e = tt
puts (Some key) None e = tt
puts (Some key) (Some head) e =
    let parts = and_parts (is_generation key.generation head.extent.generation) (nat_le head.extent.chunks key.index) e in
    (same_generation key.generation head.extent.generation parts.0, leb-true head.extent.chunks key.index parts.1)

deletes : (deleted : Option Generation) (compared : Option Head) → deletes_left deleted compared ≡ true
    → IfSome deleted (λ generation. IsSomeAnd compared (λ head. is_generation generation head.extent.generation ≡ false))
deletes None compared e = tt
deletes (Some generation) None e = absurd (true≢false (sym e))
deletes (Some generation) (Some head) e = never (is_generation generation head.extent.generation) e
  where
    never : (b : Bool) → not b ≡ true → b ≡ false
    never true e = absurd (true≢false (sym e))
    never false e = refl

pub keeps_protocol : (t : Transaction) → is_lawful t ≡ true → IsLawful t
keeps_protocol t e =
    let one = claims_next t.owner t.new_owner in
    let two = moves_on t.new_head t.head in
    let three = names_own t.new_head t.head (unwrap_or t.new_owner t.owner) in
    let four = puts_behind t.chunk t.head in
    let five = deletes_left t.deleted t.head in
    let p4 = and_parts (one && two && three && four) five e in
    let p3 = and_parts (one && two && three) four p4.0 in
    let p2 = and_parts (one && two) three p3.0 in
    let p1 = and_parts one two p2.0 in
    record {
      claims = claims t.owner t.new_owner p1.0;
      moves = moves t.new_head t.head p1.1;
      names = names t.new_head t.head (unwrap_or t.new_owner t.owner) p2.1;
      puts = puts t.chunk t.head p3.1;
      deletes = deletes t.deleted t.head p4.1;
    }

-- ---- a message comes

pub goes_one : (sends : Message → Bool) (m : Message) (answer : Answer) (k l : Register) → Comes m answer k l
    → (IsOwn any_owner m.transaction → sends m ≡ true) → Goes any_owner sends k l
goes_one sends m answer k l (inl lost) own = subst (λ (r : Register). Goes any_owner sends k r) (sym lost.1) (goes_nowhere any_owner sends k)
goes_one sends m answer k l (inr came) own = record {
  came = m ∷ [];
  lawful = (came.0, tt);
  own = (own, tt);
  reached = came.2;
}

some_transaction : (t u : Transaction) → Some t ≡ Some u → t ≡ u
some_transaction t u e = cc

no_transaction : (t : Transaction) → Some t ≡ None → ⊥
no_transaction t e = cc

no_owner : (next : Owner) → Some next ≡ None → ⊥
no_owner next e = cc

-- a claim puts an owner
pub claim_puts : (seen : Owner) (nonce : ℕ) (t : Transaction) → Some t ≡ claim_of seen nonce → t.new_owner ≡ None → ⊥
claim_puts seen nonce t e none = by (nat_lt seen.epoch MOST_COUNT) e
  where
    next : Owner
    next = record { epoch = seen.epoch + 1; nonce = nonce }

    claim : Transaction
    claim = record (comparing seen) {
      head = if seen.epoch == 0 then Some NO_HEAD else None;
      new_owner = Some next;
      new_head = if seen.epoch == 0 then Some FIRST_HEAD else None;
    }

    by : (b : Bool) → Some t ≡ (if b then Some claim else None) → ⊥
    by true is = no_owner next (sym (ap (λ (u : Transaction). u.new_owner) (some_transaction t claim is)) ∙ none)
    by false is = no_transaction t is

pub goes_then : (xs ys : List MemoryMessage) (k l m : Register) → ys ≡ xs → Goes any_owner (is_sent xs) k l
    → Goes any_owner (is_sent ys) l m → Goes any_owner (is_sent ys) k m
goes_then xs ys k l m same one two =
    goes_on any_owner (is_sent xs) (is_sent ys) k l m
    (λ x is. subst (λ (zs : List MemoryMessage). is_sent zs x ≡ true) (sym same) is) one two

-- a message that comes is answered, and the answer comes back
pub answered : (sends : Message → Bool) (m : Message) (answer : Answer) (j k l : Register) → Goes any_owner sends j k
    → Comes m answer k l → Exchanges any_owner sends m answer j l
answered sends m answer j k l goes (inl lost) = record { at = k; goes = goes; answered = inl lost }
answered sends m answer j k l goes (inr came) = record { at = k; goes = goes; answered = inr (came.1, came.2) }

-- it comes, and no answer comes back
pub unanswered : (sends : Message → Bool) (m : Message) (answer : Answer) (j k l : Register) → Goes any_owner sends j k
    → Comes m answer k l → sends m ≡ true → Exchanges any_owner sends m Missing j l
unanswered sends m answer j k l goes comes sent =
    silence any_owner sends m j l
    (goes_on any_owner sends sends j k l (λ x is. is) goes (goes_one sends m answer k l comes (λ _. sent)))

-- ---- a transaction comes to the register in memory

pub comes_failed : (m : Message) (k : Register) → is_lawful m.transaction ≡ true → holds k m.transaction ≡ false
    → Comes m (Failed k.owner k.head) k k
comes_failed m k lawful fails = inr (
  keeps_protocol m.transaction lawful,
  sym (ap (λ (b : Bool). if b then Succeeded else Failed k.owner k.head) fails),
  sym (ap (λ (b : Bool). if b then with_writes k m else k) fails),
)

written_is : (r s : MemoryRegister) (w : ChunkWrite) (m : Message)
    → s.writes.items ≡ w ∷ r.writes.items → w.put ≡ m.transaction.chunk → w.deleted ≡ m.transaction.deleted
    → w.bytes.items ≡ m.bytes → chunk_in s.writes.items ≡ chunk_with (register_of r) m
written_is r s w m items put deleted bytes =
    let step : chunk_in (w ∷ r.writes.items) ≡ chunk_with (register_of r) m =
    λ i. λ generation index.
    if is_at (put i) generation index then Some (bytes i)
    else if is_of (deleted i) generation then None
    else chunk_in r.writes.items generation index in
    ap (λ (ws : List ChunkWrite). chunk_in ws) items ∙ step

pub comes_done : (m : Message) (r s : MemoryRegister) (w : ChunkWrite) → is_lawful m.transaction ≡ true
    → holds (register_of r) m.transaction ≡ true → s.revision ≡ r.revision + 1
    → s.owner ≡ unwrap_or m.transaction.new_owner r.owner → s.head ≡ unwrap_or m.transaction.new_head r.head
    → s.writes.items ≡ w ∷ r.writes.items → w.put ≡ m.transaction.chunk → w.deleted ≡ m.transaction.deleted
    → w.bytes.items ≡ m.bytes → Comes m Succeeded (register_of r) (register_of s)
comes_done m r s w lawful met revision owner head items put deleted bytes =
    let k = register_of r in
    let up : s.revision ≡ suc r.revision = omega (arith, revision) in
    let chunk = written_is r s w m items put deleted bytes in
    let done : register_of s ≡ with_writes k m =
    λ i. record { revision = up i; owner = owner i; head = head i; chunk = chunk i } in inr (
      keeps_protocol m.transaction lawful,
      sym (ap (λ (b : Bool). if b then Succeeded else Failed k.owner k.head) met),
      done ∙ sym (ap (λ (b : Bool). if b then with_writes k m else k) met),
    )

-- ---- before anything was sent

some_register : (k l : Register) → Some k ≡ Some l → k ≡ l
some_register k l e = cc

pub memory_current : (r : MemoryRegister) (owner : Owner) (head : Head) → r.owner ≡ owner → r.head ≡ head
    → (k : Register) → Some (register_of r) ≡ Some k → is_current owner head k ≡ true
memory_current r owner head owned headed k e =
    subst (λ (l : Register). is_current owner head l ≡ true) (some_register (register_of r) k e)
    (current_when owner head (register_of r) (inr (owned, headed)))

pub memory_settled : (xs : List MemoryMessage) (owner : Owner) (head : Head) → xs ≡ []
    → AreSettled (is_sent xs) owner head
memory_settled xs owner head none m is of =
    absurd (true≢false (sym (subst (λ (ys : List MemoryMessage). is_sent ys m ≡ true) none is)))
