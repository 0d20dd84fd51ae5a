-- A group of chunks that is put behind the head.
use Rattle.std.proofs.Common.{◌≡◌, ℕ, ◌+◌, ◌<◌, ◌==◌, suc, arith, Bool, true, false, cond, List, [], ◌++◌, append_assoc}
use Rattle.std.proofs.Common.{inl, inr, refl, sym, ap, subst, ◌∙◌}
use Rattle.std.specs.Prelude.{◌⊎◌, nat_lt, Option, Some, None, option_map, unwrap_or, IsSomeAnd}
use Rattle.std.proofs.lemmas.Bool.{and_parts, and_from, cond_both, cond-true, eqb-true, eq-eqb, true≢false}
use Rattle.std.proofs.lemmas.List.{append-nil}
use Rattle.journal_file.specs.declared.log_end.LogEnd.{LogEnd}
use Rattle.journal_register.specs.declared.owner.Owner.{Owner}
use Rattle.journal_register.specs.declared.owner.TheConstants.{MOST_COUNT}
use Rattle.journal_register.specs.declared.head.Generation.{Generation}
use Rattle.journal_register.specs.declared.head.Head.{Head}
use Rattle.journal_register.specs.declared.outcome.Answer.{Answer}
use Rattle.journal_register.specs.declared.outcome.Outcome.TheVariants.{Applied}
use Rattle.journal_register.specs.declared.transaction.ChunkKey.{ChunkKey}
use Rattle.journal_register.specs.declared.transaction.Transaction.{Transaction}
use Rattle.journal_register.specs.Kinds.{comparing_both, chunk_behind, append_of}
use Rattle.journal_register.specs.Order.{is_owner, is_generation, is_head, is_before}
use Rattle.journal_register.specs.Outcomes.{shows_put, shows, outcome_of}
use Rattle.journal_register.specs.Register.{Register, Message, holds, is_at, is_of, chunk_with, with_writes}
use Rattle.journal_register.proofs.Orders.{same_owner, same_head, generation_itself, before_when, before_on}
use Rattle.journal_register.proofs.Rising.{holds_owner}
use Rattle.journal_remote.specs.Joined.{Joins}
use Rattle.journal_remote.specs.Passing.{Exchanges}
use Rattle.journal_remote.specs.Kept.{IsOf, compares_earlier, AreSettled, is_current}
use Rattle.journal_remote.specs.Laid.{IsLaid, AreLaid, Laid, Lays, CompareNoLater, moved_head, Appended}
use Rattle.journal_remote.proofs.Joining.{joins_one, joins_same}
use Rattle.journal_remote.proofs.Sending.{Did, applied}
use Rattle.journal_remote.proofs.Carried.{Alike, alike_itself, alike_is, alike_on, holds_alike, writes_alike, IsEither}
use Rattle.journal_remote.proofs.Carried.{Keeps2, carried, over_on, never_over, never_before, never_holds, laid_again}
use Rattle.journal_remote.proofs.Carried.{laid_keeps, IsCurrent, current_tells}

-- ---- the transactions

abbrev pub key_behind : Head → ℕ → ChunkKey
key_behind head place = record { generation = head.extent.generation; index = head.extent.chunks + place }

abbrev pub part_of : Owner → Head → ℕ → Transaction
part_of owner head place = record (comparing_both owner head) { chunk = Some (key_behind head place) }

abbrev pub last_of : Owner → Head → ℕ → LogEnd → Transaction
last_of owner head place end =
    record (comparing_both owner head) {
      chunk = Some (key_behind head place);
      new_head = Some (moved_head head place end);
    }

same_some : (s t : Transaction) → Some s ≡ Some t → s ≡ t
same_some s t e = cc

not_none : (t : Transaction) → None ≡ Some t → ⊥
not_none t e = cc

chosen : (b : Bool) (i : ℕ) (f : ℕ → Transaction) (t : Transaction)
    → option_map f (cond b (Some i) None) ≡ Some t → t ≡ f i
chosen true i f t e = sym (same_some (f i) t e)
chosen false i f t e = absurd (not_none t e)

pub part_is : (owner : Owner) (head : Head) (place : ℕ) (t : Transaction) → chunk_behind owner head place ≡ Some t
    → t ≡ part_of owner head place
part_is owner head place t e =
    chosen (nat_lt (head.extent.chunks + place) MOST_COUNT) (head.extent.chunks + place)
    (λ index. record (comparing_both owner head) {
      chunk = Some (record { generation = head.extent.generation; index = index });
    }) t e

pub last_is : (owner : Owner) (head : Head) (place : ℕ) (end : LogEnd) (t : Transaction)
    → append_of owner head place end ≡ Some t → t ≡ last_of owner head place end
last_is owner head place end t e =
    chosen (nat_lt (head.extent.chunks + place) MOST_COUNT) (head.extent.chunks + place)
    (λ index. record (comparing_both owner head) {
      chunk = Some (record { generation = head.extent.generation; index = index });
      new_head = Some (record head {
        extent = record { generation = head.extent.generation; chunks = index + 1; end = end };
      });
    }) t e

-- ---- what was sent

-- a transaction of this owner that compares this head and puts the chunk so many places behind it
pub record Puts (owner : Owner) (head : Head) (place : ℕ) (t : Transaction) : Type 0 where
  pub of : t.owner ≡ owner
  pub no_claim : t.new_owner ≡ None
  pub compared : t.head ≡ Some head
  pub put : t.chunk ≡ Some (key_behind head place)
  pub deletes_nothing : t.deleted ≡ None

pub part_puts : (owner : Owner) (head : Head) (place : ℕ) (t : Transaction) → t ≡ part_of owner head place
    → Puts owner head place t
part_puts owner head place t e = record {
  of = ap (λ (x : Transaction). x.owner) e;
  no_claim = ap (λ (x : Transaction). x.new_owner) e;
  compared = ap (λ (x : Transaction). x.head) e;
  put = ap (λ (x : Transaction). x.chunk) e;
  deletes_nothing = ap (λ (x : Transaction). x.deleted) e;
}

pub last_puts : (owner : Owner) (head : Head) (place : ℕ) (end : LogEnd) (t : Transaction)
    → t ≡ last_of owner head place end → Puts owner head place t
last_puts owner head place end t e = record {
  of = ap (λ (x : Transaction). x.owner) e;
  no_claim = ap (λ (x : Transaction). x.new_owner) e;
  compared = ap (λ (x : Transaction). x.head) e;
  put = ap (λ (x : Transaction). x.chunk) e;
  deletes_nothing = ap (λ (x : Transaction). x.deleted) e;
}

-- what was sent before, and this
abbrev pub SendsToo : (Message → Bool) → (Message → Bool) → Message → Type 0
SendsToo sends more sent = (x : Message) → more x ≡ true → (x ≡ sent) ⊎ (sends x ≡ true)

pub no_later_on : (owner : Owner) (head : Head) (place : ℕ) (sends more : Message → Bool) (sent : Message)
    → Puts owner head place sent.transaction → SendsToo sends more sent → CompareNoLater sends owner head
    → CompareNoLater more owner head
no_later_on owner head place sends more sent puts too no_later x is of = by (too x is)
  where
    by : (x ≡ sent) ⊎ (sends x ≡ true)
        → (compares_earlier x.transaction.head head ≡ true) ⊎ (x.transaction.head ≡ Some head)
    by (inl same) = inr (ap (λ (y : Message). y.transaction.head) same ∙ puts.compared)
    by (inr old) = no_later x old of

pub moved_later : (head : Head) (place : ℕ) (end : LogEnd) → is_before head (moved_head head place end) ≡ true
moved_later head place end = before_when head (moved_head head place end) (inr (refl, inl (omega arith)))

earlier_still : (compared : Option Head) (head next : Head) → is_before head next ≡ true
    → compares_earlier compared head ≡ true → compares_earlier compared next ≡ true
earlier_still None head next later e = absurd (true≢false (sym e))
earlier_still (Some h) head next later e = before_on h head next e later

settled_by : (compared : Option Head) (head next : Head) → is_before head next ≡ true
    → (compares_earlier compared head ≡ true) ⊎ (compared ≡ Some head) → compares_earlier compared next ≡ true
settled_by compared head next later (inl e) = earlier_still compared head next later e
settled_by compared head next later (inr e) = subst (λ c. compares_earlier c next ≡ true) (sym e) later

pub settled_on : (owner : Owner) (head next : Head) (sends : Message → Bool) → is_before head next ≡ true
    → CompareNoLater sends owner head → AreSettled sends owner next
settled_on owner head next sends later no_later x is of =
    settled_by x.transaction.head head next later (no_later x is of)

-- ---- where the chunk is put

there_itself : (key : ChunkKey) → is_at (Some key) key.generation key.index ≡ true
there_itself key =
    and_from (is_generation key.generation key.generation) (key.index == key.index) (generation_itself key.generation)
    (eq-eqb key.index key.index refl)

put_there : (owner : Owner) (head : Head) (place : ℕ) (l : Register) (sent : Message)
    → Puts owner head place sent.transaction
    → chunk_with l sent head.extent.generation (head.extent.chunks + place) ≡ Some sent.bytes
put_there owner head place l sent puts =
    let generation = head.extent.generation in
    let index = head.extent.chunks + place in
    cond-true (is_at sent.transaction.chunk generation index) (Some sent.bytes)
    (cond (is_of sent.transaction.deleted generation) None (l.chunk generation index))
    (ap (λ c. is_at c generation index) puts.put ∙ there_itself (key_behind head place))

not_there : (head : Head) (place : ℕ) (put : Option ChunkKey) (generation : Generation) (index : ℕ)
    → put ≡ Some (key_behind head place) → index < head.extent.chunks + place → is_at put generation index ≡ true → ⊥
not_there head place put generation index is less at =
    let there = subst (λ c. is_at c generation index ≡ true) is at in
    let parts = and_parts (is_generation head.extent.generation generation) ((head.extent.chunks + place) == index) there in
    let same = eqb-true (head.extent.chunks + place) index parts.1 in
    omega arith

stays_there : (owner : Owner) (head : Head) (place : ℕ) (l : Register) (sent : Message) (generation : Generation)
    (index : ℕ)
    → Puts owner head place sent.transaction → index < head.extent.chunks + place
    → chunk_with l sent generation index ≡ l.chunk generation index
stays_there owner head place l sent generation index puts less =
    cond_both (is_at sent.transaction.chunk generation index) (Some sent.bytes)
    (cond (is_of sent.transaction.deleted generation) None (l.chunk generation index))
    (λ c. c ≡ l.chunk generation index)
    (λ at. absurd (not_there head place sent.transaction.chunk generation index puts.put less at))
    (λ _. ap (λ d. cond (is_of d generation) None (l.chunk generation index)) puts.deletes_nothing)

-- the chunks behind it too
put_joins : (owner : Owner) (head : Head) (place : ℕ) (done : List ℕ) (sends : Message → Bool) (k l : Register)
    (sent : Message)
    → Puts owner head place sent.transaction → Laid owner head place done sends k l → (before : List ℕ)
    → Joins (k.chunk head.extent.generation) head.extent.chunks before
    → Joins ((with_writes l sent).chunk head.extent.generation) (suc (head.extent.chunks + place))
    (before ++ (done ++ sent.bytes))
put_joins owner head place done sends k l sent puts laid before joined =
    let chunk = (with_writes l sent).chunk head.extent.generation in
    let stay = joins_same (l.chunk head.extent.generation) chunk (head.extent.chunks + place) (before ++ done)
    (λ i less. stays_there owner head place l sent head.extent.generation i puts less) (laid.joined before joined) in
    subst (Joins chunk (suc (head.extent.chunks + place))) (append_assoc before done sent.bytes)
    (joins_one chunk (head.extent.chunks + place) (before ++ done) sent.bytes stay
    (put_there owner head place l sent puts))

-- ---- a chunk behind the head

laid_key : (owner : Owner) (head : Head) (place : ℕ) (l : Register) (sent : Message) (put : Option ChunkKey)
    (bytes : List ℕ)
    → Puts owner head place sent.transaction
    → IsSomeAnd put (λ key. (key.generation ≡ head.extent.generation) × (key.index < head.extent.chunks + place)
    × (l.chunk key.generation key.index ≡ Some bytes))
    → IsSomeAnd put (λ key. (key.generation ≡ head.extent.generation) × (key.index < head.extent.chunks + suc place)
    × ((with_writes l sent).chunk key.generation key.index ≡ Some bytes))
laid_key owner head place l sent None bytes puts stands = stands
laid_key owner head place l sent (Some key) bytes puts stands =
    let less = stands.1 in (
      stands.0,
      omega arith,
      stays_there owner head place l sent key.generation key.index puts stands.1 ∙ stands.2,
    )

laid_on : (owner : Owner) (head : Head) (place : ℕ) (l : Register) (sent x : Message)
    → Puts owner head place sent.transaction → IsLaid head place l x → IsLaid head (suc place) (with_writes l sent) x
laid_on owner head place l sent x puts laid = record {
  compared = laid.compared;
  moves_nothing = laid.moves_nothing;
  deletes_nothing = laid.deletes_nothing;
  stands = laid_key owner head place l sent x.transaction.chunk x.bytes puts laid.stands;
}

laid_itself : (owner : Owner) (head : Head) (place : ℕ) (l : Register) (sent : Message)
    → Puts owner head place sent.transaction → sent.transaction.new_head ≡ None
    → IsLaid head (suc place) (with_writes l sent) sent
laid_itself owner head place l sent puts stays = record {
  compared = puts.compared;
  moves_nothing = stays;
  deletes_nothing = puts.deletes_nothing;
  stands = subst (λ (c : Option ChunkKey). IsSomeAnd c (λ key. (key.generation ≡ head.extent.generation)
      × (key.index < head.extent.chunks + suc place)
      × ((with_writes l sent).chunk key.generation key.index ≡ Some sent.bytes))) (sym puts.put)
      (refl, omega arith, put_there owner head place l sent puts);
}

are_laid_on : (owner : Owner) (head : Head) (place : ℕ) (sends more : Message → Bool) (l : Register) (sent : Message)
    → Puts owner head place sent.transaction → sent.transaction.new_head ≡ None → SendsToo sends more sent
    → AreLaid sends owner head place l → AreLaid more owner head (suc place) (with_writes l sent)
are_laid_on owner head place sends more l sent puts stays too laid x is of = by (too x is)
  where
    old : (compares_earlier x.transaction.head head ≡ true) ⊎ IsLaid head place l x
        → (compares_earlier x.transaction.head head ≡ true) ⊎ IsLaid head (suc place) (with_writes l sent) x
    old (inl earlier) = inl earlier
    old (inr there) = inr (laid_on owner head place l sent x puts there)

    by : (x ≡ sent) ⊎ (sends x ≡ true)
        → (compares_earlier x.transaction.head head ≡ true) ⊎ IsLaid head (suc place) (with_writes l sent) x
    by (inl same) =
        inr (subst (IsLaid head (suc place) (with_writes l sent)) (sym same)
        (laid_itself owner head place l sent puts stays))
    by (inr before) = old (laid x before of)

laid_by : (owner : Owner) (head : Head) (place : ℕ) (done : List ℕ) (sends more : Message → Bool) (k l m : Register)
    (sent : Message)
    → Puts owner head place sent.transaction → sent.transaction.new_head ≡ None → SendsToo sends more sent
    → Laid owner head place done sends k l → Alike m (with_writes l sent)
    → Laid owner head (suc place) (done ++ sent.bytes) more k m
laid_by owner head place done sends more k l m sent puts stays too laid a =
    let w = with_writes l sent in
    let generation = head.extent.generation in
    let e : suc (head.extent.chunks + place) ≡ head.extent.chunks + suc place = omega arith in record {
      began = laid.began;
      owned = a.0 ∙ (ap (λ o. unwrap_or o l.owner) puts.no_claim ∙ laid.owned);
      headed = a.1 ∙ (ap (λ h. unwrap_or h l.head) stays ∙ laid.headed);
      joined = λ before joins.
          subst (λ (n : ℕ). Joins (m.chunk generation) n (before ++ (done ++ sent.bytes))) e
          (subst (λ (c : Generation → ℕ → Option (List ℕ)). Joins (c generation) (suc (head.extent.chunks + place)) (before ++ (done ++ sent.bytes))) (sym a.2)
          (put_joins owner head place done sends k l sent puts laid before joins));
      sent = λ x is of. same_laid head (suc place) w m x a.2
          (are_laid_on owner head place sends more l sent puts stays too laid.sent x is of);
    }
  where
    same_laid : (head : Head) (count : ℕ) (w m : Register) (x : Message) → m.chunk ≡ w.chunk
        → (compares_earlier x.transaction.head head ≡ true) ⊎ IsLaid head count w x
        → (compares_earlier x.transaction.head head ≡ true) ⊎ IsLaid head count m x
    same_laid head count w m x e (inl earlier) = inl earlier
    same_laid head count w m x e (inr there) = inr (record {
      compared = there.compared;
      moves_nothing = there.moves_nothing;
      deletes_nothing = there.deletes_nothing;
      stands = subst (λ (c : Generation → ℕ → Option (List ℕ)). IsSomeAnd x.transaction.chunk (λ key.
          (key.generation ≡ head.extent.generation) × (key.index < head.extent.chunks + count)
          × (c key.generation key.index ≡ Some x.bytes))) (sym e) there.stands;
    })

shows_nothing : (t : Transaction) (owner : Owner) (head : Head) → t.new_owner ≡ None → t.new_head ≡ None
    → shows t owner head ≡ true → ⊥
shows_nothing t owner head one two shown =
    true≢false (sym (sym (ap (λ h. shows_put t.owner None h owner head) two)
    ∙ (sym (ap (λ o. shows_put t.owner o t.new_head owner head) one) ∙ shown)))

-- the first chunks of a group: at the register at which it is done
part_done : (owner : Owner) (head : Head) (place : ℕ) (done : List ℕ) (sends more : Message → Bool)
    (k l at m : Register) (sent : Message)
    → Puts owner head place sent.transaction → sent.transaction.new_head ≡ None → SendsToo sends more sent
    → Laid owner head place done sends k l → IsEither owner l (with_writes l sent) at
    → holds at sent.transaction ≡ true → m ≡ with_writes at sent
    → Laid owner head (suc place) (done ++ sent.bytes) more k m
part_done owner head place done sends more k l at m sent puts stays too laid (inl over) held is =
    absurd (never_over owner at.owner over (sym (holds_owner at sent.transaction held) ∙ puts.of))
part_done owner head place done sends more k l at m sent puts stays too laid (inr (inl a)) held is =
    laid_by owner head place done sends more k l m sent puts stays too laid
    (alike_on m (with_writes at sent) (with_writes l sent) (alike_is m (with_writes at sent) is)
    (writes_alike at l sent a))
part_done owner head place done sends more k l at m sent puts stays too laid (inr (inr a)) held is =
    let w = with_writes l sent in
    laid_by owner head place done sends more k l m sent puts stays too laid
    (alike_on m (with_writes at sent) w (alike_is m (with_writes at sent) is)
    (alike_on (with_writes at sent) (with_writes w sent) w (writes_alike at w sent a)
    (laid_again head (suc place) w sent puts.no_claim (laid_itself owner head place l sent puts stays))))

part_keeps : (owner : Owner) (head : Head) (place : ℕ) (sends more : Message → Bool) (l : Register) (sent : Message)
    → Puts owner head place sent.transaction → sent.transaction.new_head ≡ None → SendsToo sends more sent
    → l.head ≡ head → AreLaid sends owner head place l → (x : Message) → more x ≡ true → IsOf owner x.transaction
    → Keeps2 l (with_writes l sent) x
part_keeps owner head place sends more l sent puts stays too headed laid x is of = record {
  at_one = λ held. by held (too x is);
  at_other = λ held.
      laid_keeps head (suc place) (with_writes l sent) x (ap (λ h. unwrap_or h l.head) stays ∙ headed) of.1
      (are_laid_on owner head place sends more l sent puts stays too laid x is of) held;
}
  where
    by : holds l x.transaction ≡ true → (x ≡ sent) ⊎ (sends x ≡ true)
        → Alike (with_writes l x) l ⊎ Alike (with_writes l x) (with_writes l sent)
    by held (inl same) = inr (alike_is (with_writes l x) (with_writes l sent) (ap (λ y. with_writes l y) same))
    by held (inr old) = inl (laid_keeps head place l x headed of.1 (laid x old of) held)

by_did : (owner : Owner) (head : Head) (place : ℕ) (done : List ℕ) (sends more : Message → Bool)
    (k l at m : Register) (sent : Message)
    → Puts owner head place sent.transaction → sent.transaction.new_head ≡ None → SendsToo sends more sent
    → Laid owner head place done sends k l → IsEither owner l (with_writes l sent) at → Did sent at m
    → Laid owner head (suc place) (done ++ sent.bytes) more k m
by_did owner head place done sends more k l at m sent puts stays too laid e (inl d) =
    part_done owner head place done sends more k l at m sent puts stays too laid e d.0 d.1
by_did owner head place done sends more k l at m sent puts stays too laid e (inr d) =
    absurd (shows_nothing sent.transaction m.owner m.head puts.no_claim stays d.0)

by_over : (owner : Owner) (head : Head) (place : ℕ) (at m : Register) (sent : Message)
    → Puts owner head place sent.transaction → sent.transaction.new_head ≡ None → owner.epoch < at.owner.epoch
    → Did sent at m → ⊥
by_over owner head place at m sent puts stays over (inl d) =
    never_over owner at.owner over (sym (holds_owner at sent.transaction d.0) ∙ puts.of)
by_over owner head place at m sent puts stays over (inr d) =
    shows_nothing sent.transaction m.owner m.head puts.no_claim stays d.0

pub lay_part : (owner : Owner) (head : Head) (place : ℕ) (done : List ℕ) (is_own : Owner → Bool)
    (sends more : Message → Bool) (k l m : Register) (sent : Message) (answer : Answer)
    → Puts owner head place sent.transaction → sent.transaction.new_head ≡ None → SendsToo sends more sent
    → is_own owner ≡ true → Exchanges is_own more sent answer l m
    → outcome_of sent.transaction answer ≡ Applied → Lays owner head place done sends k l
    → Lays owner head (suc place) (done ++ sent.bytes) more k m
lay_part owner head place done is_own sends more k l m sent answer puts stays too mine x outcome (inl over) =
    let d = applied is_own more sent answer l m x outcome in
    absurd (by_over owner head place d.0 m sent puts stays (over_on owner is_own more l d.0 d.1 over) d.2)
lay_part owner head place done is_own sends more k l m sent answer puts stays too mine x outcome (inr laid) =
    let d = applied is_own more sent answer l m x outcome in
    let w = with_writes l sent in
    let e = carried owner is_own more l w l d.0 d.1 mine
    (part_keeps owner head place sends more l sent puts stays too laid.headed laid.sent) laid.owned
    (ap (λ o. unwrap_or o l.owner) puts.no_claim ∙ laid.owned) (inr (inl (alike_itself l))) in
    inr (by_did owner head place done sends more k l d.0 m sent puts stays too laid e d.2)

-- ---- the last one

last_keeps : (owner : Owner) (head next : Head) (place : ℕ) (sends more : Message → Bool) (l : Register)
    (sent : Message)
    → Puts owner head place sent.transaction → sent.transaction.new_head ≡ Some next → is_before head next ≡ true
    → SendsToo sends more sent → CompareNoLater sends owner head → l.head ≡ head → AreLaid sends owner head place l
    → (x : Message) → more x ≡ true → IsOf owner x.transaction → Keeps2 l (with_writes l sent) x
last_keeps owner head next place sends more l sent puts moves later too no_later headed laid x is of = record {
  at_one = λ held. by held (too x is);
  at_other = λ held.
      absurd (never_holds next (with_writes l sent) x (ap (λ h. unwrap_or h l.head) moves)
      (settled_on owner head next more later (no_later_on owner head place sends more sent puts too no_later) x is of)
      held);
}
  where
    by : holds l x.transaction ≡ true → (x ≡ sent) ⊎ (sends x ≡ true)
        → Alike (with_writes l x) l ⊎ Alike (with_writes l x) (with_writes l sent)
    by held (inl same) = inr (alike_is (with_writes l x) (with_writes l sent) (ap (λ y. with_writes l y) same))
    by held (inr old) = inl (laid_keeps head place l x headed of.1 (laid x old of) held)

-- what a register shows that shows the head that was put
shown_is : (t : Transaction) (next : Head) (owner : Owner) (head : Head) → t.new_owner ≡ None
    → t.new_head ≡ Some next → shows t owner head ≡ true → (t.owner ≡ owner) × (next ≡ head)
shown_is t next owner head one two shown =
    let is = ap (λ h. shows_put t.owner None h owner head) (sym two)
    ∙ (ap (λ o. shows_put t.owner o t.new_head owner head) (sym one) ∙ shown) in
    let parts = and_parts (is_owner t.owner owner) (is_head next head) is in
    (same_owner t.owner owner parts.0, same_head next head parts.1)

appended_by : (owner : Owner) (head : Head) (place : ℕ) (end : LogEnd) (done : List ℕ) (sends : Message → Bool)
    (k l m : Register) (sent : Message)
    → Puts owner head place sent.transaction → sent.transaction.new_head ≡ Some (moved_head head place end)
    → Laid owner head place done sends k l → Alike m (with_writes l sent)
    → Appended owner head (moved_head head place end) (done ++ sent.bytes) k m
appended_by owner head place end done sends k l m sent puts moves laid a =
    let generation = head.extent.generation in
    let e : suc (head.extent.chunks + place) ≡ head.extent.chunks + place + 1 = omega arith in record {
      began = laid.began;
      owned = a.0 ∙ (ap (λ o. unwrap_or o l.owner) puts.no_claim ∙ laid.owned);
      headed = a.1 ∙ ap (λ h. unwrap_or h l.head) moves;
      joined = λ before joins.
          subst (λ (n : ℕ). Joins (m.chunk generation) n (before ++ (done ++ sent.bytes))) e
          (subst (λ (c : Generation → ℕ → Option (List ℕ)). Joins (c generation) (suc (head.extent.chunks + place)) (before ++ (done ++ sent.bytes))) (sym a.2)
          (put_joins owner head place done sends k l sent puts laid before joins));
    }

last_done : (owner : Owner) (head : Head) (place : ℕ) (end : LogEnd) (done : List ℕ) (sends more : Message → Bool)
    (k l at m : Register) (sent : Message)
    → Puts owner head place sent.transaction → sent.transaction.new_head ≡ Some (moved_head head place end)
    → Laid owner head place done sends k l → IsEither owner l (with_writes l sent) at → Did sent at m
    → Appended owner head (moved_head head place end) (done ++ sent.bytes) k m
last_done owner head place end done sends more k l at m sent puts moves laid (inl over) (inl d) =
    absurd (never_over owner at.owner over (sym (holds_owner at sent.transaction d.0) ∙ puts.of))
last_done owner head place end done sends more k l at m sent puts moves laid (inl over) (inr d) =
    let shown = shown_is sent.transaction (moved_head head place end) m.owner m.head puts.no_claim moves d.0 in
    absurd (never_over owner m.owner (subst (λ (r : Register). owner.epoch < r.owner.epoch) (sym d.1) over)
    (sym shown.0 ∙ puts.of))
last_done owner head place end done sends more k l at m sent puts moves laid (inr (inl a)) (inl d) =
    appended_by owner head place end done sends k l m sent puts moves laid
    (alike_on m (with_writes at sent) (with_writes l sent) (alike_is m (with_writes at sent) d.1)
    (writes_alike at l sent a))
last_done owner head place end done sends more k l at m sent puts moves laid (inr (inl a)) (inr d) =
    let next = moved_head head place end in
    let shown = shown_is sent.transaction next m.owner m.head puts.no_claim moves d.0 in
    let is : next ≡ head = shown.1 ∙ (ap (λ (r : Register). r.head) d.1 ∙ (a.1 ∙ laid.headed)) in
    absurd (never_before head (subst (λ h. is_before head h ≡ true) is (moved_later head place end)))
last_done owner head place end done sends more k l at m sent puts moves laid (inr (inr a)) (inl d) =
    let next = moved_head head place end in
    let w = with_writes l sent in
    absurd (never_holds next w sent (ap (λ h. unwrap_or h l.head) moves)
    (subst (λ c. compares_earlier c next ≡ true) (sym puts.compared) (moved_later head place end))
    (holds_alike at w sent.transaction a d.0))
last_done owner head place end done sends more k l at m sent puts moves laid (inr (inr a)) (inr d) =
    appended_by owner head place end done sends k l m sent puts moves laid
    (alike_on m at (with_writes l sent) (alike_is m at d.1) a)

last_over : (owner : Owner) (head next : Head) (place : ℕ) (at m : Register) (sent : Message)
    → Puts owner head place sent.transaction → sent.transaction.new_head ≡ Some next
    → owner.epoch < at.owner.epoch → Did sent at m → ⊥
last_over owner head next place at m sent puts moves over (inl d) =
    never_over owner at.owner over (sym (holds_owner at sent.transaction d.0) ∙ puts.of)
last_over owner head next place at m sent puts moves over (inr d) =
    let shown = shown_is sent.transaction next m.owner m.head puts.no_claim moves d.0 in
    never_over owner m.owner (subst (λ (r : Register). owner.epoch < r.owner.epoch) (sym d.1) over)
    (sym shown.0 ∙ puts.of)

pub lay_last : (owner : Owner) (head : Head) (place : ℕ) (end : LogEnd) (done : List ℕ) (is_own : Owner → Bool)
    (sends more : Message → Bool) (k l m : Register) (sent : Message) (answer : Answer)
    → Puts owner head place sent.transaction → sent.transaction.new_head ≡ Some (moved_head head place end)
    → SendsToo sends more sent → CompareNoLater sends owner head → is_own owner ≡ true
    → Exchanges is_own more sent answer l m
    → outcome_of sent.transaction answer ≡ Applied → Lays owner head place done sends k l
    → Appended owner head (moved_head head place end) (done ++ sent.bytes) k m
lay_last owner head place end done is_own sends more k l m sent answer puts moves too no_later mine x outcome (inl over) =
    let d = applied is_own more sent answer l m x outcome in
    absurd (last_over owner head (moved_head head place end) place d.0 m sent puts moves
    (over_on owner is_own more l d.0 d.1 over) d.2)
lay_last owner head place end done is_own sends more k l m sent answer puts moves too no_later mine x outcome (inr laid) =
    let d = applied is_own more sent answer l m x outcome in
    let w = with_writes l sent in
    let e = carried owner is_own more l w l d.0 d.1 mine
    (last_keeps owner head (moved_head head place end) place sends more l sent puts moves (moved_later head place end)
    too no_later laid.headed laid.sent) laid.owned
    (ap (λ o. unwrap_or o l.owner) puts.no_claim ∙ laid.owned) (inr (inl (alike_itself l))) in
    last_done owner head place end done sends more k l d.0 m sent puts moves laid e d.2

-- ---- before the first chunk

pub lays_none : (owner : Owner) (head : Head) (sends : Message → Bool) (k : Register) → AreSettled sends owner head
    → is_current owner head k ≡ true → Lays owner head 0 [] sends k k
lays_none owner head sends k settled current = by (current_tells owner head k current)
  where
    by : IsCurrent owner head k → Lays owner head 0 [] sends k k
    by (inl over) = inl over
    by (inr both) =
        let generation = head.extent.generation in
        let e : head.extent.chunks ≡ head.extent.chunks + 0 = omega arith in
        inr (record {
          began = both.0;
          owned = both.0;
          headed = both.1;
          joined = λ before joins.
              subst (λ (n : ℕ). Joins (k.chunk generation) n (before ++ [])) e
              (subst (Joins (k.chunk generation) head.extent.chunks) (sym (append-nil before)) joins);
          sent = λ x is of. inl (settled x is of);
        })

pub some_head : (s t : Head) → Some s ≡ Some t → s ≡ t
some_head s t e = cc
