-- What stands below the head's end stays, and what was staged stands.
use Rattle.std.proofs.Common.{◌≡◌, ℕ, ◌<◌, ◌≤◌, ◌==◌, arith, true, false, cond, List, [], ◌∷◌, inl, inr}
use Rattle.std.proofs.Common.{refl}
use Rattle.std.proofs.Common.{sym, ap, subst, ◌∙◌}
use Rattle.std.specs.Prelude.{◌⊎◌, Option, Some, None, unwrap_or, IfSome, IsSomeAnd}
use Rattle.std.proofs.lemmas.Bool.{and_parts, both_ways, true≢false, cond_both, eqb-true}
use Rattle.journal_register.specs.declared.head.Generation.{Generation}
use Rattle.journal_register.specs.declared.head.Head.{Head}
use Rattle.journal_register.specs.declared.transaction.ChunkKey.{ChunkKey}
use Rattle.journal_register.specs.Order.{is_generation, is_earlier}
use Rattle.journal_register.specs.Register.{Register, Message, has_head, is_at, is_of, chunk_with, with_writes, after}
use Rattle.journal_register.specs.Register.{after_all}
use Rattle.journal_register.specs.Lawful.{IsLawful, AreLawful}
use Rattle.journal_register.specs.Laws.{StagesOnly, BelowTheHeadStands, StagedStands}
use Rattle.journal_register.proofs.Orders.{same_generation, same_head, never_earlier, earlier_on}
use Rattle.journal_register.proofs.Orders.{IsBefore, before_tells, more_chunks}
use Rattle.journal_register.proofs.Rising.{each_after, holds_head, IsAhead, head_with}

-- ---- where a chunk is put, and what is deleted

put_where : (put : Option ChunkKey) (compared : Option Head) (head : Head) (generation : Generation) (index : ℕ)
    → IfSome put (λ key. IfSome compared (λ h. (key.generation ≡ h.extent.generation) × (h.extent.chunks ≤ key.index)))
    → has_head compared head ≡ true → is_at put generation index ≡ true
    → (compared ≡ None) ⊎ ((head.extent.generation ≡ generation) × (head.extent.chunks ≤ index))
put_where None compared head generation index puts has at = absurd (true≢false (sym at))
put_where (Some key) None head generation index puts has at = inl refl
put_where (Some key) (Some h) head generation index puts has at =
    let parts = and_parts (is_generation key.generation generation) (key.index == index) at in
    let one = same_generation key.generation generation parts.0 in
    let two = eqb-true key.index index parts.1 in
    let three = same_head h head has in
    let more = puts.1 in
    let count = ap (λ (x : Head). x.extent.chunks) three in
    inr (sym (ap (λ (x : Head). x.extent.generation) three) ∙ sym puts.0 ∙ one, omega arith)

not_deleted : (deleted : Option Generation) (compared : Option Head) (head : Head) (generation : Generation)
    → IfSome deleted (λ g. IsSomeAnd compared (λ h. is_generation g h.extent.generation ≡ false))
    → has_head compared head ≡ true → is_of deleted generation ≡ true → head.extent.generation ≡ generation → ⊥
not_deleted None compared head generation deletes has of is = true≢false (sym of)
not_deleted (Some g) None head generation deletes has of is = deletes
not_deleted (Some g) (Some h) head generation deletes has of is =
    let there = ap (λ (x : Head). x.extent.generation) (same_head h head has) ∙ is in
    both_ways (is_generation g generation) (subst (λ x. is_generation g x ≡ false) there deletes) of

-- ---- a chunk that stands below the head's end

-- below the end of the head of its generation; or behind a switch there or deleted
abbrev Stands : Generation → ℕ → List ℕ → Register → Type 0
Stands generation index bytes n =
    ((n.head.extent.generation ≡ generation) × (index < n.head.extent.chunks) × (n.chunk generation index ≡ Some bytes))
    ⊎ ((is_earlier generation n.head.extent.generation ≡ true)
    × ((n.chunk generation index ≡ Some bytes) ⊎ (n.chunk generation index ≡ None)))

abbrev PutsOnly : Generation → ℕ → List ℕ → Message → Type 0
PutsOnly generation index bytes m =
    m.transaction.head ≡ None → is_at m.transaction.chunk generation index ≡ true → m.bytes ≡ bytes

less_and_not : (m n : ℕ) → m < n → n ≤ m → ⊥
less_and_not m n less le = omega arith

put_behind : (k : Register) (m : Message) (generation : Generation) (index : ℕ) (bytes : List ℕ)
    → PutsOnly generation index bytes m → is_at m.transaction.chunk generation index ≡ true
    → (m.transaction.head ≡ None) ⊎ ((k.head.extent.generation ≡ generation) × (k.head.extent.chunks ≤ index))
    → ((k.head.extent.generation ≡ generation) → (k.head.extent.chunks ≤ index) → ⊥)
    → Some m.bytes ≡ Some bytes
put_behind k m generation index bytes only there (inl none) never = ap Some (only none there)
put_behind k m generation index bytes only there (inr behind) never = absurd (never behind.0 behind.1)

chunk_kept : (k : Register) (m : Message) (generation : Generation) (index : ℕ) (bytes : List ℕ)
    → IsLawful m.transaction → PutsOnly generation index bytes m → has_head m.transaction.head k.head ≡ true
    → k.head.extent.generation ≡ generation → index < k.head.extent.chunks → k.chunk generation index ≡ Some bytes
    → chunk_with k m generation index ≡ Some bytes
chunk_kept k m generation index bytes lawful only has is below stands =
    cond_both (is_at m.transaction.chunk generation index) (Some m.bytes)
    (cond (is_of m.transaction.deleted generation) None (k.chunk generation index)) (λ c. c ≡ Some bytes)
    (λ there. put_behind k m generation index bytes only there
    (put_where m.transaction.chunk m.transaction.head k.head generation index lawful.puts has there)
    (λ _ le. less_and_not index k.head.extent.chunks below le))
    (λ _. cond_both (is_of m.transaction.deleted generation) None (k.chunk generation index) (λ c. c ≡ Some bytes)
    (λ of. absurd (not_deleted m.transaction.deleted m.transaction.head k.head generation lawful.deletes has of is))
    (λ _. stands))

chunk_left : (k : Register) (m : Message) (generation : Generation) (index : ℕ) (bytes : List ℕ)
    → IsLawful m.transaction → PutsOnly generation index bytes m → has_head m.transaction.head k.head ≡ true
    → is_earlier generation k.head.extent.generation ≡ true
    → (k.chunk generation index ≡ Some bytes) ⊎ (k.chunk generation index ≡ None)
    → (chunk_with k m generation index ≡ Some bytes) ⊎ (chunk_with k m generation index ≡ None)
chunk_left k m generation index bytes lawful only has left stands =
    cond_both (is_at m.transaction.chunk generation index) (Some m.bytes)
    (cond (is_of m.transaction.deleted generation) None (k.chunk generation index)) (λ c. (c ≡ Some bytes) ⊎ (c ≡ None))
    (λ there. inl (put_behind k m generation index bytes only there
    (put_where m.transaction.chunk m.transaction.head k.head generation index lawful.puts has there)
    (λ same _. never_earlier generation (subst (λ g. is_earlier generation g ≡ true) same left))))
    (λ _. cond_both (is_of m.transaction.deleted generation) None (k.chunk generation index)
    (λ c. (c ≡ Some bytes) ⊎ (c ≡ None)) (λ _. inr refl) (λ _. stands))

-- with the next head in place of this one
stands_on : (generation : Generation) (index : ℕ) (head next : Head) (chunk : Option (List ℕ)) (bytes : List ℕ)
    → head.extent.generation ≡ generation → index < head.extent.chunks → chunk ≡ Some bytes → IsAhead head next
    → ((next.extent.generation ≡ generation) × (index < next.extent.chunks) × (chunk ≡ Some bytes))
    ⊎ ((is_earlier generation next.extent.generation ≡ true) × ((chunk ≡ Some bytes) ⊎ (chunk ≡ None)))
stands_on generation index head next chunk bytes is below stands (inl same) =
    inl (
      ap (λ (h : Head). h.extent.generation) same ∙ is,
      subst (λ (h : Head). index < h.extent.chunks)
          (sym same) below,
      stands,
    )
stands_on generation index head next chunk bytes is below stands (inr before) = by (before_tells head next before)
  where
    by : IsBefore head next
        → ((next.extent.generation ≡ generation) × (index < next.extent.chunks) × (chunk ≡ Some bytes))
        ⊎ ((is_earlier generation next.extent.generation ≡ true) × ((chunk ≡ Some bytes) ⊎ (chunk ≡ None)))
    by (inl earlier) = inr (subst (λ g. is_earlier g next.extent.generation ≡ true) is earlier, inl stands)
    by (inr more) = let le = more_chunks head next more.1 in inl (sym more.0 ∙ is, omega arith, stands)

left_on : (generation : Generation) (head next : Head) → is_earlier generation head.extent.generation ≡ true
    → IsAhead head next
    → is_earlier generation next.extent.generation ≡ true
left_on generation head next left (inl same) =
    subst (λ (h : Head). is_earlier generation h.extent.generation ≡ true) (sym same) left
left_on generation head next left (inr before) = by (before_tells head next before)
  where
    by : IsBefore head next → is_earlier generation next.extent.generation ≡ true
    by (inl earlier) = earlier_on generation head.extent.generation next.extent.generation left earlier
    by (inr more) = subst (λ g. is_earlier generation g ≡ true) more.0 left

stands_with : (k : Register) (m : Message) (generation : Generation) (index : ℕ) (bytes : List ℕ)
    → IsLawful m.transaction → PutsOnly generation index bytes m → has_head m.transaction.head k.head ≡ true
    → Stands generation index bytes k → Stands generation index bytes (with_writes k m)
stands_with k m generation index bytes lawful only has (inl s) =
    stands_on generation index k.head (unwrap_or m.transaction.new_head k.head)
    (chunk_with k m generation index) bytes s.0 s.1
    (chunk_kept k m generation index bytes lawful only has s.0 s.1 s.2)
    (head_with m.transaction.new_head m.transaction.head k.head lawful.moves has)
stands_with k m generation index bytes lawful only has (inr s) = inr (
  left_on generation k.head (unwrap_or m.transaction.new_head k.head) s.0
      (head_with m.transaction.new_head m.transaction.head k.head lawful.moves has),
  chunk_left k m generation index bytes lawful only has s.0 s.1,
)

stands_all : (generation : Generation) (index : ℕ) (bytes : List ℕ) (sent : List Message) (k : Register)
    → AreLawful sent → StagesOnly generation index bytes sent → Stands generation index bytes k
    → Stands generation index bytes (after_all k sent)
stands_all generation index bytes [] k lawful only s = s
stands_all generation index bytes (m ∷ ms) k lawful only s =
    stands_all generation index bytes ms (after k m) lawful.1 only.1
    (each_after (Stands generation index bytes) k m
    (λ held. stands_with k m generation index bytes lawful.0 only.0 (holds_head k m.transaction held) s) s)

there_or_deleted : (generation : Generation) (index : ℕ) (bytes : List ℕ) (n : Register)
    → is_earlier generation n.head.extent.generation ≡ true
    → (n.chunk generation index ≡ Some bytes) ⊎ (n.chunk generation index ≡ None)
    → (n.chunk generation index ≡ Some bytes)
    ⊎ ((is_earlier generation n.head.extent.generation ≡ true) × (n.chunk generation index ≡ None))
there_or_deleted generation index bytes n left (inl there) = inl there
there_or_deleted generation index bytes n left (inr none) = inr (left, none)

stands_or_deleted : (generation : Generation) (index : ℕ) (bytes : List ℕ) (n : Register)
    → Stands generation index bytes n
    → (n.chunk generation index ≡ Some bytes)
    ⊎ ((is_earlier generation n.head.extent.generation ≡ true) × (n.chunk generation index ≡ None))
stands_or_deleted generation index bytes n (inl s) = inl s.2
stands_or_deleted generation index bytes n (inr s) = there_or_deleted generation index bytes n s.0 s.1

pub below : BelowTheHeadStands
below k sent index bytes lawful less stands only =
    stands_or_deleted k.head.extent.generation index bytes (after_all k sent)
    (stands_all k.head.extent.generation index bytes sent k lawful only (inl (refl, less, stands)))

-- ---- a chunk that was staged

staged_with : (k : Register) (m : Message) (generation : Generation) (index : ℕ) (bytes : List ℕ)
    → (is_at m.transaction.chunk generation index ≡ true → m.bytes ≡ bytes)
    → is_of m.transaction.deleted generation ≡ false
    → k.chunk generation index ≡ Some bytes → chunk_with k m generation index ≡ Some bytes
staged_with k m generation index bytes puts deletes stands =
    cond_both (is_at m.transaction.chunk generation index) (Some m.bytes)
    (cond (is_of m.transaction.deleted generation) None (k.chunk generation index)) (λ c. c ≡ Some bytes)
    (λ at. ap Some (puts at))
    (λ _. cond_both (is_of m.transaction.deleted generation) None (k.chunk generation index) (λ c. c ≡ Some bytes)
    (λ of. absurd (both_ways (is_of m.transaction.deleted generation) deletes of)) (λ _. stands))

pub staged : StagedStands
staged k [] generation index bytes keeps stands = stands
staged k (m ∷ ms) generation index bytes keeps stands =
    staged (after k m) ms generation index bytes keeps.1
    (each_after (λ n. n.chunk generation index ≡ Some bytes) k m
    (λ _. staged_with k m generation index bytes keeps.0.0 keeps.0.1 stands) stands)
