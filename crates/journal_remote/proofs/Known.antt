-- What an owner knows of its register, from call to call.
use Rattle.std.proofs.Common.{◌≡◌, ℕ, ◌+◌, ◌<◌, ◌&&◌, Bool, true, List, ◌++◌, length, take, inl, inr, sym, ap, subst}
use Rattle.std.proofs.Common.{◌∙◌, arith}
use Rattle.std.specs.Prelude.{◌⊎◌, Option, Some}
use Rattle.std.proofs.Math.Seq.{take-length}
use Rattle.std.proofs.lemmas.Bool.{and_parts}
use Rattle.journal_register.specs.declared.owner.Owner.{Owner}
use Rattle.journal_register.specs.declared.head.Generation.{Generation}
use Rattle.journal_register.specs.declared.head.Head.{Head}
use Rattle.journal_register.specs.declared.look.Look.{Look}
use Rattle.journal_register.specs.Laws.{look_at}
use Rattle.journal_register.specs.Order.{is_owner, is_head}
use Rattle.journal_register.specs.Register.{Register, Message}
use Rattle.journal_register.proofs.Orders.{same_owner}
use Rattle.journal_remote.specs.Ends.{EndsBehind, no_end}
use Rattle.journal_remote.specs.Joined.{Joins, JoinsFrom}
use Rattle.journal_remote.specs.Passing.{Between, Goes}
use Rattle.journal_remote.specs.Kept.{AreSettled, is_current, Keeps}
use Rattle.journal_remote.specs.Laid.{Appended}
use Rattle.journal_remote.proofs.Passing.{known_before, known_behind}
use Rattle.journal_remote.proofs.Ending.{ends_on}
use Rattle.journal_remote.proofs.Joining.{joins_on}
use Rattle.journal_remote.proofs.Carried.{Alike, alike_on, over_on, never_over, quiet_current, current_on}
use Rattle.journal_remote.proofs.Carried.{current_tells, IsCurrent}

abbrev pub AreCurrent : Owner → Head → Option Register → Type 0
AreCurrent owner head register = (k : Register) → register ≡ Some k → is_current owner head k ≡ true

pub are_current_on : (owner : Owner) (head : Head) (is_own : Owner → Bool) (sends : Message → Bool)
    (a b : Option Register)
    → Between a b (Goes is_own sends) → is_own owner ≡ true → AreSettled sends owner head → AreCurrent owner head a
    → AreCurrent owner head b
are_current_on owner head is_own sends a b goes mine settled current n e =
    let k = known_before a b (Goes is_own sends) n goes e in
    current_on owner head is_own sends k.0 n k.2 mine settled (current k.0 k.1)

-- ---- what is read

abbrev pub Read : Owner → Head → ℕ → List ℕ → Register → Register → Type 0
Read owner head count bytes k l =
    (owner.epoch < l.owner.epoch) ⊎ (Alike l k × Joins (k.chunk head.extent.generation) count bytes)

read_on : (owner : Owner) (head : Head) (is_own : Owner → Bool) (sends : Message → Bool) (k l m : Register)
    → Goes is_own sends l m → is_own owner ≡ true → AreSettled sends owner head → IsCurrent owner head k → Alike l k
    → (owner.epoch < m.owner.epoch) ⊎ Alike m k
read_on owner head is_own sends k l m goes mine settled current a =
    by (quiet_current owner head is_own sends l m goes mine settled (there current))
  where
    there : IsCurrent owner head k → IsCurrent owner head l
    there (inl over) = inl (subst (λ (o : Owner). owner.epoch < o.epoch) (sym a.0) over)
    there (inr both) = inr (a.0 ∙ both.0, a.1 ∙ both.1)

    by : (owner.epoch < m.owner.epoch) ⊎ (Alike m l × (l.owner ≡ owner) × (l.head ≡ head))
        → (owner.epoch < m.owner.epoch) ⊎ Alike m k
    by (inl over) = inl over
    by (inr q) = inr (alike_on m l k q.0 a)

pub read_more : (owner : Owner) (head : Head) (is_own : Owner → Bool) (sends : Message → Bool) (k l m : Register)
    (index count : ℕ) (bytes more : List ℕ)
    → Goes is_own sends l m → is_own owner ≡ true → AreSettled sends owner head → is_current owner head k ≡ true
    → Read owner head index bytes k l → JoinsFrom (m.chunk head.extent.generation) index count more
    → Read owner head (index + count) (bytes ++ more) k m
read_more owner head is_own sends k l m index count bytes more goes mine settled current (inl over) joins =
    inl (over_on owner is_own sends l m goes over)
read_more owner head is_own sends k l m index count bytes more goes mine settled current (inr r) joins =
    by (read_on owner head is_own sends k l m goes mine settled (current_tells owner head k current) r.0)
  where
    by : (owner.epoch < m.owner.epoch) ⊎ Alike m k → Read owner head (index + count) (bytes ++ more) k m
    by (inl over) = inl over
    by (inr a) =
        let same : JoinsFrom (k.chunk head.extent.generation) index count more = subst
        (λ (c : Generation → ℕ → Option (List ℕ)). JoinsFrom (c head.extent.generation) index count more) a.2 joins in
        inr (a, joins_on (k.chunk head.extent.generation) index count bytes more r.1 same)

pub read_all : (owner : Owner) (head : Head) (is_own : Owner → Bool) (sends : Message → Bool) (k l m : Register)
    (count : ℕ) (bytes : List ℕ)
    → Goes is_own sends l m → is_own owner ≡ true → AreSettled sends owner head → is_current owner head k ≡ true
    → Read owner head count bytes k l → m.owner ≡ owner
    → Joins (k.chunk head.extent.generation) count bytes × Joins (m.chunk head.extent.generation) count bytes
read_all owner head is_own sends k l m count bytes goes mine settled current (inl over) is =
    absurd (never_over owner m.owner (over_on owner is_own sends l m goes over) is)
read_all owner head is_own sends k l m count bytes goes mine settled current (inr r) is =
    by (read_on owner head is_own sends k l m goes mine settled (current_tells owner head k current) r.0)
  where
    by : (owner.epoch < m.owner.epoch) ⊎ Alike m k
        → Joins (k.chunk head.extent.generation) count bytes × Joins (m.chunk head.extent.generation) count bytes
    by (inl over) = absurd (never_over owner m.owner over is)
    by (inr a) = (
      r.1,
      subst (λ (c : Generation → ℕ → Option (List ℕ)). Joins (c head.extent.generation) count bytes) (sym a.2) r.1,
    )

-- a look that shows the owner
pub shown_owner : (owner : Owner) (head : Head) (look : Look) (m : Register) → look ≡ look_at look.cluster m
    → (is_owner owner look.owner && is_head head look.head) ≡ true → m.owner ≡ owner
shown_owner owner head look m is shown =
    let parts = and_parts (is_owner owner look.owner) (is_head head look.head) shown in
    sym (same_owner owner look.owner parts.0 ∙ ap (λ (l : Look). l.owner) is)

pub confirmed_owner : (owner : Owner) (look : Look) (m : Register) → look ≡ look_at look.cluster m
    → is_owner owner look.owner ≡ true → m.owner ≡ owner
confirmed_owner owner look m is shown = sym (same_owner owner look.owner shown ∙ ap (λ (l : Look). l.owner) is)

-- ---- what is kept

pub keeps_on : (owner : Owner) (head : Head) (is_own : Owner → Bool) (sends : Message → Bool) (a b : Option Register)
    (bytes : List ℕ)
    → Between a b (Goes is_own sends) → is_own owner ≡ true → AreSettled sends owner head → AreCurrent owner head a
    → Keeps owner head bytes a → Keeps owner head bytes b
keeps_on owner head is_own sends a b bytes goes mine settled current keeps = record {
  joined = λ n e is.
      let k = known_before a b (Goes is_own sends) n goes e in
      by n is k.0 k.1 (quiet_current owner head is_own sends k.0 n k.2 mine settled
      (current_tells owner head k.0 (current k.0 k.1)));
  ended = keeps.ended;
}
  where
    by : (n : Register) → n.owner ≡ owner → (k : Register) → a ≡ Some k
        → (owner.epoch < n.owner.epoch) ⊎ (Alike n k × (k.owner ≡ owner) × (k.head ≡ head))
        → Joins (n.chunk head.extent.generation) head.extent.chunks bytes
    by n is k e (inl over) = absurd (never_over owner n.owner over is)
    by n is k e (inr q) =
        subst (λ (c : Generation → ℕ → Option (List ℕ)). Joins (c head.extent.generation) head.extent.chunks bytes)
        (sym q.0.2) (keeps.joined k e q.1)

pub keeps_more : (owner : Owner) (head next : Head) (a b : Option Register) (before bytes : List ℕ)
    → Between a b (λ k l. is_current owner head k ≡ true → Appended owner head next bytes k l)
    → AreCurrent owner head a → EndsBehind head.extent.end bytes next.extent.end
    → Keeps owner head before a → Keeps owner next (before ++ bytes) b
keeps_more owner head next a b before bytes appended current ends keeps =
    record {
      joined = λ n e is.
          let k = known_before a b (λ k l. is_current owner head k ≡ true → Appended owner head next bytes k l) n
          appended e in
          let did = k.2 (current k.0 k.1) in
          did.joined before (keeps.joined k.0 k.1 did.began);
      ended = ends_on no_end head.extent.end next.extent.end before bytes keeps.ended ends;
    }

pub current_next : (owner : Owner) (head next : Head) (a b : Option Register) (bytes : List ℕ)
    → Between a b (λ k l. is_current owner head k ≡ true → Appended owner head next bytes k l)
    → AreCurrent owner head a
    → (n : Register) → b ≡ Some n → (n.owner ≡ owner) × (n.head ≡ next)
current_next owner head next a b bytes appended current n e =
    let k = known_before a b (λ k l. is_current owner head k ≡ true → Appended owner head next bytes k l) n appended e in
    let did = k.2 (current k.0 k.1) in
    (did.owned, did.headed)

pub keeps_itself : (owner : Owner) (head : Head) (a : Option Register) (bytes : List ℕ) (len : ℕ)
    → len ≡ head.extent.end.position → Keeps owner head bytes a → Keeps owner head (take len bytes) a
keeps_itself owner head a bytes len is keeps =
    let position : 0 + length bytes ≡ len = sym keeps.ended.position ∙ sym is in
    let e : length bytes ≡ len = omega (arith, position) in
    subst (λ b. Keeps owner head b a)
    (sym (take-length bytes) ∙ ap (λ (n : ℕ). take n bytes) e) keeps

-- all that was read, where a look behind it shows the owner
pub fetched : (owner : Owner) (head : Head) (is_own : Owner → Bool) (sends : Message → Bool) (a b c : Option Register)
    (count : ℕ) (bytes : List ℕ)
    → Between a b (λ k l. is_current owner head k ≡ true → Read owner head count bytes k l)
    → Between b c (Goes is_own sends) → is_own owner ≡ true → AreSettled sends owner head → AreCurrent owner head a
    → ((m : Register) → c ≡ Some m → m.owner ≡ owner) → count ≡ head.extent.chunks
    → ((k : Register) → a ≡ Some k → Joins (k.chunk head.extent.generation) head.extent.chunks bytes)
    × ((m : Register) → c ≡ Some m → Joins (m.chunk head.extent.generation) head.extent.chunks bytes)
fetched owner head is_own sends a b c count bytes read goes mine settled current shown all = (
  λ k e.
      let l = known_behind a b (λ k l. is_current owner head k ≡ true → Read owner head count bytes k l) k read e in
      let m = known_behind b c (Goes is_own sends) l.0 goes l.1 in
      let both = read_all owner head is_own sends k l.0 m.0 count bytes m.2 mine settled (current k e)
      (l.2 (current k e)) (shown m.0 m.1) in
      subst (λ (n : ℕ). Joins (k.chunk head.extent.generation) n bytes) all both.0,
  λ m e.
      let l = known_before b c (Goes is_own sends) m goes e in
      let k = known_before a b (λ k l. is_current owner head k ≡ true → Read owner head count bytes k l) l.0 read l.1 in
      let both = read_all owner head is_own sends k.0 l.0 m count bytes l.2 mine settled (current k.0 k.1)
      (k.2 (current k.0 k.1)) (shown m e) in
      subst (λ (n : ℕ). Joins (m.chunk head.extent.generation) n bytes) all both.1,
)
