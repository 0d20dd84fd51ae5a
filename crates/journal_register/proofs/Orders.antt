-- What the tests on owners, generations and heads tell.
use Rattle.std.proofs.Common.{◌≡◌, ℕ, ◌<◌, ◌≤◌, ◌==◌, ◌&&◌, nat_lt, arith, true, inl, inr, refl}
use Rattle.std.proofs.Common.{sym, subst, ◌∙◌}
use Rattle.std.specs.Prelude.{◌⊎◌}
use Rattle.std.proofs.lemmas.Bool.{and_parts, and_from, or_cases, or_left, or_right, eqb-true, eq-eqb, ltb-true, lt-ltb}
use Rattle.journal_file.specs.declared.log_end.LogEnd.{LogEnd}
use Rattle.journal_register.specs.declared.owner.Owner.{Owner}
use Rattle.journal_register.specs.declared.head.Generation.{Generation}
use Rattle.journal_register.specs.declared.head.Extent.{Extent}
use Rattle.journal_register.specs.declared.head.Switch.{Switch}
use Rattle.journal_register.specs.declared.head.Head.{Head}
use Rattle.journal_register.specs.Order.{is_owner, is_generation, is_end, is_extent, is_switch, is_head}
use Rattle.journal_register.specs.Order.{is_earlier, has_less, is_before}

-- ---- what is the same is one

pub same_owner : (a b : Owner) → is_owner a b ≡ true → a ≡ b
same_owner a b e =
    let parts = and_parts (a.epoch == b.epoch) (a.nonce == b.nonce) e in
    let epoch = eqb-true a.epoch b.epoch parts.0 in
    let nonce = eqb-true a.nonce b.nonce parts.1 in
    λ i. record { epoch = epoch i; nonce = nonce i }

pub same_generation : (a b : Generation) → is_generation a b ≡ true → a ≡ b
same_generation a b e =
    let parts = and_parts (a.epoch == b.epoch) (a.attempt == b.attempt) e in
    let epoch = eqb-true a.epoch b.epoch parts.0 in
    let attempt = eqb-true a.attempt b.attempt parts.1 in
    λ i. record { epoch = epoch i; attempt = attempt i }

same_end : (a b : LogEnd) → is_end a b ≡ true → a ≡ b
same_end a b e =
    let parts = and_parts ((a.position == b.position) && (a.sum == b.sum)) (a.count == b.count) e in
    let front = and_parts (a.position == b.position) (a.sum == b.sum) parts.0 in
    let position = eqb-true a.position b.position front.0 in
    let sum = eqb-true a.sum b.sum front.1 in
    let count = eqb-true a.count b.count parts.1 in
    λ i. record { position = position i; sum = sum i; count = count i }

same_extent : (a b : Extent) → is_extent a b ≡ true → a ≡ b
same_extent a b e =
    let parts = and_parts (is_generation a.generation b.generation && (a.chunks == b.chunks)) (is_end a.end b.end) e in
    let front = and_parts (is_generation a.generation b.generation) (a.chunks == b.chunks) parts.0 in
    let generation = same_generation a.generation b.generation front.0 in
    let chunks = eqb-true a.chunks b.chunks front.1 in
    let end = same_end a.end b.end parts.1 in
    λ i. record { generation = generation i; chunks = chunks i; end = end i }

same_switch : (a b : Switch) → is_switch a b ≡ true → a ≡ b
same_switch a b e =
    let parts = and_parts (is_extent a.from b.from && (a.chunks == b.chunks)) (is_end a.end b.end) e in
    let front = and_parts (is_extent a.from b.from) (a.chunks == b.chunks) parts.0 in
    let from = same_extent a.from b.from front.0 in
    let chunks = eqb-true a.chunks b.chunks front.1 in
    let end = same_end a.end b.end parts.1 in
    λ i. record { from = from i; chunks = chunks i; end = end i }

pub same_head : (a b : Head) → is_head a b ≡ true → a ≡ b
same_head a b e =
    let parts = and_parts (is_extent a.extent b.extent && (a.beat == b.beat)) (is_switch a.switch b.switch) e in
    let front = and_parts (is_extent a.extent b.extent) (a.beat == b.beat) parts.0 in
    let extent = same_extent a.extent b.extent front.0 in
    let beat = eqb-true a.beat b.beat front.1 in
    let switch = same_switch a.switch b.switch parts.1 in
    λ i. record { extent = extent i; beat = beat i; switch = switch i }

-- ---- and one is the same

itself : (n : ℕ) → (n == n) ≡ true
itself n = eq-eqb n n refl

pub owner_itself : (a : Owner) → is_owner a a ≡ true
owner_itself a = and_from (a.epoch == a.epoch) (a.nonce == a.nonce) (itself a.epoch) (itself a.nonce)

pub generation_itself : (a : Generation) → is_generation a a ≡ true
generation_itself a = and_from (a.epoch == a.epoch) (a.attempt == a.attempt) (itself a.epoch) (itself a.attempt)

end_itself : (a : LogEnd) → is_end a a ≡ true
end_itself a =
    and_from ((a.position == a.position) && (a.sum == a.sum)) (a.count == a.count)
    (and_from (a.position == a.position) (a.sum == a.sum) (itself a.position) (itself a.sum)) (itself a.count)

extent_itself : (a : Extent) → is_extent a a ≡ true
extent_itself a =
    and_from (is_generation a.generation a.generation && (a.chunks == a.chunks)) (is_end a.end a.end)
    (and_from (is_generation a.generation a.generation) (a.chunks == a.chunks) (generation_itself a.generation)
    (itself a.chunks))
    (end_itself a.end)

switch_itself : (a : Switch) → is_switch a a ≡ true
switch_itself a =
    and_from (is_extent a.from a.from && (a.chunks == a.chunks)) (is_end a.end a.end)
    (and_from (is_extent a.from a.from) (a.chunks == a.chunks) (extent_itself a.from) (itself a.chunks))
    (end_itself a.end)

pub head_itself : (a : Head) → is_head a a ≡ true
head_itself a =
    and_from (is_extent a.extent a.extent && (a.beat == a.beat)) (is_switch a.switch a.switch)
    (and_from (is_extent a.extent a.extent) (a.beat == a.beat) (extent_itself a.extent) (itself a.beat))
    (switch_itself a.switch)

-- ---- earlier generations

abbrev pub IsEarlier : Generation → Generation → Type 0
IsEarlier g h = (g.epoch < h.epoch) ⊎ ((g.epoch ≡ h.epoch) × (g.attempt < h.attempt))

earlier_tells : (g h : Generation) → is_earlier g h ≡ true → IsEarlier g h
earlier_tells g h e =
    by (or_cases (nat_lt g.epoch h.epoch) ((g.epoch == h.epoch) && nat_lt g.attempt h.attempt) e)
  where
    by : (nat_lt g.epoch h.epoch ≡ true) ⊎ (((g.epoch == h.epoch) && nat_lt g.attempt h.attempt) ≡ true) → IsEarlier g h
    by (inl less) = inl (ltb-true g.epoch h.epoch less)
    by (inr both) =
        let parts = and_parts (g.epoch == h.epoch) (nat_lt g.attempt h.attempt) both in
        inr (eqb-true g.epoch h.epoch parts.0, ltb-true g.attempt h.attempt parts.1)

pub earlier_when : (g h : Generation) → IsEarlier g h → is_earlier g h ≡ true
earlier_when g h (inl less) =
    or_left (nat_lt g.epoch h.epoch) ((g.epoch == h.epoch) && nat_lt g.attempt h.attempt) (lt-ltb g.epoch h.epoch less)
earlier_when g h (inr both) =
    or_right (nat_lt g.epoch h.epoch) ((g.epoch == h.epoch) && nat_lt g.attempt h.attempt)
    (and_from (g.epoch == h.epoch) (nat_lt g.attempt h.attempt) (eq-eqb g.epoch h.epoch both.0)
    (lt-ltb g.attempt h.attempt both.1))

pub never_earlier : (g : Generation) → is_earlier g g ≡ true → ⊥
never_earlier g e = by (earlier_tells g g e)
  where
    by : IsEarlier g g → ⊥
    by (inl less) = omega arith
    by (inr both) = let less = both.1 in omega arith

pub earlier_on : (f g h : Generation) → is_earlier f g ≡ true → is_earlier g h ≡ true → is_earlier f h ≡ true
earlier_on f g h one two = earlier_when f h (by (earlier_tells f g one) (earlier_tells g h two))
  where
    by : IsEarlier f g → IsEarlier g h → IsEarlier f h
    by (inl less) (inl more) = inl (omega arith)
    by (inl less) (inr more) = let e = more.0 in inl (omega arith)
    by (inr less) (inl more) = let e = less.0 in inl (omega arith)
    by (inr less) (inr more) =
        let e = less.0 in
        let f = more.0 in
        let a = less.1 in
        let b = more.1 in
        inr (e ∙ f, omega arith)

-- ---- heads that come before others

abbrev pub HasLess : Head → Head → Type 0
HasLess a b = (a.extent.chunks < b.extent.chunks) ⊎ ((a.extent.chunks ≡ b.extent.chunks) × (a.beat < b.beat))

less_tells : (a b : Head) → has_less a b ≡ true → HasLess a b
less_tells a b e =
    by (or_cases (nat_lt a.extent.chunks b.extent.chunks)
    ((a.extent.chunks == b.extent.chunks) && nat_lt a.beat b.beat) e)
  where
    by : (nat_lt a.extent.chunks b.extent.chunks ≡ true)
        ⊎ (((a.extent.chunks == b.extent.chunks) && nat_lt a.beat b.beat) ≡ true) → HasLess a b
    by (inl less) = inl (ltb-true a.extent.chunks b.extent.chunks less)
    by (inr both) =
        let parts = and_parts (a.extent.chunks == b.extent.chunks) (nat_lt a.beat b.beat) both in
        inr (eqb-true a.extent.chunks b.extent.chunks parts.0, ltb-true a.beat b.beat parts.1)

pub less_when : (a b : Head) → HasLess a b → has_less a b ≡ true
less_when a b (inl less) =
    or_left (nat_lt a.extent.chunks b.extent.chunks) ((a.extent.chunks == b.extent.chunks) && nat_lt a.beat b.beat)
    (lt-ltb a.extent.chunks b.extent.chunks less)
less_when a b (inr both) =
    or_right (nat_lt a.extent.chunks b.extent.chunks) ((a.extent.chunks == b.extent.chunks) && nat_lt a.beat b.beat)
    (and_from (a.extent.chunks == b.extent.chunks) (nat_lt a.beat b.beat)
    (eq-eqb a.extent.chunks b.extent.chunks both.0) (lt-ltb a.beat b.beat both.1))

abbrev pub IsBefore : Head → Head → Type 0
IsBefore a b =
    (is_earlier a.extent.generation b.extent.generation ≡ true)
    ⊎ ((a.extent.generation ≡ b.extent.generation) × HasLess a b)

pub before_tells : (a b : Head) → is_before a b ≡ true → IsBefore a b
before_tells a b e =
    by (or_cases (is_earlier a.extent.generation b.extent.generation)
    (is_generation a.extent.generation b.extent.generation && has_less a b) e)
  where
    by : (is_earlier a.extent.generation b.extent.generation ≡ true)
        ⊎ ((is_generation a.extent.generation b.extent.generation && has_less a b) ≡ true) → IsBefore a b
    by (inl earlier) = inl earlier
    by (inr both) =
        let parts = and_parts (is_generation a.extent.generation b.extent.generation) (has_less a b) both in
        inr (same_generation a.extent.generation b.extent.generation parts.0, less_tells a b parts.1)

pub before_when : (a b : Head) → IsBefore a b → is_before a b ≡ true
before_when a b (inl earlier) =
    or_left (is_earlier a.extent.generation b.extent.generation)
    (is_generation a.extent.generation b.extent.generation && has_less a b) earlier
before_when a b (inr both) =
    or_right (is_earlier a.extent.generation b.extent.generation)
    (is_generation a.extent.generation b.extent.generation && has_less a b)
    (and_from (is_generation a.extent.generation b.extent.generation) (has_less a b)
    (subst (λ g. is_generation a.extent.generation g ≡ true) both.0 (generation_itself a.extent.generation))
    (less_when a b both.1))

less_on : (a b c : Head) → HasLess a b → HasLess b c → HasLess a c
less_on a b c (inl less) (inl more) = inl (omega arith)
less_on a b c (inl less) (inr more) = let e = more.0 in inl (omega arith)
less_on a b c (inr less) (inl more) = let e = less.0 in inl (omega arith)
less_on a b c (inr less) (inr more) = let x = less.1 in let y = more.1 in inr (less.0 ∙ more.0, omega arith)

pub before_on : (a b c : Head) → is_before a b ≡ true → is_before b c ≡ true → is_before a c ≡ true
before_on a b c one two = before_when a c (by (before_tells a b one) (before_tells b c two))
  where
    by : IsBefore a b → IsBefore b c → IsBefore a c
    by (inl e) (inl f) = inl (earlier_on a.extent.generation b.extent.generation c.extent.generation e f)
    by (inl e) (inr f) = inl (subst (λ g. is_earlier a.extent.generation g ≡ true) f.0 e)
    by (inr e) (inl f) = inl (subst (λ g. is_earlier g c.extent.generation ≡ true) (sym e.0) f)
    by (inr e) (inr f) = inr (e.0 ∙ f.0, less_on a b c e.1 f.1)

-- of one generation the later has as many chunks at least
pub more_chunks : (a b : Head) → HasLess a b → a.extent.chunks ≤ b.extent.chunks
more_chunks a b (inl less) = omega arith
more_chunks a b (inr both) = let e = both.0 in omega arith
