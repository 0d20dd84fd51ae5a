-- The moment from which on a policy is withdrawn.
use Rattle.std.proofs.Common.{◌≡◌, ℕ, nat_le, min, ◌&&◌, ◌||◌, Bool, true, false, cond, List, [], ◌∷◌, Option, Some, None, refl, sym, ap, ◌∙◌, arith}
use Rattle.std.specs.Option.{option_map_or}
use Rattle.std.proofs.lemmas.Bool.Decides.{nat_tests}
use Rattle.mds_catalog.specs.Publication.{Publication, is_among, is_withdrawn, IsWithdrawnFrom}
use Rattle.server_public.specs.Withdrawal.{earlier, withdrawn_from}

-- a moment, where there is one, isn't after t
abbrev come : ℕ → Option ℕ → Bool
come t from = option_map_or (λ moment. nat_le moment t) from false

le_min : (m n t : ℕ) → (nat_le m t && true || nat_le n t) ≡ nat_le (min m n) t
le_min m n t = grind (arith, nat_tests)

with_true : (a : Bool) → (a && true || false) ≡ a
with_true true = refl
with_true false = refl

with_false : (a rest : Bool) → (a && false || rest) ≡ rest
with_false true rest = refl
with_false false rest = refl

earlier_come : (t m : ℕ) (from : Option ℕ) → (nat_le m t && true || come t from) ≡ nat_le (earlier m from) t
earlier_come t m None = with_true (nat_le m t)
earlier_come t m (Some n) = le_min m n t

next_come : (t m : ℕ) (from : Option ℕ) (b rest : Bool) → rest ≡ come t from → (nat_le m t && b || rest) ≡ come t (cond b (Some (earlier m from)) from)
next_come t m from true rest is = ap (λ r. nat_le m t && true || r) is ∙ earlier_come t m from
next_come t m from false rest is = with_false (nat_le m t) rest ∙ is

from_is_right : (publications : List Publication) (id : List ℕ) (t : ℕ) → is_withdrawn publications t id ≡ come t (withdrawn_from publications id)
from_is_right [] id t = refl
from_is_right (p ∷ ps) id t = next_come t p.moment (withdrawn_from ps id) (is_among p.withdrawn id) (is_withdrawn ps t id) (from_is_right ps id t)

never_before : (m : ℕ) → false ≡ nat_le m m → ⊥
never_before m is = grind (arith, nat_tests)

one_moment : (m n : ℕ) → nat_le m m ≡ nat_le n m → nat_le m n ≡ nat_le n n → m ≡ n
one_moment m n there back = grind (arith, nat_tests)

-- two optional moments that have come at the same moments are equal
same_moment : (one other : Option ℕ) → ((t : ℕ) → come t one ≡ come t other) → one ≡ other
same_moment None None same = refl
same_moment None (Some n) same = absurd (never_before n (same n))
same_moment (Some m) None same = absurd (never_before m (sym (same m)))
same_moment (Some m) (Some n) same = ap Some (one_moment m n (same m) (same n))

-- there is only one such moment
pub is_from : (publications : List Publication) (id : List ℕ) (from : Option ℕ) → IsWithdrawnFrom publications id from → from ≡ withdrawn_from publications id
is_from publications id from is = same_moment from (withdrawn_from publications id) (λ t. sym (is t) ∙ from_is_right publications id t)
