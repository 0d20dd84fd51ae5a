-- The moment from which on a policy is withdrawn.
use Rattle.std.proofs.Common.{◌≡◌, ℕ, ◌+◌, ◌<◌, suc, nat_le, min, ◌&&◌, ◌||◌, Bool, true, false, cond, List, [], ◌∷◌, ◌++◌, length, get_or, take, map, Option, Some, None, refl, sym, ap, ◌∙◌, add-one, arith}
use Rattle.std.specs.List.{cons_option, filter_map, list_any}
use Rattle.std.specs.Option.{option_map_or, option_to_list}
use Rattle.std.proofs.Math.Seq.{take-suc}
use Rattle.std.proofs.lemmas.Bool.Decides.{nat_tests}
use Rattle.std.proofs.lemmas.List.{map-append}
use Rattle.std.proofs.lemmas.List.Elements.{filter_map-append}
use Rattle.mds_catalog.specs.Publication.{Publication, Published, is_among, is_withdrawn, IsWithdrawnFrom}
use Rattle.server_app.specs.Withdrawals.{earlier, withdrawn_from}

-- a moment, where there is one, isn't after t
abbrev come : ℕ → Option ℕ → Bool
come t from = option_map_or (λ moment. nat_le moment t) from false

le_min : (m n t : ℕ) → (nat_le m t && true || nat_le n t) ≡ nat_le (min m n) t
le_min m n t = grind (arith, nat_tests)

with_true : (a : Bool) → (a && true || false) ≡ a
with_true true = refl
with_true false = refl

with_false : (a rest : Bool) → (a && false || rest) ≡ rest
with_false true rest = refl
with_false false rest = refl

earlier_come : (t m : ℕ) (from : Option ℕ) → (nat_le m t && true || come t from) ≡ nat_le (earlier m from) t
earlier_come t m None = with_true (nat_le m t)
earlier_come t m (Some n) = le_min m n t

next_come : (t m : ℕ) (from : Option ℕ) (b rest : Bool) → rest ≡ come t from → (nat_le m t && b || rest) ≡ come t (cond b (Some (earlier m from)) from)
next_come t m from true rest is = ap (λ r. nat_le m t && true || r) is ∙ earlier_come t m from
next_come t m from false rest is = with_false (nat_le m t) rest ∙ is

pub from_is_right : (publications : List Publication) (id : List ℕ) (t : ℕ) → is_withdrawn publications t id ≡ come t (withdrawn_from publications id)
from_is_right [] id t = refl
from_is_right (p ∷ ps) id t = next_come t p.moment (withdrawn_from ps id) (is_among p.withdrawn id) (is_withdrawn ps t id) (from_is_right ps id t)

never_before : (m : ℕ) → false ≡ nat_le m m → ⊥
never_before m is = grind (arith, nat_tests)

one_moment : (m n : ℕ) → nat_le m m ≡ nat_le n m → nat_le m n ≡ nat_le n n → m ≡ n
one_moment m n there back = grind (arith, nat_tests)

-- two optional moments that have come at the same moments are equal
same_moment : (one other : Option ℕ) → ((t : ℕ) → come t one ≡ come t other) → one ≡ other
same_moment None None same = refl
same_moment None (Some n) same = absurd (never_before n (same n))
same_moment (Some m) None same = absurd (never_before m (sym (same m)))
same_moment (Some m) (Some n) same = ap Some (one_moment m n (same m) (same n))

-- there is only one such moment
pub is_from : (publications : List Publication) (id : List ℕ) (from : Option ℕ) → IsWithdrawnFrom publications id from → from ≡ withdrawn_from publications id
is_from publications id from is = same_moment from (withdrawn_from publications id) (λ t. sym (is t) ∙ from_is_right publications id t)

one_of : {A : Type 0} (o : Option A) → cons_option o [] ≡ option_to_list o
one_of None = refl
one_of (Some x) = refl

-- one more is listed
pub told_more : {A B C : Type 0} (see : A → B) (tell : B → Option C) (xs : List A) (i : ℕ) (x : A) (old new : List C) (told : Option C) → i < length xs → x ≡ get_or xs i x
    → old ≡ filter_map tell (map see (take i xs)) → new ≡ old ++ option_to_list told → told ≡ tell (see x)
    → new ≡ filter_map tell (map see (take (i + 1) xs))
told_more see tell xs i x old new told within here was grown is =
    let taken : take (i + 1) xs ≡ take i xs ++ x ∷ [] = ap (λ n. take n xs) (add-one i) ∙ take-suc xs i x within ∙ ap (λ a. take i xs ++ a ∷ []) (sym here) in
    let all : filter_map tell (map see (take (i + 1) xs)) ≡ filter_map tell (map see (take i xs)) ++ cons_option (tell (see x)) [] =
    ap (λ ys. filter_map tell (map see ys)) taken ∙ ap (filter_map tell) (map-append see (take i xs) (x ∷ [])) ∙ filter_map-append tell (map see (take i xs)) (see x ∷ []) in
    grown ∙ ap (λ ys. ys ++ option_to_list told) was ∙ ap (λ o. filter_map tell (map see (take i xs)) ++ option_to_list o) is
    ∙ ap (λ ys. filter_map tell (map see (take i xs)) ++ ys) (sym (one_of (tell (see x)))) ∙ sym all
