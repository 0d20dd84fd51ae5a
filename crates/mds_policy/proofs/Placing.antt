-- Inserting a member among members that ascend by name.
use Rattle.std.proofs.Common.{◌≡◌, ℕ, ◌+◌, ◌<◌, List, [], ◌∷◌, ◌++◌, length, map, take, drop, get_or, string_bytes, refl, sym, ap, ◌∙◌, arith}
use Rattle.std.proofs.lemmas.List.{drop_more, take_more, drop_all, take_all, take-map, drop-map, get_or-map, length-map}
use Rattle.std.specs.Cmp.Lexicographic.{slice_cmp}
use Rattle.std.specs.Ordering.{nat_cmp, match_ordering}
use Rattle.std.specs.declared.cmp.Ordering.{Ordering}
use Rattle.std.specs.declared.cmp.Ordering.TheVariants.{Less, Equal, Greater}
use Rattle.mds_text.specs.Tree.{Json, Members, no_members, member, members_of}
use Rattle.mds_text.specs.View.{member_view}
use Rattle.mds_text.specs.declared.tree.Member.{Member}
use Rattle.mds_policy.specs.Served.{with_member}

abbrev pub Pair : Type 0
Pair = List ℕ × Json

-- these members, then those of `ms`
abbrev pub before : List Pair → Members → Members
before [] ms = ms
before (x ∷ xs) ms = member x.0 x.1 (before xs ms)

before-members_of : (xs ys : List Pair) → before xs (members_of ys) ≡ members_of (xs ++ ys)
before-members_of [] ys = refl
before-members_of (x ∷ xs) ys = ap (member x.0 x.1) (before-members_of xs ys)

before-push : (xs : List Pair) (x : Pair) (ms : Members) → before (xs ++ x ∷ []) ms ≡ before xs (member x.0 x.1 ms)
before-push [] x ms = refl
before-push (y ∷ ys) x ms = ap (member y.0 y.1) (before-push ys x ms)

-- the members before a place have smaller names
abbrev pub Passed : List ℕ → List Pair → ℕ → Type 0
Passed name ms i = (value : Json) → before (take i ms) (with_member name value (members_of (drop i ms))) ≡ with_member name value (members_of ms)

chosen : (o : Ordering) (p : Ordering) (a b c : Members) → o ≡ p → match_ordering o a b c ≡ match_ordering p a b c
chosen o p a b c e = ap (λ q. match_ordering q a b c) e

-- the member belongs at this place
here-Less : (name : List ℕ) (ms : List Pair) (i : ℕ) (m : Pair) → Passed name ms i → i < length ms → m ≡ get_or ms i m → slice_cmp nat_cmp name m.0 ≡ Less
    → (value : Json) → with_member name value (members_of ms) ≡ members_of (take i ms ++ (name, value) ∷ drop i ms)
here-Less name ms i m passed within at less value =
    let split : drop i ms ≡ m ∷ drop (i + 1) ms = drop_more ms i m within ∙ ap (λ y. y ∷ drop (i + 1) ms) (sym at) in
    let rest = members_of (drop (i + 1) ms) in
    sym (passed value)
    ∙ ap (λ ys. before (take i ms) (with_member name value (members_of ys))) split
    ∙ ap (before (take i ms)) (chosen (slice_cmp nat_cmp name m.0) Less (member name value (member m.0 m.1 rest)) (member name value rest) (member m.0 m.1 (with_member name value rest)) less)
    ∙ ap (λ ys. before (take i ms) (member name value (members_of ys))) (sym split)
    ∙ before-members_of (take i ms) ((name, value) ∷ drop i ms)

here-Equal : (name : List ℕ) (ms : List Pair) (i : ℕ) (m : Pair) → Passed name ms i → i < length ms → m ≡ get_or ms i m → slice_cmp nat_cmp name m.0 ≡ Equal
    → (value : Json) → with_member name value (members_of ms) ≡ members_of (take i ms ++ (name, value) ∷ drop (i + 1) ms)
here-Equal name ms i m passed within at equal value =
    let split : drop i ms ≡ m ∷ drop (i + 1) ms = drop_more ms i m within ∙ ap (λ y. y ∷ drop (i + 1) ms) (sym at) in
    let rest = members_of (drop (i + 1) ms) in
    sym (passed value)
    ∙ ap (λ ys. before (take i ms) (with_member name value (members_of ys))) split
    ∙ ap (before (take i ms)) (chosen (slice_cmp nat_cmp name m.0) Equal (member name value (member m.0 m.1 rest)) (member name value rest) (member m.0 m.1 (with_member name value rest)) equal)
    ∙ before-members_of (take i ms) ((name, value) ∷ drop (i + 1) ms)

-- it belongs after this member
Passed-more : (name : List ℕ) (ms : List Pair) (i : ℕ) (m : Pair) → Passed name ms i → i < length ms → m ≡ get_or ms i m → slice_cmp nat_cmp name m.0 ≡ Greater
    → Passed name ms (i + 1)
Passed-more name ms i m passed within at greater = λ value.
    let split : drop i ms ≡ m ∷ drop (i + 1) ms = drop_more ms i m within ∙ ap (λ y. y ∷ drop (i + 1) ms) (sym at) in
    let front : take (i + 1) ms ≡ take i ms ++ m ∷ [] = take_more ms i m within ∙ ap (λ y. take i ms ++ y ∷ []) (sym at) in
    let rest = members_of (drop (i + 1) ms) in
    ap (λ xs. before xs (with_member name value rest)) front
    ∙ before-push (take i ms) m (with_member name value rest)
    ∙ sym (ap (before (take i ms)) (chosen (slice_cmp nat_cmp name m.0) Greater (member name value (member m.0 m.1 rest)) (member name value rest) (member m.0 m.1 (with_member name value rest)) greater))
    ∙ sym (ap (λ ys. before (take i ms) (with_member name value (members_of ys))) split)
    ∙ passed value

-- it belongs after all members
all_passed : (name : List ℕ) (ms : List Pair) (i : ℕ) → Passed name ms i → length ms ≡ i → (value : Json) → with_member name value (members_of ms) ≡ members_of (ms ++ (name, value) ∷ [])
all_passed name ms i passed whole value =
    let none : drop i ms ≡ [] = drop_all i ms (omega arith) in
    let full : take i ms ≡ ms = take_all i ms (omega arith) in
    sym (passed value)
    ∙ ap (λ ys. before (take i ms) (with_member name value (members_of ys))) none
    ∙ ap (λ xs. before xs (member name value no_members)) full
    ∙ before-members_of ms ((name, value) ∷ [])

viewed : (ms : List Member) (i : ℕ) (m : Member) → i < length ms → m ≡ get_or ms i m → member_view m ≡ get_or (map member_view ms) i (member_view m)
viewed ms i m within at = ap member_view at ∙ sym (get_or-map member_view ms i m (member_view m) within)

sized : (ms : List Member) (i : ℕ) → i < length ms → i < length (map member_view ms)
sized ms i within = simp (length-map) within

-- the same for the members of a tree
abbrev pub HasPlace : List ℕ → List Member → List Member → List Member → Type 0
HasPlace name ms front back = (value : Json) → with_member name value (members_of (map member_view ms)) ≡ members_of (map member_view front ++ (name, value) ∷ map member_view back)

pub HasPlace-Less : (name : List ℕ) (ms front back : List Member) (i : ℕ) (m : Member) → Passed name (map member_view ms) i → i < length ms → m ≡ get_or ms i m → slice_cmp nat_cmp name (string_bytes m.name) ≡ Less
    → front ≡ take i ms → back ≡ drop i ms → HasPlace name ms front back
HasPlace-Less name ms front back i m passed within at less fronts backs value =
    here-Less name (map member_view ms) i (member_view m) passed (sized ms i within) (viewed ms i m within at) less value
    ∙ ap (λ xs. members_of (xs ++ (name, value) ∷ drop i (map member_view ms))) (take-map member_view i ms ∙ ap (map member_view) (sym fronts))
    ∙ ap (λ ys. members_of (map member_view front ++ (name, value) ∷ ys)) (drop-map member_view i ms ∙ ap (map member_view) (sym backs))

pub HasPlace-Equal : (name : List ℕ) (ms front back : List Member) (i : ℕ) (m : Member) → Passed name (map member_view ms) i → i < length ms → m ≡ get_or ms i m → slice_cmp nat_cmp name (string_bytes m.name) ≡ Equal
    → front ≡ take i ms → back ≡ drop (i + 1) ms → HasPlace name ms front back
HasPlace-Equal name ms front back i m passed within at equal fronts backs value =
    here-Equal name (map member_view ms) i (member_view m) passed (sized ms i within) (viewed ms i m within at) equal value
    ∙ ap (λ xs. members_of (xs ++ (name, value) ∷ drop (i + 1) (map member_view ms))) (take-map member_view i ms ∙ ap (map member_view) (sym fronts))
    ∙ ap (λ ys. members_of (map member_view front ++ (name, value) ∷ ys)) (drop-map member_view (i + 1) ms ∙ ap (map member_view) (sym backs))

pub HasPlace-end : (name : List ℕ) (ms : List Member) (i : ℕ) → Passed name (map member_view ms) i → length ms ≡ i → HasPlace name ms ms []
HasPlace-end name ms i passed whole value = all_passed name (map member_view ms) i passed (simp (length-map) whole) value

pub passed_more : (name : List ℕ) (ms : List Member) (i : ℕ) (m : Member) → Passed name (map member_view ms) i → i < length ms → m ≡ get_or ms i m → slice_cmp nat_cmp name (string_bytes m.name) ≡ Greater
    → Passed name (map member_view ms) (i + 1)
passed_more name ms i m passed within at greater = Passed-more name (map member_view ms) i (member_view m) passed (sized ms i within) (viewed ms i m within at) greater
