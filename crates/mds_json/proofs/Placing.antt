-- Inserting a member among members that ascend by name.
use Rattle.std.proofs.Common.{◌≡◌, ℕ, ◌+◌, ◌<◌, List, [], ◌∷◌, ◌++◌, length, map, take, drop, get_or, insert, refl, sym, ap, ◌∙◌, subst, arith}
use Rattle.std.proofs.lemmas.List.{drop_more, take_more, drop_all, take-map, drop-map, get_or-map, length-map, map-append}
use Rattle.std.specs.Cmp.Lexicographic.{slice_cmp}
use Rattle.std.specs.Ordering.{nat_cmp, match_ordering}
use Rattle.std.specs.declared.cmp.Ordering.{Ordering}
use Rattle.std.specs.declared.cmp.Ordering.TheVariants.{Less, Greater}
use Rattle.mds_text.specs.Tree.{Json, Members, member, members_of}
use Rattle.mds_json.specs.Node.{node_member_view}
use Rattle.mds_json.specs.declared.node.NodeMember.{NodeMember}
use Rattle.mds_json.specs.Direct.{put}

abbrev pub Pair : Type 0
Pair = List ℕ × Json

-- these members, then those of `ms`
abbrev before : List Pair → Members → Members
before [] ms = ms
before (x ∷ xs) ms = member x.0 x.1 (before xs ms)

before-members_of : (xs ys : List Pair) → before xs (members_of ys) ≡ members_of (xs ++ ys)
before-members_of [] ys = refl
before-members_of (x ∷ xs) ys = ap (member x.0 x.1) (before-members_of xs ys)

before-push : (xs : List Pair) (x : Pair) (ms : Members) → before (xs ++ x ∷ []) ms ≡ before xs (member x.0 x.1 ms)
before-push [] x ms = refl
before-push (y ∷ ys) x ms = ap (member y.0 y.1) (before-push ys x ms)

-- the members before a place have smaller names
abbrev pub Passed : List ℕ → List Pair → ℕ → Type 0
Passed name ms i = (value : Json) → before (take i ms) (put name value (members_of (drop i ms))) ≡ put name value (members_of ms)

abbrev pub IsPlace : List ℕ → List Pair → ℕ → Type 0
IsPlace name ms i = (value : Json) → put name value (members_of ms) ≡ members_of (insert ms i (name, value))

chosen : (o : Ordering) (p : Ordering) (a b c : Members) → o ≡ p → match_ordering o a b c ≡ match_ordering p a b c
chosen o p a b c e = ap (λ q. match_ordering q a b c) e

found : (name : List ℕ) (ms : List Pair) (i : ℕ) (m : Pair) → Passed name ms i → i < length ms → m ≡ get_or ms i m → slice_cmp nat_cmp name m.0 ≡ Less → IsPlace name ms i
found name ms i m passed within at less value =
    let split : drop i ms ≡ m ∷ drop (i + 1) ms = drop_more ms i m within ∙ ap (λ y. y ∷ drop (i + 1) ms) (sym at) in
    let rest = members_of (drop (i + 1) ms) in
    sym (passed value)
    ∙ ap (λ ys. before (take i ms) (put name value (members_of ys))) split
    ∙ ap (before (take i ms)) (chosen (slice_cmp nat_cmp name m.0) Less (member name value (member m.0 m.1 rest)) (member m.0 value rest) (member m.0 m.1 (put name value rest)) less)
    ∙ ap (λ ys. before (take i ms) (member name value (members_of ys))) (sym split)
    ∙ before-members_of (take i ms) ((name, value) ∷ drop i ms)

further : (name : List ℕ) (ms : List Pair) (i : ℕ) (m : Pair) → Passed name ms i → i < length ms → m ≡ get_or ms i m → slice_cmp nat_cmp name m.0 ≡ Greater → Passed name ms (i + 1)
further name ms i m passed within at greater value =
    let split : drop i ms ≡ m ∷ drop (i + 1) ms = drop_more ms i m within ∙ ap (λ y. y ∷ drop (i + 1) ms) (sym at) in
    let front : take (i + 1) ms ≡ take i ms ++ m ∷ [] = take_more ms i m within ∙ ap (λ y. take i ms ++ y ∷ []) (sym at) in
    let rest = members_of (drop (i + 1) ms) in
    ap (λ xs. before xs (put name value rest)) front
    ∙ before-push (take i ms) m (put name value rest)
    ∙ sym (ap (before (take i ms)) (chosen (slice_cmp nat_cmp name m.0) Greater (member name value (member m.0 m.1 rest)) (member m.0 value rest) (member m.0 m.1 (put name value rest)) greater))
    ∙ sym (ap (λ ys. before (take i ms) (put name value (members_of ys))) split)
    ∙ passed value

viewed : (ms : List NodeMember) (i : ℕ) (m : NodeMember) → i < length ms → m ≡ get_or ms i m → node_member_view m ≡ get_or (map node_member_view ms) i (node_member_view m)
viewed ms i m within at = ap node_member_view at ∙ sym (get_or-map node_member_view ms i m (node_member_view m) within)

sized : (ms : List NodeMember) (i : ℕ) → i < length ms → i < length (map node_member_view ms)
sized ms i within = simp (length-map) within

-- the same, of the members of a tree
pub place_found : (name : List ℕ) (ms : List NodeMember) (i : ℕ) (m : NodeMember) → Passed name (map node_member_view ms) i → i < length ms → m ≡ get_or ms i m → slice_cmp nat_cmp name m.name.now ≡ Less → IsPlace name (map node_member_view ms) i
place_found name ms i m passed within at less = found name (map node_member_view ms) i (node_member_view m) passed (sized ms i within) (viewed ms i m within at) less

pub place_further : (name : List ℕ) (ms : List NodeMember) (i : ℕ) (m : NodeMember) → Passed name (map node_member_view ms) i → i < length ms → m ≡ get_or ms i m → slice_cmp nat_cmp name m.name.now ≡ Greater → Passed name (map node_member_view ms) (i + 1)
place_further name ms i m passed within at greater = further name (map node_member_view ms) i (node_member_view m) passed (sized ms i within) (viewed ms i m within at) greater

last : (name : List ℕ) (ms : List Pair) (i : ℕ) → Passed name ms i → length ms ≡ i → IsPlace name ms i
last name ms i passed whole value =
    let none : drop i ms ≡ [] = drop_all i ms (omega (arith, whole)) in
    sym (passed value)
    ∙ ap (λ ys. before (take i ms) (put name value (members_of ys))) none
    ∙ before-members_of (take i ms) ((name, value) ∷ [])
    ∙ ap (λ ys. members_of (take i ms ++ (name, value) ∷ ys)) (sym none)

pub place_last : (name : List ℕ) (ms : List NodeMember) (i : ℕ) → Passed name (map node_member_view ms) i → length ms ≡ i → IsPlace name (map node_member_view ms) (length ms)
place_last name ms i passed whole = subst (IsPlace name (map node_member_view ms)) (sym whole) (last name (map node_member_view ms) i passed (simp (length-map) whole))

pub inserted : (ms : List NodeMember) (i : ℕ) (m : NodeMember) → map node_member_view (insert ms i m) ≡ insert (map node_member_view ms) i (node_member_view m)
inserted ms i m =
    map-append node_member_view (take i ms) (m ∷ drop i ms)
    ∙ ap (λ xs. xs ++ node_member_view m ∷ map node_member_view (drop i ms)) (sym (take-map node_member_view i ms))
    ∙ ap (λ ys. take i (map node_member_view ms) ++ node_member_view m ∷ ys) (sym (drop-map node_member_view i ms))
