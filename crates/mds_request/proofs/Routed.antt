-- The router's routes lead where the table says.
use Rattle.std.proofs.Common.{◌≡◌, ℕ, zero, suc, ◌+◌, ◌-◌, ◌≤◌, Bool, true, false, not, ◌&&◌, ◌||◌, ◌==◌, cond, ltb, bytes_eq, codes, List, [], ◌∷◌, ◌++◌, length, Option, Some, None, unwrap_or, refl, ap, sym, ◌∙◌, subst, arith, length-append}
use Rattle.std.specs.List.{list_all, list_any, slice_split, onto_first}
use Rattle.std.specs.Str.{IsUtf8, IsAscii, is_utf8}
use Rattle.std.proofs.Math.Bool.{and-false}
use Rattle.std.proofs.Math.Seq.{drop-append_seam}
use Rattle.std.proofs.lemmas.Bool.{and_parts, and_from, eq-eqb, eqb-true, ltb-true, lt-ltb, le-ltb, le-leb}
use Rattle.std.proofs.lemmas.List.{append-nil, take_all}
use Rattle.std.proofs.lemmas.List.Splits.{slice_split-cons_no}
use Rattle.std.proofs.lemmas.Str.{IsUtf8-drop, IsCharBoundary-after_ascii, is_utf8-from_IsUtf8, IsUtf8-from_is_utf8, IsUtf8-from_ascii}
use Rattle.matchit.specs.Params.{AllText, named, walk, wild_from, wild_stop, part_of}
use Rattle.matchit.specs.Router.{RouteOf}
use Rattle.matchit.specs.Rows.{RowsOf}
use Rattle.matchit.specs.Seek.{first, has_slash}
use Rattle.mds_request.specs.Call.{Part, word, id, fits, is_slash, is_empty, behind_slash, segments_in, segments_of, path_of, rows_at}
use Rattle.mds_request.specs.Route.{spelled, taken, Leads, AllLead}
use Rattle.mds_request.specs.declared.routes.Route.{Route}
use Rattle.mds_request.specs.declared.routes.Route.TheVariants.{Policies, Policy, Geographies, Geography, FleetEvents, FleetVehicles, FleetVehicle, Compliance, PolicyCompliance, PolicyDraft, GeographyDraft, Publish}
use Rattle.mds_request.proofs.Seeking.{agrees, AreEnded, found, missing}

-- segments, each after a slash
abbrev pub join : List (List ℕ) → List ℕ
join [] = []
join (s ∷ ss) = 47 ∷ (s ++ join ss)

-- the path before the identifier
abbrev pub front : Route → List ℕ
front route = join (spelled route [])

abbrev pub fixed : Route → List ℕ × RouteOf Route
fixed route = (front route, record { pattern = front route; text = front route; names = []; value = route })

abbrev pub by_id : Route → List ℕ × RouteOf Route
by_id route =
    (front route ++ 256 ∷ [], record { pattern = front route ++ 256 ∷ []; text = front route ++ codes "{id}"; names = (length (front route) + 1, length (front route) + 3) ∷ []; value = route })

-- the routes, in the router's order
abbrev pub rows : RowsOf (RouteOf Route)
rows =
    by_id PolicyCompliance ∷ fixed Compliance ∷ by_id GeographyDraft ∷ by_id PolicyDraft ∷ fixed FleetEvents
    ∷ by_id FleetVehicle ∷ fixed FleetVehicles ∷ by_id Geography ∷ fixed Geographies ∷ by_id Policy ∷ fixed Policies
    ∷ fixed Publish ∷ []

are_ended : AreEnded rows
are_ended = (refl, (refl, (refl, (refl, (refl, (refl, (refl, (refl, (refl, (refl, (refl, (refl, tt))))))))))))

-- bytes of ASCII
abbrev ascii : List ℕ → Bool
ascii w = list_all (λ b. ltb b 128) w

byte_below : (x : ℕ) → ltb x 128 ≡ true → ltb x 256 ≡ true
byte_below x h = let l = ltb-true x 128 h in lt-ltb x 256 (omega arith)

id_ascii : IsAscii (codes "id")
id_ascii zero = omega arith
id_ascii (suc zero) = omega arith
id_ascii (suc (suc i)) = omega arith

id_text : IsUtf8 (codes "id")
id_text = IsUtf8-from_ascii (codes "id") id_ascii

-- a path that agrees with bytes, and the rest
agrees-front : (w t path : List ℕ) → ascii w ≡ true → agrees (w ++ t) path ≡ true → (rest : List ℕ) × (path ≡ w ++ rest) × (agrees t rest ≡ true)
agrees-front [] t path h a = (path, refl, a)
agrees-front (x ∷ w) t [] h a = cc
agrees-front (x ∷ w) t (b ∷ path) h a =
    let parts = and_parts (ltb x 128) (ascii w) h in
    let g : (x == b) && agrees (w ++ t) path ≡ true = rw (byte_below x parts.0) at a in
    let both = and_parts (x == b) (agrees (w ++ t) path) g in
    let deep = agrees-front w t path parts.1 both.1 in
    (deep.0, ap (λ c. c ∷ path) (sym (eqb-true x b both.0)) ∙ ap (λ p. x ∷ p) deep.1, deep.2)

agrees-nil : (rest : List ℕ) → agrees [] rest ≡ true → rest ≡ []
agrees-nil [] h = refl
agrees-nil (b ∷ rest) h = cc

agrees-wild : (rest : List ℕ) → agrees (256 ∷ []) rest ≡ true → (is_empty rest ≡ false) × (has_slash rest ≡ false)
agrees-wild [] h = cc
agrees-wild (b ∷ rest) h = (refl, no_not (has_slash (b ∷ rest)) h)
  where
    no_not : (s : Bool) → not s ≡ true → s ≡ false
    no_not true h = cc
    no_not false h = refl

one_step : (b : ℕ) (s : List ℕ) (slash : Bool) → (b == 47) ≡ slash → (has_slash s ≡ false → slice_split is_slash s ≡ s ∷ []) → cond slash true (has_slash s) ≡ false → slice_split is_slash (b ∷ s) ≡ (b ∷ s) ∷ []
one_step b s true e f h = cc
one_step b s false e f h = slice_split-cons_no is_slash b s e ∙ ap (onto_first b) (f h)

-- a text without a slash is one segment
one_segment : (s : List ℕ) → has_slash s ≡ false → slice_split is_slash s ≡ s ∷ []
one_segment [] h = refl
one_segment (b ∷ s) h = one_step b s (b == 47) refl (one_segment s) h

-- a path without an identifier
agrees-all : (w path : List ℕ) → ascii w ≡ true → agrees w path ≡ true → path ≡ w
agrees-all [] path h a = agrees-nil path a
agrees-all (x ∷ w) [] h a = cc
agrees-all (x ∷ w) (b ∷ path) h a =
    let parts = and_parts (ltb x 128) (ascii w) h in
    let g : (x == b) && agrees w path ≡ true = rw (byte_below x parts.0) at a in
    let both = and_parts (x == b) (agrees w path) g in
    ap (λ c. c ∷ path) (sym (eqb-true x b both.0)) ∙ ap (λ p. x ∷ p) (agrees-all w path parts.1 both.1)

utf8-behind : (w rest : List ℕ) → ascii w ≡ true → IsUtf8 (w ++ rest) → IsUtf8 rest
utf8-behind [] rest h u = u
utf8-behind (b ∷ w) rest h u =
    let parts = and_parts (ltb b 128) (ascii w) h in
    utf8-behind w rest parts.1 (IsUtf8-drop (b ∷ (w ++ rest)) 1 u (IsCharBoundary-after_ascii (b ∷ (w ++ rest)) 0 u (omega arith) (ltb-true b 128 parts.0)))

in_text : (path : List ℕ) (pieces : List (List ℕ)) → IsUtf8 path → slice_split is_slash path ≡ pieces → segments_in path ≡ behind_slash pieces
in_text path pieces u e =
    ap (λ b. cond b (behind_slash (slice_split is_slash path)) []) (is_utf8-from_IsUtf8 path u) ∙ ap behind_slash e

-- a route without an identifier
fixed_leads : (route : Route) → ascii (front route) ≡ true → slice_split is_slash (front route) ≡ [] ∷ spelled route [] → list_any is_empty (spelled route []) ≡ false → (path : List ℕ) → IsUtf8 path → agrees (front route) path ≡ true → Leads path (Some (fixed route).1)
fixed_leads route h split some path u a =
    let e = agrees-all (front route) path h a in
    let segments : segments_in (front route) ≡ spelled route [] = in_text (front route) ([] ∷ spelled route []) (subst IsUtf8 e u) split ∙ ap (λ b. cond b [] (spelled route [])) some in
    subst (λ p. Leads p (Some (fixed route).1)) (sym e) (tt, sym segments)

-- where the parameter of a route begins
wild_from-front : (w : List ℕ) (len token at : ℕ) → ascii w ≡ true → at + length w ≤ len → wild_from (w ++ 256 ∷ []) len token at ≡ (token + length w, at + length w)
wild_from-front [] len token at h l =
    let a : token ≡ token + 0 = omega arith in
    let b : at ≡ at + 0 = omega arith in
    ap (λ n. (n, at)) a ∙ ap (λ n. (token + 0, n)) b
wild_from-front (x ∷ w) len token at h l =
    let parts = and_parts (ltb x 128) (ascii w) h in
    let t : (token + 1) + length w ≡ token + length (x ∷ w) = omega arith in
    let p : (at + 1) + length w ≡ at + length (x ∷ w) = omega arith in
    rw (byte_below x parts.0, lt-ltb at len (omega arith))
    (wild_from-front w len (token + 1) (at + 1) parts.1 (omega arith) ∙ ap (λ n. (n, (at + 1) + length w)) t ∙ ap (λ n. (token + length (x ∷ w), n)) p)

part_of-back : (w rest : List ℕ) → part_of (w ++ rest) (length w) (length (w ++ rest)) ≡ rest
part_of-back w rest =
    let whole : length (w ++ rest) ≡ length w + length rest = length-append w rest in
    let size : length (w ++ rest) - length w ≡ length rest = omega (arith, whole) in
    rw (le-leb (length w) (length (w ++ rest)) (omega (arith, whole)), le-leb (length (w ++ rest)) (length (w ++ rest)) (omega arith), size, drop-append_seam w rest) (take_all (length rest) rest (omega arith))

stop_at : (w path : List ℕ) (n : ℕ) → wild_stop (w ++ 256 ∷ []) (length w) path n ≡ length path
stop_at w path n =
    let size : length (w ++ 256 ∷ []) ≡ length w + 1 = length-append w (256 ∷ []) in
    let past : ltb (length w + 1) (length (w ++ 256 ∷ [])) ≡ false = le-ltb _ _ (omega (arith, size)) in
    rw (past, and-false) refl

front_start : (w : List ℕ) (len : ℕ) → ascii w ≡ true → length w ≤ len → wild_from (w ++ 256 ∷ []) len 0 0 ≡ (length w, length w)
front_start w len h l =
    let same : 0 + length w ≡ length w = omega arith in
    wild_from-front w len 0 0 h (omega arith) ∙ ap (λ n. (n, n)) same

-- what the parameter matches
walk-id : (w text rest : List ℕ) (from to : ℕ) → ascii w ≡ true → walk (w ++ 256 ∷ []) text (w ++ rest) ((from, to) ∷ []) 0 0 ≡ (part_of text from to, rest) ∷ []
walk-id w text rest from to h =
    let whole : length (w ++ rest) ≡ length w + length rest = length-append w rest in
    rw (front_start w (length (w ++ rest)) h (omega (arith, whole)), stop_at w (w ++ rest) (length w), part_of-back w rest) refl

-- a route with an identifier
by_id_leads : (route : Route) → ascii (front route) ≡ true
    → ((rest : List ℕ) → slice_split is_slash rest ≡ rest ∷ [] → slice_split is_slash (front route ++ rest) ≡ [] ∷ spelled route rest)
    → ((rest : List ℕ) → is_empty rest ≡ false → list_any is_empty (spelled route rest) ≡ false)
    → part_of (front route ++ codes "{id}") (length (front route) + 1) (length (front route) + 3) ≡ codes "id"
    → (path : List ℕ) → IsUtf8 path → agrees (front route ++ 256 ∷ []) path ≡ true → Leads path (Some (by_id route).1)
by_id_leads route h split some name path u a =
    let parts = agrees-front (front route) (256 ∷ []) path h a in
    let rest = parts.0 in
    let last = agrees-wild rest parts.2 in
    let text : IsUtf8 (front route ++ rest) = subst IsUtf8 parts.1 u in
    let took : taken (by_id route).1 (front route ++ rest) ≡ (codes "id", rest) ∷ [] = walk-id (front route) (front route ++ codes "{id}") rest (length (front route) + 1) (length (front route) + 3) h ∙ ap (λ n. (n, rest) ∷ []) name in
    let segments : segments_in (front route ++ rest) ≡ spelled route rest = in_text (front route ++ rest) ([] ∷ spelled route rest) text (split rest (one_segment rest last.1)) ∙ ap (λ b. cond b [] (spelled route rest)) (some rest last.0) in
    subst (λ p. Leads p (Some (by_id route).1)) (sym parts.1)
    (subst (λ pairs. AllText pairs) (sym took) (id_text, utf8-behind (front route) rest h text, tt), subst (λ pairs. spelled route (unwrap_or (named (codes "id") pairs) []) ≡ segments_in (front route ++ rest)) (sym took) (sym segments))

-- the pattern of a row's path
abbrev tokens : List Part → List ℕ
tokens [] = []
tokens (word w ∷ parts) = 47 ∷ (codes w ++ tokens parts)
tokens (id ∷ parts) = 47 ∷ 256 ∷ tokens parts

-- the words are ASCII, and the identifier is last
abbrev plain_parts : List Part → Bool
plain_parts [] = true
plain_parts (word w ∷ parts) = ascii (codes w) && plain_parts parts
plain_parts (id ∷ []) = true
plain_parts (id ∷ part ∷ parts) = false

-- segments that aren't empty and have no slash
abbrev Clean : List (List ℕ) → Type 0
Clean [] = Unit {0}
Clean (s ∷ ss) = (is_empty s ≡ false) × (has_slash s ≡ false) × Clean ss

agrees-past : (w t path : List ℕ) → ascii w ≡ true → agrees t path ≡ true → agrees (w ++ t) (w ++ path) ≡ true
agrees-past [] t path h a = a
agrees-past (x ∷ w) t path h a =
    let parts = and_parts (ltb x 128) (ascii w) h in
    rw (byte_below x parts.0) (and_from (x == x) _ (eq-eqb x x refl) (agrees-past w t path parts.1 a))

bytes_eq-true : (s t : List ℕ) → bytes_eq s t ≡ true → s ≡ t
bytes_eq-true [] [] h = refl
bytes_eq-true [] (y ∷ t) h = cc
bytes_eq-true (x ∷ s) [] h = cc
bytes_eq-true (x ∷ s) (y ∷ t) h =
    let both = and_parts (x == y) (bytes_eq s t) h in
    ap (λ c. c ∷ s) (eqb-true x y both.0) ∙ ap (λ r. y ∷ r) (bytes_eq-true s t both.1)

slash-end : (s : List ℕ) → has_slash s ≡ false → has_slash (s ++ []) ≡ false
slash-end s h = rw (append-nil s) h

last_agrees : (s : List ℕ) → is_empty s ≡ false → has_slash s ≡ false → agrees (47 ∷ 256 ∷ []) (47 ∷ (s ++ [])) ≡ true
last_agrees [] e h = cc
last_agrees (b ∷ s) e h = ap not (slash-end (b ∷ s) h)

fits-agrees : (parts : List Part) (segments : List (List ℕ)) → plain_parts parts ≡ true → Clean segments → fits parts segments ≡ true → agrees (tokens parts) (join segments) ≡ true
fits-agrees [] [] h c f = refl
fits-agrees [] (s ∷ ss) h c f = cc
fits-agrees (word w ∷ parts) [] h c f = cc
fits-agrees (word w ∷ parts) (s ∷ ss) h c f =
    let both = and_parts (ascii (codes w)) (plain_parts parts) h in
    let same = and_parts (bytes_eq s (codes w)) (fits parts ss) f in
    let e : s ≡ codes w = bytes_eq-true s (codes w) same.0 in
    subst (λ t. agrees (codes w ++ tokens parts) (t ++ join ss) ≡ true) (sym e) (agrees-past (codes w) (tokens parts) (join ss) both.0 (fits-agrees parts ss both.1 c.2 same.1))
fits-agrees (id ∷ []) [] h c f = cc
fits-agrees (id ∷ []) (s ∷ []) h c f = last_agrees s c.0 c.1
fits-agrees (id ∷ []) (s ∷ r ∷ ss) h c f = cc
fits-agrees (id ∷ part ∷ parts) segments h c f = cc

-- the segments of a path
abbrev unslashed : List (List ℕ) → List ℕ
unslashed [] = []
unslashed (s ∷ ss) = s ++ join ss

abbrev IsSome : List (List ℕ) → Type 0
IsSome [] = ⊥
IsSome (s ∷ ss) = Unit {0}

step_some : (x : ℕ) (pieces : List (List ℕ)) (slash : Bool) → IsSome pieces → IsSome (cond slash ([] ∷ pieces) (onto_first x pieces))
step_some x pieces true h = tt
step_some x [] false h = absurd h
step_some x (s ∷ ss) false h = tt

pieces_some : (path : List ℕ) → IsSome (slice_split is_slash path)
pieces_some [] = tt
pieces_some (x ∷ path) = step_some x (slice_split is_slash path) (is_slash x) (pieces_some path)

step_joined : (x : ℕ) (pieces : List (List ℕ)) (slash : Bool) → (x == 47) ≡ slash → IsSome pieces → unslashed (cond slash ([] ∷ pieces) (onto_first x pieces)) ≡ x ∷ unslashed pieces
step_joined x [] slash e h = absurd h
step_joined x (s ∷ ss) true e h = ap (λ c. c ∷ (s ++ join ss)) (sym (eqb-true x 47 e))
step_joined x (s ∷ ss) false e h = refl

pieces_joined : (path : List ℕ) → unslashed (slice_split is_slash path) ≡ path
pieces_joined [] = refl
pieces_joined (x ∷ path) =
    step_joined x (slice_split is_slash path) (x == 47) refl (pieces_some path) ∙ ap (λ p. x ∷ p) (pieces_joined path)

abbrev Slashless : List (List ℕ) → Type 0
Slashless [] = Unit {0}
Slashless (s ∷ ss) = (has_slash s ≡ false) × Slashless ss

step_slashless : (x : ℕ) (pieces : List (List ℕ)) (slash : Bool) → (x == 47) ≡ slash → Slashless pieces → Slashless (cond slash ([] ∷ pieces) (onto_first x pieces))
step_slashless x pieces true e h = (refl, h)
step_slashless x [] false e h = (rw (e) refl, tt)
step_slashless x (s ∷ ss) false e h = (rw (e) h.0, h.1)

pieces_slashless : (path : List ℕ) → Slashless (slice_split is_slash path)
pieces_slashless [] = (refl, tt)
pieces_slashless (x ∷ path) = step_slashless x (slice_split is_slash path) (x == 47) refl (pieces_slashless path)

or_parts : (a b : Bool) → a || b ≡ false → (a ≡ false) × (b ≡ false)
or_parts true b h = cc
or_parts false b h = (refl, h)

clean_of : (segments : List (List ℕ)) → Slashless segments → list_any is_empty segments ≡ false → Clean segments
clean_of [] h e = tt
clean_of (s ∷ ss) h e =
    let parts = or_parts (is_empty s) (list_any is_empty ss) e in
    (parts.0, h.0, clean_of ss h.1 parts.1)

only_false : (b : Bool) {c : Bool} → (b ≡ true → c ≡ true) → c ≡ false → b ≡ false
only_false true f e = let t = f refl in cc
only_false false f e = refl

no_fit : (parts : List Part) (segments : List (List ℕ)) (path : List ℕ) → plain_parts parts ≡ true → agrees (tokens parts) path ≡ false → Clean segments → path ≡ join segments → fits parts segments ≡ false
no_fit parts segments path h d c e = only_false (fits parts segments) (λ f. fits-agrees parts segments h c f) (ap (agrees (tokens parts)) (sym e) ∙ d)

-- a path that a row's pattern doesn't agree with isn't the row's
all_some_no_fit : (part : Part) (parts : List Part) (segments : List (List ℕ)) (path : List ℕ) (empty : Bool) → plain_parts (part ∷ parts) ≡ true → agrees (tokens (part ∷ parts)) path ≡ false → Slashless segments → list_any is_empty segments ≡ empty → path ≡ join segments
    → fits (part ∷ parts) (cond empty [] segments) ≡ false
all_some_no_fit (word w) parts segments path true h d c n e = refl
all_some_no_fit id parts segments path true h d c n e = refl
all_some_no_fit part parts segments path false h d c n e =
    no_fit (part ∷ parts) segments path h d (clean_of segments c n) e

nothing_fits : (part : Part) (parts : List Part) → fits (part ∷ parts) [] ≡ false
nothing_fits (word w) parts = refl
nothing_fits id parts = refl

behind_slash_no_fit : (part : Part) (parts : List Part) (pieces : List (List ℕ)) (path : List ℕ) → plain_parts (part ∷ parts) ≡ true → agrees (tokens (part ∷ parts)) path ≡ false → Slashless pieces → unslashed pieces ≡ path → fits (part ∷ parts) (behind_slash pieces) ≡ false
behind_slash_no_fit part parts [] path h d c e = nothing_fits part parts
behind_slash_no_fit part parts ([] ∷ segments) path h d c e =
    all_some_no_fit part parts segments path (list_any is_empty segments) h d c.1 refl (sym e)
behind_slash_no_fit part parts ((b ∷ s) ∷ segments) path h d c e = nothing_fits part parts

segments_no_fit : (part : Part) (parts : List Part) (path : List ℕ) → plain_parts (part ∷ parts) ≡ true → IsUtf8 path → agrees (tokens (part ∷ parts)) path ≡ false → fits (part ∷ parts) (segments_in path) ≡ false
segments_no_fit part parts path h u d =
    ap (fits (part ∷ parts)) (in_text path (slice_split is_slash path) u refl)
    ∙ behind_slash_no_fit part parts (slice_split is_slash path) path h d (pieces_slashless path) (pieces_joined path)

-- the route that is found leads there
some_leads : (path : List ℕ) (route : RouteOf Route) → IsUtf8 path → first rows path ≡ Some route → Leads path (Some route)
some_leads path route u f =
    found (λ r. Leads path (Some r)) route path rows are_ended
    ((by_id_leads PolicyCompliance refl (λ rest e. rw e refl) (λ rest e. rw e refl) refl path u, (fixed_leads Compliance refl refl refl path u, (by_id_leads GeographyDraft refl (λ rest e. rw e refl) (λ rest e. rw e refl) refl path u, (by_id_leads PolicyDraft refl (λ rest e. rw e refl) (λ rest e. rw e refl) refl path u, (fixed_leads FleetEvents refl refl refl path u, (by_id_leads FleetVehicle refl (λ rest e. rw e refl) (λ rest e. rw e refl) refl path u, (fixed_leads FleetVehicles refl refl refl path u, (by_id_leads Geography refl (λ rest e. rw e refl) (λ rest e. rw e refl) refl path u, (fixed_leads Geographies refl refl refl path u, (by_id_leads Policy refl (λ rest e. rw e refl) (λ rest e. rw e refl) refl path u, (fixed_leads Policies refl refl refl path u, (fixed_leads Publish refl refl refl path u, tt))))))))))))) f

no_rows : (segments : List (List ℕ)) → fits (word "compliance" ∷ id ∷ []) segments ≡ false → fits (word "compliance" ∷ []) segments ≡ false → fits (word "drafts" ∷ word "geographies" ∷ id ∷ []) segments ≡ false → fits (word "drafts" ∷ word "policies" ∷ id ∷ []) segments ≡ false → fits (word "fleet" ∷ word "events" ∷ []) segments ≡ false → fits (word "fleet" ∷ word "vehicles" ∷ id ∷ []) segments ≡ false → fits (word "fleet" ∷ word "vehicles" ∷ []) segments ≡ false → fits (word "geographies" ∷ id ∷ []) segments ≡ false → fits (word "geographies" ∷ []) segments ≡ false → fits (word "policies" ∷ id ∷ []) segments ≡ false → fits (word "policies" ∷ []) segments ≡ false → fits (word "publish" ∷ []) segments ≡ false → rows_at segments ≡ []
no_rows segments a b c d e f g h i j k l = rw (a, b, c, d, e, f, g, h, i, j, k, l) refl

none_leads : (path : List ℕ) → IsUtf8 path → first rows path ≡ None → Leads path None
none_leads path u f =
    let d = missing path rows are_ended f in
    no_rows (segments_in path)
    (segments_no_fit (word "compliance") (id ∷ []) path refl u d.0)
    (segments_no_fit (word "compliance") [] path refl u d.1.0)
    (segments_no_fit (word "drafts") (word "geographies" ∷ id ∷ []) path refl u d.1.1.0)
    (segments_no_fit (word "drafts") (word "policies" ∷ id ∷ []) path refl u d.1.1.1.0)
    (segments_no_fit (word "fleet") (word "events" ∷ []) path refl u d.1.1.1.1.0)
    (segments_no_fit (word "fleet") (word "vehicles" ∷ id ∷ []) path refl u d.1.1.1.1.1.0)
    (segments_no_fit (word "fleet") (word "vehicles" ∷ []) path refl u d.1.1.1.1.1.1.0)
    (segments_no_fit (word "geographies") (id ∷ []) path refl u d.1.1.1.1.1.1.1.0)
    (segments_no_fit (word "geographies") [] path refl u d.1.1.1.1.1.1.1.1.0)
    (segments_no_fit (word "policies") (id ∷ []) path refl u d.1.1.1.1.1.1.1.1.1.0)
    (segments_no_fit (word "policies") [] path refl u d.1.1.1.1.1.1.1.1.1.1.0)
    (segments_no_fit (word "publish") [] path refl u d.1.1.1.1.1.1.1.1.1.1.1.0)

lead_of : (path : List ℕ) (o : Option (RouteOf Route)) → IsUtf8 path → first rows path ≡ o → Leads path o
lead_of path None u f = none_leads path u f
lead_of path (Some route) u f = some_leads path route u f

pub all_lead : AllLead rows
all_lead path u = lead_of path (first rows path) u refl

refuted : (b : Bool) (segments : List (List ℕ)) → (b ≡ true → ⊥) → length (rows_at (cond b segments [])) ≡ 0
refuted true segments broken = absurd (broken refl)
refuted false segments broken = refl

pub in_no_text : (target path : List ℕ) → path ≡ path_of target → (IsUtf8 path → ⊥) → length (rows_at (segments_of target)) ≡ 0
in_no_text target path e broken =
    subst (λ p. length (rows_at (segments_in p)) ≡ 0) e (refuted (is_utf8 path) (behind_slash (slice_split is_slash path)) (λ t. broken (IsUtf8-from_is_utf8 path t)))
