-- The rows next to the protocol's table are those of the calls outside it.
use Prim.Native.String.{String}
use Rattle.std.proofs.Common.{◌≡◌, ◌++◌, ◌∷◌, [], List, ℕ, Bool, true, false, cond, not, codes, length, take, drop, bytes_eq, ◌&&◌, ◌||◌, ◌==◌, map, Option, Some, None, option_map, refl, sym, ap, subst, ◌∙◌}
use Rattle.std.specs.List.{join_with_byte, list_any, onto_first, slice_split}
use Rattle.std.specs.Option.{option_or}
use Rattle.std.specs.Str.{IsUtf8, is_utf8}
use Rattle.std.proofs.Math.Seq.{drop-append_seam, take-append_seam}
use Rattle.std.proofs.lemmas.Bool.{and_from, and_parts}
use Rattle.std.proofs.lemmas.List.{take-append-drop}
use Rattle.std.proofs.lemmas.List.Splits.{join_with_byte-slice_split, slice_split-cons_no}
use Rattle.std.proofs.lemmas.Slice.Eq.{bytes_eq-Decides}
use Rattle.std.proofs.lemmas.Str.{is_utf8-from_IsUtf8}
use Rattle.mds_request.specs.Call.{Part, behind_slash, fits, id, is_empty, is_slash, segments_in, word}
use Rattle.mds_request.specs.declared.request.Verb.{Verb}
use Rattle.mds_request.specs.declared.request.Verb.TheVariants.{Get, Post}
use Rattle.server_responses.specs.Methods.{beside_at}
use Rattle.server_routes.specs.Allowed.{verbs_for}
use Rattle.server_routes.specs.App.{call_at, compliance_path, drafts_path, events_path, fleet_call, fleet_path, is_segment, verb_for, whoami_path, withdrawals_path}
use Rattle.server_routes.specs.Target.{identifier}
use Rattle.server_routes.specs.declared.app.AppCall.{AppCall}
use Rattle.server_routes.specs.declared.app.AppCall.TheVariants.{Events, Fleet, Told}
use Rattle.server_routes.specs.declared.app.FleetView.{FleetView}
use Rattle.server_routes.specs.declared.app.FleetView.TheVariants.{Compliance, Vehicles}
use Rattle.server_routes.specs.declared.app.Question.TheVariants.{Whoami, Withdrawals, Drafts}

-- the methods of the rows with these segments
abbrev verbs_in : List (List ℕ) → List Verb
verbs_in segments = map (λ r. r.verb) (beside_at segments)

-- the methods of the rows that have a path
abbrev verbs : List ℕ → List Verb
verbs path = verbs_in (segments_in path)

-- the path of one segment in a folder of `/app`
abbrev in_folder : String → List ℕ → List ℕ
in_folder folder segment = codes "/app/" ++ codes folder ++ (47 ∷ segment)

-- what a row's words and identifiers stand for
word_fits : (w : String) (parts : List Part) (segments : List (List ℕ)) → fits (word w ∷ parts) segments ≡ true
    → (others : List (List ℕ)) × (segments ≡ codes w ∷ others) × (fits parts others ≡ true)
word_fits w parts [] h = cc
word_fits w parts (s ∷ others) h =
    let both = and_parts (bytes_eq s (codes w)) (fits parts others) h in
    (others, ap (λ t. t ∷ others) ((bytes_eq-Decides s (codes w)).0 both.0), both.1)

id_fits : (parts : List Part) (segments : List (List ℕ)) → fits (id ∷ parts) segments ≡ true
    → (s : List ℕ) × (others : List (List ℕ)) × (segments ≡ s ∷ others) × (fits parts others ≡ true)
id_fits parts [] h = cc
id_fits parts (s ∷ others) h = (s, others, refl, h)

end_fits : (segments : List (List ℕ)) → fits [] segments ≡ true → segments ≡ []
end_fits [] h = refl
end_fits (s ∷ others) h = cc

-- a path with segments: where it is split, and that none of them is empty
record IsSplit (path : List ℕ) (segments : List (List ℕ)) : Type 0 where
  pieces : slice_split is_slash path ≡ [] ∷ segments
  filled : list_any is_empty segments ≡ false

some_filled : (b : Bool) (segments : List (List ℕ)) (s : List ℕ) (others : List (List ℕ)) → cond b [] segments ≡ s ∷ others
    → (segments ≡ s ∷ others) × (b ≡ false)
some_filled true segments s others e = cc
some_filled false segments s others e = (e, refl)

split_of : (text : Bool) (path : List ℕ) (pieces : List (List ℕ)) (s : List ℕ) (others : List (List ℕ)) → slice_split is_slash path ≡ pieces
    → cond text (behind_slash pieces) [] ≡ s ∷ others → IsSplit path (s ∷ others)
split_of false path pieces s others p e = cc
split_of true path [] s others p e = cc
split_of true path ((b ∷ bs) ∷ segments) s others p e = cc
split_of true path ([] ∷ segments) s others p e =
    let both = some_filled (list_any is_empty segments) segments s others e in
    record { pieces = p ∙ ap (λ x. [] ∷ x) both.0; filled = ap (list_any is_empty) (sym both.0) ∙ both.1 }

is_split : (path : List ℕ) (s : List ℕ) (others : List (List ℕ)) → segments_in path ≡ s ∷ others → IsSplit path (s ∷ others)
is_split path s others e = split_of (is_utf8 path) path (slice_split is_slash path) s others refl e

-- the path is its segments, each after a slash
joined : (path : List ℕ) (s : List ℕ) (others : List (List ℕ)) → IsSplit path (s ∷ others) → path ≡ 47 ∷ join_with_byte 47 (s ∷ others)
joined path s others is = sym (join_with_byte-slice_split 47 path) ∙ ap (join_with_byte 47) is.pieces

-- pieces of a path have no slash
abbrev Slashless : List (List ℕ) → Type 0
Slashless [] = Unit {0}
Slashless (s ∷ others) = (list_any is_slash s ≡ false) × Slashless others

step : (b : ℕ) (pieces : List (List ℕ)) (slash : Bool) → (b == 47) ≡ slash → Slashless pieces → Slashless (cond slash ([] ∷ pieces) (onto_first b pieces))
step b pieces true e h = (refl, h)
step b [] false e h = (rw e refl, tt)
step b (s ∷ others) false e h = (rw e h.0, h.1)

slashless : (path : List ℕ) → Slashless (slice_split is_slash path)
slashless [] = (refl, tt)
slashless (b ∷ path) = step b (slice_split is_slash path) (b == 47) refl (slashless path)

-- a text without a slash is one piece
one_step : (b : ℕ) (s : List ℕ) (slash : Bool) → (b == 47) ≡ slash → (list_any is_slash s ≡ false → slice_split is_slash s ≡ s ∷ [])
    → slash || list_any is_slash s ≡ false → slice_split is_slash (b ∷ s) ≡ (b ∷ s) ∷ []
one_step b s true e f h = cc
one_step b s false e f h = slice_split-cons_no is_slash b s e ∙ ap (onto_first b) (f h)

one_piece : (s : List ℕ) → list_any is_slash s ≡ false → slice_split is_slash s ≡ s ∷ []
one_piece [] h = refl
one_piece (b ∷ s) h = one_step b s (b == 47) refl (one_piece s) h

not_true : (b : Bool) → not b ≡ true → b ≡ false
not_true true h = cc
not_true false h = refl

-- a test that holds only where another one does, and that one doesn't
only_false : (b c : Bool) → (b ≡ true → c ≡ true) → c ≡ false → b ≡ false
only_false true c f e = let t = f refl in cc
only_false false c f e = refl

-- no row of words has another path than theirs
no_word : (w : String) (path : List ℕ) → bytes_eq path (codes "/app/" ++ codes w) ≡ false → fits (word "app" ∷ word w ∷ []) (segments_in path) ≡ false
no_word w path other =
    only_false (fits (word "app" ∷ word w ∷ []) (segments_in path)) (bytes_eq path (codes "/app/" ++ codes w))
    (λ f.
    let one = word_fits "app" (word w ∷ []) (segments_in path) f in
    let two = word_fits w [] one.0 one.2 in
    let all : segments_in path ≡ codes "app" ∷ codes w ∷ [] = one.1 ∙ ap (λ r. codes "app" ∷ r) (two.1 ∙ ap (λ r. codes w ∷ r) (end_fits two.0 two.2)) in
    (bytes_eq-Decides path (codes "/app/" ++ codes w)).1 (joined path (codes "app") (codes w ∷ []) (is_split path (codes "app") (codes w ∷ []) all)))
    other

no_words : (v w : String) (path : List ℕ) → bytes_eq path (in_folder v (codes w)) ≡ false → fits (word "app" ∷ word v ∷ word w ∷ []) (segments_in path) ≡ false
no_words v w path other =
    only_false (fits (word "app" ∷ word v ∷ word w ∷ []) (segments_in path)) (bytes_eq path (in_folder v (codes w)))
    (λ f.
    let one = word_fits "app" (word v ∷ word w ∷ []) (segments_in path) f in
    let two = word_fits v (word w ∷ []) one.0 one.2 in
    let three = word_fits w [] two.0 two.2 in
    let all : segments_in path ≡ codes "app" ∷ codes v ∷ codes w ∷ [] =
    one.1 ∙ ap (λ r. codes "app" ∷ r) (two.1 ∙ ap (λ r. codes v ∷ r) (three.1 ∙ ap (λ r. codes w ∷ r) (end_fits three.0 three.2))) in
    (bytes_eq-Decides path (in_folder v (codes w))).1
    (joined path (codes "app") (codes v ∷ codes w ∷ []) (is_split path (codes "app") (codes v ∷ codes w ∷ []) all)))
    other

pub or_parts : (a b : Bool) → a || b ≡ false → (a ≡ false) × (b ≡ false)
or_parts true b h = cc
or_parts false b h = (refl, h)

-- what makes a segment
segment_of : (s : List ℕ) → is_empty s ≡ false → list_any is_slash s ≡ false → is_segment s ≡ true
segment_of s filled whole = rw (filled, whole) refl

segment_parts : (s : List ℕ) → is_segment s ≡ true → (is_empty s ≡ false) × (list_any is_slash s ≡ false)
segment_parts s is =
    let both = and_parts (not (is_empty s)) (not (list_any is_slash s)) is in
    (not_true (is_empty s) both.0, not_true (list_any is_slash s) both.1)

-- whether a path is one segment in a folder of so many bytes
abbrev is_in : ℕ → List ℕ → List ℕ → Bool
is_in n folder path = bytes_eq (take n path) folder && is_segment (drop n path)

in_front : (n : ℕ) (folder path s : List ℕ) → n ≡ length folder → path ≡ folder ++ s → is_segment s ≡ true → is_in n folder path ≡ true
in_front n folder path s size e is =
    subst (λ p. is_in n folder p ≡ true) (sym e)
    (and_from _ _
    ((bytes_eq-Decides (take n (folder ++ s)) folder).1 (ap (λ k. take k (folder ++ s)) size ∙ take-append_seam folder s))
    (ap is_segment (ap (λ k. drop k (folder ++ s)) size ∙ drop-append_seam folder s) ∙ is))

behind_front : (n : ℕ) (folder path : List ℕ) → bytes_eq (take n path) folder ≡ true → path ≡ folder ++ drop n path
behind_front n folder path is = sym (take-append-drop n path) ∙ ap (λ f. f ++ drop n path) ((bytes_eq-Decides (take n path) folder).0 is)

-- no row that ends with an identifier has a path that isn't in its folder
no_id : (w : String) (n : ℕ) (folder path : List ℕ) → n ≡ length folder
    → ((s : List ℕ) → 47 ∷ join_with_byte 47 (codes "app" ∷ codes w ∷ s ∷ []) ≡ folder ++ s)
    → is_in n folder path ≡ false → fits (word "app" ∷ word w ∷ id ∷ []) (segments_in path) ≡ false
no_id w n folder path size whole other =
    only_false (fits (word "app" ∷ word w ∷ id ∷ []) (segments_in path)) (is_in n folder path)
    (λ f.
    let one = word_fits "app" (word w ∷ id ∷ []) (segments_in path) f in
    let two = word_fits w (id ∷ []) one.0 one.2 in
    let three = id_fits [] two.0 two.2 in
    let s = three.0 in
    let all : segments_in path ≡ codes "app" ∷ codes w ∷ s ∷ [] =
    one.1 ∙ ap (λ r. codes "app" ∷ r) (two.1 ∙ ap (λ r. codes w ∷ r) (three.2 ∙ ap (λ r. s ∷ r) (end_fits three.1 three.3))) in
    let is = is_split path (codes "app") (codes w ∷ s ∷ []) all in
    let filled = or_parts (is_empty s) false (or_parts (is_empty (codes w)) (is_empty s || false) is.filled).1 in
    let clean = subst Slashless is.pieces (slashless path) in
    in_front n folder path s size (joined path (codes "app") (codes w ∷ s ∷ []) is ∙ whole s) (segment_of s filled.0 clean.1.1.1.0))
    other

in_text : (path : List ℕ) → IsUtf8 path → segments_in path ≡ behind_slash (slice_split is_slash path)
in_text path text = ap (λ t. cond t (behind_slash (slice_split is_slash path)) []) (is_utf8-from_IsUtf8 path text)

-- the segments of a path in a folder
with_id : (w : String) (s path : List ℕ) → IsUtf8 path → is_segment s ≡ true → is_empty (codes w) ≡ false
    → slice_split is_slash path ≡ [] ∷ codes "app" ∷ codes w ∷ slice_split is_slash s → segments_in path ≡ codes "app" ∷ codes w ∷ s ∷ []
with_id w s path text is named pieces =
    let parts = segment_parts s is in
    let some : list_any is_empty (codes "app" ∷ codes w ∷ s ∷ []) ≡ false = rw (named, parts.0) refl in
    in_text path text
    ∙ ap behind_slash (pieces ∙ ap (λ r. [] ∷ codes "app" ∷ codes w ∷ r) (one_piece s parts.1))
    ∙ ap (λ b. cond b [] (codes "app" ∷ codes w ∷ s ∷ [])) some

in_compliance : (s : List ℕ) → IsUtf8 (codes "/app/compliance/" ++ s) → is_segment s ≡ true → verbs (codes "/app/compliance/" ++ s) ≡ Get ∷ []
in_compliance s text is = ap verbs_in (with_id "compliance" s (codes "/app/compliance/" ++ s) text is refl refl)

one_in_fleet : (s : List ℕ) → bytes_eq s (codes "events") ≡ false → verbs_in (codes "app" ∷ codes "fleet" ∷ s ∷ []) ≡ Get ∷ []
one_in_fleet s other = rw other refl

in_fleet : (s : List ℕ) → IsUtf8 (codes "/app/fleet/" ++ s) → bytes_eq (codes "/app/fleet/" ++ s) events_path ≡ false → is_segment s ≡ true
    → verbs (codes "/app/fleet/" ++ s) ≡ Get ∷ []
in_fleet s text other is = ap verbs_in (with_id "fleet" s (codes "/app/fleet/" ++ s) text is refl refl) ∙ one_in_fleet s other

-- a path that no row has
nothing : (segments : List (List ℕ))
    → fits (word "app" ∷ word "fleet" ∷ word "events" ∷ []) segments ≡ false → fits (word "app" ∷ word "whoami" ∷ []) segments ≡ false
    → fits (word "app" ∷ word "withdrawals" ∷ []) segments ≡ false → fits (word "app" ∷ word "drafts" ∷ []) segments ≡ false
    → fits (word "app" ∷ word "compliance" ∷ []) segments ≡ false → fits (word "app" ∷ word "compliance" ∷ id ∷ []) segments ≡ false
    → fits (word "app" ∷ word "fleet" ∷ []) segments ≡ false → fits (word "app" ∷ word "fleet" ∷ id ∷ []) segments ≡ false
    → verbs_in segments ≡ []
nothing segments a b c d e f g h = rw (a, b, c, d, e, f, g, h) refl

-- a test of the table of calls
tested : (b : Bool) (found : AppCall) (others : Option AppCall) (those : List Verb) → (b ≡ true → those ≡ verb_for found ∷ [])
    → (b ≡ false → those ≡ verbs_for others) → those ≡ verbs_for (cond b (Some found) others)
tested true found others those hit miss = hit refl
tested false found others those hit miss = miss refl

read : (view : FleetView) (found : Option (List ℕ)) → Get ∷ [] ≡ verb_for (fleet_call view found) ∷ []
read view None = refl
read view (Some i) = refl

-- of a folder
looked : (view : FleetView) (b : Bool) (s : List ℕ) (others : Option AppCall) (those : List Verb) → (b ≡ true → those ≡ Get ∷ [])
    → (b ≡ false → those ≡ verbs_for others)
    → those ≡ verbs_for (option_or (option_map (λ segment. fleet_call view (identifier segment)) (cond b (Some s) None)) others)
looked view true s others those hit miss = hit refl ∙ read view (identifier s)
looked view false s others those hit miss = miss refl

last_looked : (view : FleetView) (b : Bool) (s : List ℕ) (those : List Verb) → (b ≡ true → those ≡ Get ∷ []) → (b ≡ false → those ≡ [])
    → those ≡ verbs_for (option_map (λ segment. fleet_call view (identifier segment)) (cond b (Some s) None))
last_looked view true s those hit miss = hit refl ∙ read view (identifier s)
last_looked view false s those hit miss = miss refl

at_word : (path here : List ℕ) (those : List Verb) → IsUtf8 path → verbs_in (behind_slash (slice_split is_slash here)) ≡ those
    → bytes_eq path here ≡ true → verbs path ≡ those
at_word path here those text e is =
    ap verbs_in (in_text path text)
    ∙ subst (λ p. verbs_in (behind_slash (slice_split is_slash p)) ≡ those) (sym ((bytes_eq-Decides path here).0 is)) e

at_compliance : (path : List ℕ) → IsUtf8 path → is_in 16 (codes "/app/compliance/") path ≡ true → verbs path ≡ Get ∷ []
at_compliance path text is =
    let both = and_parts (bytes_eq (take 16 path) (codes "/app/compliance/")) (is_segment (drop 16 path)) is in
    let e = behind_front 16 (codes "/app/compliance/") path both.0 in
    subst (λ p. verbs p ≡ Get ∷ []) (sym e) (in_compliance (drop 16 path) (subst IsUtf8 e text) both.1)

at_fleet : (path : List ℕ) → IsUtf8 path → bytes_eq path events_path ≡ false → is_in 11 (codes "/app/fleet/") path ≡ true → verbs path ≡ Get ∷ []
at_fleet path text other is =
    let both = and_parts (bytes_eq (take 11 path) (codes "/app/fleet/")) (is_segment (drop 11 path)) is in
    let e = behind_front 11 (codes "/app/fleet/") path both.0 in
    subst (λ p. verbs p ≡ Get ∷ []) (sym e)
    (in_fleet (drop 11 path) (subst IsUtf8 e text) (subst (λ p. bytes_eq p events_path ≡ false) e other) both.1)

pub same : (path : List ℕ) → IsUtf8 path → verbs path ≡ verbs_for (call_at path)
same path text =
    tested (bytes_eq path events_path) Events _ (verbs path) (at_word path events_path (Post ∷ []) text refl) (λ events.
    tested (bytes_eq path whoami_path) (Told Whoami) _ (verbs path) (at_word path whoami_path (Get ∷ []) text refl) (λ whoami.
    tested (bytes_eq path withdrawals_path) (Told Withdrawals) _ (verbs path) (at_word path withdrawals_path (Get ∷ []) text refl) (λ withdrawals.
    tested (bytes_eq path drafts_path) (Told Drafts) _ (verbs path) (at_word path drafts_path (Get ∷ []) text refl) (λ drafts.
    tested (bytes_eq path compliance_path) (Fleet Compliance) _ (verbs path) (at_word path compliance_path (Get ∷ []) text refl) (λ compliance.
    tested (bytes_eq path fleet_path) (Fleet Vehicles) _ (verbs path) (at_word path fleet_path (Get ∷ []) text refl) (λ fleet.
    looked Compliance (is_in 16 (codes "/app/compliance/") path) (drop 16 path) _ (verbs path) (at_compliance path text) (λ one_compliance.
    last_looked Vehicles (is_in 11 (codes "/app/fleet/") path) (drop 11 path) (verbs path) (at_fleet path text events) (λ one_fleet.
    nothing (segments_in path)
    (no_words "fleet" "events" path events)
    (no_word "whoami" path whoami)
    (no_word "withdrawals" path withdrawals)
    (no_word "drafts" path drafts)
    (no_word "compliance" path compliance)
    (no_id "compliance" 16 (codes "/app/compliance/") path refl (λ s. refl) one_compliance)
    (no_word "fleet" path fleet)
    (no_id "fleet" 11 (codes "/app/fleet/") path refl (λ s. refl) one_fleet)))))))))
