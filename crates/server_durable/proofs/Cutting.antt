-- The first line of a text, and the reports of its lines.
use Rattle.std.proofs.Common.{◌≡◌, ℕ, ◌+◌, ◌≤◌, ◌<◌, Bool, true, false, cond, List, [], ◌∷◌, ◌++◌}
use Rattle.std.proofs.Common.{length, map, filter, take, drop, position, Some, None, refl, sym, ap, ◌∙◌, arith, append_assoc, length-append}
use Rattle.std.specs.Io.BufRead.{strip_last}
use Rattle.std.proofs.lemmas.List.{append-nil, map-append}
use Rattle.mds_script.specs.Input.{is_feed, is_filled, lines}
use Rattle.mds_script.proofs.Framed.{first_line, last_line}
use Rattle.mds_script.proofs.Gathered.{feed_splits, feed_first, feed_missing, strip_is}

-- a line feed ends the first line
pub first_is : (text : List ℕ) (place : ℕ) → position is_feed text ≡ Some place
    → lines text ≡ strip_last 13 (take place text) ∷ lines (drop (place + 1) text)
first_is text place found =
    ap lines (feed_splits text place found) ∙ first_line (take place text) (drop (place + 1) text) (feed_first text place found)
    ∙ ap (λ line. line ∷ lines (drop (place + 1) text)) (sym (strip_is (take place text)))

-- without one the text is its only line
pub last_is : (text : List ℕ) → 0 < length text → position is_feed text ≡ None → lines text ≡ text ∷ []
last_is [] some missing = absurd (omega arith)
last_is (byte ∷ bytes) some missing = last_line byte bytes (feed_missing (byte ∷ bytes) missing)

by_test : {A : Type 0} (b : Bool) (x : A) (xs : List A) → cond b (x ∷ xs) xs ≡ cond b (x ∷ []) [] ++ xs
by_test true x xs = refl
by_test false x xs = refl

filter_first : {A : Type 0} (test : A → Bool) (x : A) (xs : List A) → filter test (x ∷ xs) ≡ filter test (x ∷ []) ++ filter test xs
filter_first test x xs = by_test (test x) x (filter test xs)

module _ {A : Type 0} (report : List ℕ → A) where
  -- the reports of these lines
  abbrev pub reported : List (List ℕ) → List A
  reported ls = map report (filter is_filled ls)

  reported_first : (line : List ℕ) (ls : List (List ℕ)) → reported (line ∷ ls) ≡ reported (line ∷ []) ++ reported ls
  reported_first line ls =
      ap (map report) (filter_first is_filled line ls) ∙ map-append report (filter is_filled (line ∷ [])) (filter is_filled ls)

  -- one more line is reported, and the others are still to be
  pub reported_next : (so_far now all : List A) (line rest behind : List ℕ) → lines rest ≡ line ∷ lines behind → now ≡ so_far ++ reported (line ∷ [])
      → so_far ++ reported (lines rest) ≡ all → now ++ reported (lines behind) ≡ all
  reported_next so_far now all line rest behind first more was =
      ap (λ xs. xs ++ reported (lines behind)) more
      ∙ append_assoc so_far (reported (line ∷ [])) (reported (lines behind))
      ∙ ap (λ xs. so_far ++ xs) (sym (reported_first line (lines behind)) ∙ ap reported (sym first))
      ∙ was

  by_filled : (b : Bool) (line : List ℕ) → is_filled line ≡ b → reported (line ∷ []) ≡ cond b (report line ∷ []) []
  by_filled true line is = ap (λ t. map report (cond t (line ∷ []) [])) is
  by_filled false line is = ap (λ t. map report (cond t (line ∷ []) [])) is

  -- an empty line is no report
  pub reports_none : (line : List ℕ) (so_far : List A) → is_filled line ≡ false → so_far ≡ so_far ++ reported (line ∷ [])
  reports_none line so_far is = sym (ap (λ xs. so_far ++ xs) (by_filled false line is) ∙ append-nil so_far)

  -- any other is one report
  pub reports_one : (line : List ℕ) (so_far now : List A) (it : A) → is_filled line ≡ true → it ≡ report line → now ≡ so_far ++ it ∷ []
      → now ≡ so_far ++ reported (line ∷ [])
  reports_one line so_far now it is it_is more =
      more ∙ ap (λ x. so_far ++ x ∷ []) it_is ∙ sym (ap (λ xs. so_far ++ xs) (by_filled true line is))

  -- one more line after as many as there may be makes them too many
  pub more_than : (so_far all : List A) (line rest behind : List ℕ) (most : ℕ) → lines rest ≡ line ∷ lines behind → so_far ++ reported (lines rest) ≡ all
      → is_filled line ≡ true → most ≤ length so_far → most < length all
  more_than so_far all line rest behind most first was is least =
      let now = so_far ++ reported (line ∷ []) in
      let onto : now ++ reported (lines behind) ≡ all = reported_next so_far now all line rest behind first refl was in
      let one : length now ≡ length so_far + 1 = ap (λ xs. length (so_far ++ xs)) (by_filled true line is) ∙ length-append so_far (report line ∷ []) in
      let many : length all ≡ length now + length (reported (lines behind)) =
      sym (ap length onto) ∙ length-append now (reported (lines behind)) in
      omega (arith, one, many, least)
