-- Samples along a journal: for each moment the replay goes on from the entries that were answered for the one before.
use Rattle.std.proofs.Common.{◌≡◌, ◌≤◌, ℕ, List, [], ◌∷◌, ◌++◌, map, drop, length, Bool, true, false, cond, nat_le, nat_lt, suc}
use Rattle.std.proofs.Common.{◌+◌, ◌<◌, get_or, Some, refl, sym, ap, ◌∙◌, arith}
use Rattle.std.specs.List.{flat_map}
use Rattle.std.proofs.Math.Seq.{drop-cons}
use Rattle.std.proofs.lemmas.List.{append-nil, append_assoc}
use Rattle.std.proofs.lemmas.Bool.{and_parts}
use Rattle.std.proofs.lemmas.Bool.Decides.{nat_tests}
use Rattle.journal_entry.specs.Entries.{Entry}
use Rattle.journal_folder.specs.Choosing.{in_time}
use Rattle.journal_samples.specs.Samples.{ascends, samples_at, samples_by}
use Rattle.journal_samples.specs.Standing.{Standing, after_entry, after_entries, standing_at}
use Rattle.journal_samples.specs.declared.sample.RuleSample.{RuleSample}

pub after_append : (s : Standing) (xs ys : List Entry) → after_entries s (xs ++ ys) ≡ after_entries (after_entries s xs) ys
after_append s [] ys = refl
after_append s (e ∷ xs) ys = after_append (after_entry s e) xs ys

-- what is behind the entries in front of the first later one
abbrev pub behind : ℕ → List Entry → List Entry
behind t entries = drop (length (in_time (Some t) entries)) entries

not_later : (s t at : ℕ) → s ≤ t → nat_lt s at ≡ false → nat_lt t at ≡ false
not_later s t at le h = grind (arith, nat_tests)

-- a later moment has the entries of an earlier one, and further ones behind them
pub in_time_split : (s t : ℕ) → s ≤ t → (entries : List Entry)
    → in_time (Some t) entries ≡ in_time (Some s) entries ++ in_time (Some t) (behind s entries)
in_time_split s t le [] = refl
in_time_split s t le (e ∷ entries) = by (nat_lt s e.at) refl (in_time_split s t le entries)
  where
    by : (b : Bool) → nat_lt s e.at ≡ b → in_time (Some t) entries ≡ in_time (Some s) entries ++ in_time (Some t) (behind s entries)
        → in_time (Some t) (e ∷ entries) ≡ cond b [] (e ∷ in_time (Some s) entries)
        ++ in_time (Some t) (drop (length (cond b [] (e ∷ in_time (Some s) entries))) (e ∷ entries))
    by true is rest = refl
    by false is rest = ap (λ b. cond b [] (e ∷ in_time (Some t) entries)) (not_later s t e.at le is) ∙ ap (λ xs. e ∷ xs) rest

-- the samples, one moment after another
abbrev pub along : Standing → List Entry → List ℕ → List RuleSample
along s entries [] = []
along s entries (t ∷ moments) = samples_at (standing_at s entries t) t ++ along (standing_at s entries t) (behind t entries) moments

-- after further entries it stands as after all, at each moment from this one on
abbrev GoesOn : Standing → List Entry → Standing → List Entry → ℕ → Type 0
GoesOn first all s entries t = (u : ℕ) → t ≤ u → standing_at s entries u ≡ standing_at first all u

goes_on : (first : Standing) (all : List Entry) (s : Standing) (entries : List Entry) (t u : ℕ) → t ≤ u → GoesOn first all s entries t
    → GoesOn first all (standing_at s entries u) (behind u entries) u
goes_on first all s entries t u le h w more =
    sym (after_append s (in_time (Some u) entries) (in_time (Some w) (behind u entries)))
    ∙ ap (after_entries s) (sym (in_time_split u w more entries))
    ∙ h w (omega arith)

along_by : (first : Standing) (all : List Entry) (s : Standing) (entries : List Entry) (t : ℕ) (moments : List ℕ) → ascends t moments ≡ true
    → GoesOn first all s entries t → along s entries moments ≡ samples_by first all moments
along_by first all s entries t [] up h = refl
along_by first all s entries t (u ∷ moments) up h =
    let parts = and_parts (nat_le t u) (ascends u moments) up in
    let le : t ≤ u = grind (arith, nat_tests, parts.0) in
    ap (λ x. samples_at x u ++ along (standing_at s entries u) (behind u entries) moments) (h u le)
    ∙ ap (λ xs. samples_at (standing_at first all u) u ++ xs)
    (along_by first all (standing_at s entries u) (behind u entries) u moments parts.1 (goes_on first all s entries t u le h))

pub along_is : (s : Standing) (entries : List Entry) (moments : List ℕ) → ascends 0 moments ≡ true
    → along s entries moments ≡ samples_by s entries moments
along_is s entries moments up = along_by s entries s entries 0 moments up (λ u le. refl)

-- what is left of moments begins with the next one
pub drop_more : (xs : List ℕ) (i x : ℕ) → i < length xs → x ≡ get_or xs i x → drop i xs ≡ x ∷ drop (i + 1) xs
drop_more xs i x within is =
    let next : suc i ≡ i + 1 = omega arith in
    drop-cons xs i x within ∙ ap (λ y. y ∷ drop (suc i) xs) (sym is) ∙ ap (λ n. x ∷ drop n xs) next

-- one more moment
pub one_along : (s next : Standing) (left later : List Entry) (t count : ℕ) (moments rest : List ℕ) (found new all : List RuleSample)
    → moments ≡ t ∷ rest
    → count ≡ length (in_time (Some t) left) → next ≡ after_entries s (in_time (Some t) left) → later ≡ drop count left
    → new ≡ found ++ samples_at next t → found ++ along s left moments ≡ all → new ++ along next later rest ≡ all
one_along s next left later t count moments rest found new all first counted led is made told =
    ap (λ xs. xs ++ along next later rest) made
    ∙ append_assoc found (samples_at next t) (along next later rest)
    ∙ ap (λ es. found ++ (samples_at next t ++ along next es rest)) (is ∙ ap (λ n. drop n left) counted)
    ∙ ap (λ n. found ++ (samples_at n t ++ along n (behind t left) rest)) led
    ∙ ap (λ ms. found ++ along s left ms) (sym first)
    ∙ told

-- behind the last moment
pub all_along : (s now : Standing) (entries left : List Entry) (moments rest : List ℕ) (found : List RuleSample) → ascends 0 moments ≡ true
    → rest ≡ []
    → found ++ along now left rest ≡ along s entries moments → found ≡ samples_by s entries moments
all_along s now entries left moments rest found up none told =
    sym (append-nil found) ∙ ap (λ ms. found ++ along now left ms) (sym none) ∙ told ∙ along_is s entries moments up
