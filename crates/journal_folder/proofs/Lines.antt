-- The text of compactions: where the parts of a line end, and where the line does.
use Rattle.std.proofs.Common.{◌≡◌, ◌≢◌, ℕ, zero, suc, ◌+◌, ◌-◌, ◌<◌, ◌≤◌, ◌^◌, ◌&&◌, Bool, true, false, List, [], ◌∷◌, ◌++◌, length, get_or, Option, Some, None, IfSome, ◌⊎◌, inl, inr, refl, sym, ap, ◌∙◌, ⊎_elim, append_assoc, length-append, arith, rules}
use Rattle.std.proofs.lemmas.Bool.{false≢true, cases_lt}
use Rattle.std.proofs.lemmas.Fmt.{digits_decimal}
use Rattle.std.proofs.lemmas.List.{get_or_append_left, get_or-append_right, get_or_at}
use Rattle.std.proofs.lemmas.List.Folds.{list_all_at}
use Rattle.std.proofs.lemmas.Str.Parse.{IsNumeralModel, numerals_by_value, tells_digits, not_in_digits}
use Rattle.std.proofs.lemmas.Str.Pattern.{IsSplitOnceResult, split_after, split_parts}
use Rattle.std.specs.Fmt.{decimal}
use Rattle.std.specs.Int.{IsInRange}
use Rattle.std.specs.Borrow.{Bor}
use Rattle.std.specs.Prelude.{codes}
use Rattle.std.specs.List.{list_all, AllByRecursion}
use Rattle.std.specs.Str.Parse.{AllDigits, digits_value}
use Rattle.mds_text.specs.Fields.{last_moment}
use Rattle.journal_folder.specs.Compactions.{Compaction, IsCompaction, AreCompactions, is_name, is_name_byte, name_text, line_of, text_of}

-- no byte of these is that one
abbrev pub Lacks : ℕ → List ℕ → Type 0
Lacks byte xs = (i : ℕ) → i < length xs → get_or xs i 0 ≢ byte

lacks-cons : (byte x : ℕ) (xs : List ℕ) → x ≢ byte → Lacks byte xs → Lacks byte (x ∷ xs)
lacks-cons byte x xs other rest zero lt = other
lacks-cons byte x xs other rest (suc i) lt = rest i (omega (arith, lt))

lacks-append : (byte : ℕ) (xs ys : List ℕ) → Lacks byte xs → Lacks byte ys → Lacks byte (xs ++ ys)
lacks-append byte xs ys front back i lt = ⊎_elim
    (λ (low : i < length xs). rw (get_or_append_left xs ys 0 i low) (front i low))
    (λ (high : length xs ≤ i). rw (get_or-append_right xs ys (length xs) i 0 refl high) (back (i - length xs) (omega (arith, lt, length-append xs ys, high))))
    (cases_lt i (length xs))

own : IsNumeralModel (AllDigits 10) (digits_value 10)
own = numerals_by_value (AllDigits 10) tells_digits

-- a moment has 64 bits
pub moment_fits : (at : ℕ) → at ≤ last_moment → at < 2 ^ 64
moment_fits at le = omega (arith, le)

-- a moment's digits have neither a space nor a line feed
pub digits_lack : (at byte : ℕ) → at ≤ last_moment → ¬ (IsInRange 48 57 byte) → Lacks byte (decimal at)
digits_lack at byte le other = not_in_digits own (decimal at) byte (digits_decimal own at (moment_fits at le)) other

name_lacks : (name : List ℕ) → list_all is_name_byte name ≡ true → Lacks 10 name
name_lacks name all i lt is =
    false≢true (sym (list_all_at is_name_byte name i 0 lt (ap is_name_byte is)) ∙ all)

word_lacks : (archived : Option (List ℕ)) → IfSome archived (λ name. is_name name ≡ true) → Lacks 10 (name_text archived)
word_lacks None named = lacks-cons 10 45 [] (search rules) (λ i lt. absurd (omega (arith, lt)))
word_lacks (Some name) named = name_lacks name (search (rules, named))

-- no line has a line feed
pub line_lacks : (c : Compaction) → IsCompaction c → Lacks 10 (line_of c)
line_lacks c is =
    lacks-append 10 (decimal c.latest) (32 ∷ name_text c.archived) (digits_lack c.latest 10 is.0 (search rules))
    (lacks-cons 10 32 (name_text c.archived) (search rules) (word_lacks c.archived is.1))

-- one more line at the end
pub text_of-push : (cs : List Compaction) (c : Compaction) → text_of (cs ++ c ∷ []) ≡ text_of cs ++ (line_of c ++ 10 ∷ [])
text_of-push [] c = refl
text_of-push (d ∷ cs) c =
    ap (λ rest. line_of d ++ 10 ∷ rest) (text_of-push cs c) ∙ sym (append_assoc (line_of d) (10 ∷ text_of cs) (line_of c ++ 10 ∷ []))

-- and a text behind it
pub text_of-more : (cs : List Compaction) (c : Compaction) (behind : List ℕ)
    → text_of (cs ++ c ∷ []) ++ behind ≡ text_of cs ++ (line_of c ++ 10 ∷ behind)
text_of-more cs c behind =
    ap (λ text. text ++ behind) (text_of-push cs c)
    ∙ (append_assoc (text_of cs) (line_of c ++ 10 ∷ []) behind ∙ ap (λ rest. text_of cs ++ rest) (append_assoc (line_of c) (10 ∷ []) behind))

pub are-push : (cs : List Compaction) (c : Compaction) → AreCompactions cs → IsCompaction c → AreCompactions (cs ++ c ∷ [])
are-push [] c are is = (is, tt)
are-push (d ∷ cs) c are is = (are.0, are-push cs c are.1 is)

-- what stands behind a moment: no name, or a name
abbrev pub IsDash : Option (List ℕ) → Type 0
IsDash archived = (archived ≡ None) × (name_text archived ≡ codes "-")

abbrev pub IsName : Option (List ℕ) → Type 0
IsName archived = (archived ≡ Some (name_text archived)) × (is_name (name_text archived) ≡ true)

pub word_cases : (archived : Option (List ℕ)) → IfSome archived (λ name. is_name name ≡ true) → IsDash archived ⊎ IsName archived
word_cases None named = inl (refl, refl)
word_cases (Some name) named = inr (refl, named)

-- a line's moment and word, where a space stands between them
pub line_parts : (line digits word : Bor (List ℕ)) (c : Compaction) → IsSplitOnceResult 32 line.now (Some (digits, word)) → IsCompaction c
    → line_of c ≡ line.now → (decimal c.latest ≡ digits.now) × (name_text c.archived ≡ word.now)
line_parts line digits word c parts is e =
    let found = split_after 32 line.now (decimal c.latest) (name_text c.archived) (Some (digits, word)) parts (omega arith) (sym e)
    (digits_lack c.latest 32 is.0 (search rules)) in
    (sym found.0, sym found.1)

-- a line has a space
pub line_has_space : (line : List ℕ) (c : Compaction) → IsSplitOnceResult 32 line None → IsCompaction c → line_of c ≢ line
line_has_space line c none is e =
    split_after 32 line (decimal c.latest) (name_text c.archived) None none (omega arith) (sym e) (digits_lack c.latest 32 is.0 (search rules))

-- the compactions of a text that has a line feed: the first one's line is what stands in front of it
pub next_line : (cs : List Compaction) (rest : List ℕ) (line behind : Bor (List ℕ)) → IsSplitOnceResult 10 rest (Some (line, behind))
    → AreCompactions cs → text_of cs ≡ rest
    → (c : Compaction) × IsCompaction c × (line_of c ≡ line.now) × ((more : List Compaction) × AreCompactions more × (text_of more ≡ behind.now))
next_line [] rest line behind parts are e =
    let whole = (split_parts 10 rest (Some (line, behind)) parts (omega arith)).0 in
    absurd (omega (arith, ap length (e ∙ whole), length-append line.now (10 ∷ behind.now)))
next_line (c ∷ cs) rest line behind parts are e =
    let found = split_after 10 rest (line_of c) (text_of cs) (Some (line, behind)) parts (omega arith) (sym e) (line_lacks c are.0) in
    (c, are.0, sym found.0, (cs, are.1, sym found.1))

-- one that has none is empty
pub no_line : (cs : List Compaction) (rest : List ℕ) → IsSplitOnceResult 10 rest None → text_of cs ≡ rest → rest ≡ []
no_line [] rest parts e = sym e
no_line (c ∷ cs) rest parts e =
    let lacks = split_parts 10 rest None parts (omega arith) in
    absurd (lacks (length (line_of c)) (omega (arith, ap length (sym e), length-append (line_of c) (10 ∷ text_of cs)))
    (ap (λ text. get_or text (length (line_of c)) 0) (sym e) ∙ get_or_at (line_of c) 10 (text_of cs) 0 (length (line_of c)) refl))
