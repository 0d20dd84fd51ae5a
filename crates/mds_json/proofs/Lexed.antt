-- The lexemes of a text whose numbers are quoted.
use Rattle.std.proofs.Common.{◌≡◌, ℕ, zero, suc, ◌+◌, ◌<◌, ◌≤◌, List, [], ◌∷◌, ◌++◌, Bool, true, false, cond, ◌||◌, ◌==◌, length, map, Option, Some, None, refl, sym, ap, ap₂, ◌∙◌, subst, arith, inl, inr, ◌⊎◌, append_assoc, length-append, IsUtf8}
use Rattle.std.specs.Char.{is_ascii_digit}
use Rattle.std.specs.List.{flat_map, prefix_len}
use Rattle.std.proofs.lemmas.Bool.{true≢false, false≢true, eqb-true, and_parts, or_cases, or_left, cases_lt, agree_below_at, ne_eqb, le-ltb}
use Rattle.std.proofs.lemmas.List.{take_at, drop_at}
use Rattle.json.specs.Token.{Token, begin_object, end_object, begin_array, end_array, string, number, boolean, null, bad}
use Rattle.json.specs.Text.{content, plain, prepend}
use Rattle.json.specs.Word.{is_operator, is_space, head, ends_word, word, after_number}
use Rattle.json.specs.Lex.{Lexeme, token, comma, colon, quote, backslash, operator, space, other, between, in_string, string_token, lex_byte, lex, punctuate, fresh, tokens}
use Rattle.json.specs.Align.{is_good}
use Rattle.json.specs.Print.{IsNumber}
use Rattle.json.proofs.Printed.Numbers.{lex-number, in_word-ended}
use Rattle.mds_text.specs.Numbers.{number_of}
use Rattle.mds_text.specs.Quoting.{begins_token, continues_token, string_len, piece_tail, pieces_behind, shown, is_quoted, quoted_text}
use Rattle.mds_text.proofs.Pieces.{pieces-split}
use Rattle.mds_json.proofs.Turning.{turned, turned_lexeme, no_bad, well}
use Rattle.mds_json.proofs.Passing.{Continue, IsWord, a_number, a_true, a_false, a_null, good_word}
use Rattle.mds_json.proofs.Closing.{Closed, closed, Front, byte_front}
use Rattle.mds_json.proofs.Bytes.{peel, join, peel_run, join_run, cut_behind}
use Rattle.std.proofs.lemmas.Str.{IsUtf8-append}
use Rattle.mds_json.proofs.Punctuated.{punctuate-turned}
use Rattle.mds_json.specs.Direct.{quoted_one, quoted_in}
use Rattle.mds_json.proofs.Counted.{quoted_lexemes, punctuate-counted, cut_counted, kept_counted}
use Rattle.mds_text.specs.Quoting.{quoted_count}

-- ---- the first piece

cut : (b : ℕ) (body left : List ℕ) → piece_tail b (body ++ left) ≡ length body → quoted_text (b ∷ (body ++ left)) ≡ shown (b ∷ body) ++ quoted_text left
cut b body left e =
    let n : length (b ∷ body) ≡ 1 + length body = omega arith in
    ap (flat_map shown) (pieces-split (b ∷ (body ++ left)) b (length body) (body ++ left) (b ∷ body) left refl (sym e) (sym (take_at (b ∷ body) left (1 + length body) n)) (sym (drop_at (b ∷ body) left (1 + length body) n)))

-- ---- operators and spaces

record Single (b : ℕ) : Type 0 where
  lexeme : List Lexeme
  lexes : (s : List ℕ) → lex between (b ∷ s) ≡ lexeme ++ lex between s
  same : (ls : List Lexeme) → map turned_lexeme (lexeme ++ ls) ≡ lexeme ++ map turned_lexeme ls
  rest : (ls : List Lexeme) → well (lexeme ++ ls) ≡ true → well ls ≡ true
  tail : (s : List ℕ) → piece_tail b s ≡ 0
  plain : shown (b ∷ []) ≡ b ∷ []
  kept : is_quoted (b ∷ []) ≡ false
  count : (ls : List Lexeme) → quoted_lexemes (lexeme ++ ls) ≡ quoted_lexemes ls
  stops : continues_token b ≡ false
  small : b < 128

pick : (P : ℕ → Type 0) (c x : ℕ) (front : Bool) → P c → (front ≡ true → P x) → (front || (x == c)) ≡ true → P x
pick P c x front p f h = go (or_cases _ _ h)
  where
    go : (front ≡ true) ⊎ ((x == c) ≡ true) → P x
    go (inl e) = f e
    go (inr e) = subst P (sym (eqb-true x c e)) p

lone : (P : ℕ → Type 0) (c x : ℕ) → P c → (x == c) ≡ true → P x
lone P c x p e = subst P (sym (eqb-true x c e)) p

single_operator : (x : ℕ) → is_operator x ≡ true → Single x
unfolding lex number_of
single_operator x =
    pick Single 44 x _ (record { lexeme = comma ∷ []; lexes = λ s. refl; same = λ ls. refl; rest = λ ls h. h; tail = λ s. refl; plain = refl; kept = refl; count = λ ls. omega arith; stops = refl; small = omega arith })
    (pick Single 58 x _ (record { lexeme = colon ∷ []; lexes = λ s. refl; same = λ ls. refl; rest = λ ls h. h; tail = λ s. refl; plain = refl; kept = refl; count = λ ls. omega arith; stops = refl; small = omega arith })
    (pick Single 93 x _ (record { lexeme = token end_array ∷ []; lexes = λ s. refl; same = λ ls. refl; rest = λ ls h. h; tail = λ s. refl; plain = refl; kept = refl; count = λ ls. omega arith; stops = refl; small = omega arith })
    (pick Single 91 x _ (record { lexeme = token begin_array ∷ []; lexes = λ s. refl; same = λ ls. refl; rest = λ ls h. h; tail = λ s. refl; plain = refl; kept = refl; count = λ ls. omega arith; stops = refl; small = omega arith })
    (pick Single 125 x _ (record { lexeme = token end_object ∷ []; lexes = λ s. refl; same = λ ls. refl; rest = λ ls h. h; tail = λ s. refl; plain = refl; kept = refl; count = λ ls. omega arith; stops = refl; small = omega arith })
    (lone Single 123 x (record { lexeme = token begin_object ∷ []; lexes = λ s. refl; same = λ ls. refl; rest = λ ls h. h; tail = λ s. refl; plain = refl; kept = refl; count = λ ls. omega arith; stops = refl; small = omega arith }))))))

single_space : (x : ℕ) → is_space x ≡ true → Single x
unfolding lex number_of
single_space x =
    pick Single 13 x _ (record { lexeme = []; lexes = λ s. refl; same = λ ls. refl; rest = λ ls h. h; tail = λ s. refl; plain = refl; kept = refl; count = λ ls. omega arith; stops = refl; small = omega arith })
    (pick Single 10 x _ (record { lexeme = []; lexes = λ s. refl; same = λ ls. refl; rest = λ ls h. h; tail = λ s. refl; plain = refl; kept = refl; count = λ ls. omega arith; stops = refl; small = omega arith })
    (pick Single 9 x _ (record { lexeme = []; lexes = λ s. refl; same = λ ls. refl; rest = λ ls h. h; tail = λ s. refl; plain = refl; kept = refl; count = λ ls. omega arith; stops = refl; small = omega arith })
    (lone Single 32 x (record { lexeme = []; lexes = λ s. refl; same = λ ls. refl; rest = λ ls h. h; tail = λ s. refl; plain = refl; kept = refl; count = λ ls. omega arith; stops = refl; small = omega arith }))))

single : (x : ℕ) → (is_operator x || is_space x) ≡ true → Single x
single x h = go (or_cases _ _ h)
  where
    go : (is_operator x ≡ true) ⊎ (is_space x ≡ true) → Single x
    go (inl e) = single_operator x e
    go (inr e) = single_space x e

-- ---- what is shown of a text

record Turned (t : List ℕ) : Type 0 where
  lexed : lex between (quoted_text t) ≡ map turned_lexeme (lex between t)
  ends : ends_word t ≡ true → ends_word (quoted_text t) ≡ true
  utf8 : IsUtf8 t → IsUtf8 (quoted_text t)
  counted : quoted_count t ≡ quoted_lexemes (lex between t)

turned_single : (b : ℕ) (s : List ℕ) → Single b → Turned s → Turned (b ∷ s)
turned_single b s h ih =
    let is : quoted_text (b ∷ s) ≡ b ∷ quoted_text s = cut b [] s (h.tail s) ∙ ap (λ v. v ++ quoted_text s) h.plain in
    record {
      lexed = ap (lex between) is ∙ h.lexes (quoted_text s) ∙ ap (λ l. h.lexeme ++ l) ih.lexed ∙ sym (h.same (lex between s)) ∙ ap (map turned_lexeme) (sym (h.lexes s));
      ends = λ e. ap ends_word is ∙ e;
      utf8 = λ u. subst IsUtf8 (sym is) (join b (quoted_text s) h.small (ih.utf8 (peel b s h.small u)));
      counted = kept_counted b [] s (h.tail s) h.kept ∙ ih.counted ∙ sym (ap quoted_lexemes (h.lexes s) ∙ h.count (lex between s));
    }

-- ---- strings

lex_string : (body c q : List ℕ) → content plain (body ++ q) ≡ Some c → lex in_string (body ++ q) ≡ lex between q → lex between (34 ∷ (body ++ q)) ≡ token (string c) ∷ lex between q
unfolding lex
lex_string body c q e f = ap₂ (λ o l. token (string_token o) ∷ l) e f

shown_string : (body : List ℕ) → shown (34 ∷ body) ≡ 34 ∷ body
unfolding number_of
shown_string body = refl

kept_string : (body : List ℕ) → is_quoted (34 ∷ body) ≡ false
unfolding number_of
kept_string body = refl

turned_string : (xs c : List ℕ) → (h : Closed xs c) → Turned h.rest → Turned (34 ∷ xs)
turned_string xs c h ih =
    let t : 34 ∷ xs ≡ 34 ∷ (h.body ++ h.rest) = ap (λ v. 34 ∷ v) h.is in
    let q = quoted_text h.rest in
    let is : quoted_text (34 ∷ xs) ≡ 34 ∷ (h.body ++ q) =
    ap quoted_text t ∙ cut 34 h.body h.rest (ap string_len (sym h.is) ∙ h.len) ∙ ap (λ v. v ++ q) (shown_string h.body) in
    record {
      lexed = ap (lex between) is ∙ lex_string h.body c q (h.read q) (h.lexed q) ∙ ap (λ l. token (string c) ∷ l) ih.lexed
          ∙ sym (ap (map turned_lexeme) (ap (lex between) t ∙ lex_string h.body c h.rest (h.read h.rest) (h.lexed h.rest)));
      ends = λ e. absurd (false≢true e);
      utf8 = λ u.
          let body : h.body ++ h.rest ≡ (h.before ++ 34 ∷ []) ++ h.rest = ap (λ v. v ++ h.rest) h.last in
          let two = cut_behind h.before h.rest (subst IsUtf8 body (peel 34 (h.body ++ h.rest) (omega arith) (subst IsUtf8 t u))) in
          subst IsUtf8 (sym is) (join 34 (h.body ++ q) (omega arith) (IsUtf8-append h.body q (subst IsUtf8 (sym h.last) two.0) (ih.utf8 two.1)));
      counted =
          let one = ap quoted_count t ∙ kept_counted 34 h.body h.rest (ap string_len (sym h.is) ∙ h.len) (kept_string h.body) in
          let two : quoted_lexemes (lex between (34 ∷ xs)) ≡ 0 + quoted_lexemes (lex between h.rest) = ap quoted_lexemes (ap (lex between) t ∙ lex_string h.body c h.rest (h.read h.rest) (h.lexed h.rest)) in
          omega (arith, one, two, ih.counted);
    }

-- ---- numbers

continues_plain : (x : ℕ) → continues_token x ≡ true → Front (x ∷ []) (x ∷ [])
continues_plain x h =
    byte_front x (ne_eqb x 34 (λ e. true≢false (sym h ∙ ap continues_token e))) (ne_eqb x 92 (λ e. true≢false (sym h ∙ ap continues_token e))) (le-ltb x 32 (big (cases_lt x 32)))
  where
    big : (x < 32) ⊎ (32 ≤ x) → 32 ≤ x
    big (inr le) = le
    big (inl lt) = absurd (true≢false (sym h ∙ agree_below_at continues_token (λ y. false) 32 x refl lt))

-- a number in quotes
quoted_run : (n q : List ℕ) → Continue n → (content plain (n ++ 34 ∷ q) ≡ Some n) × (lex in_string (n ++ 34 ∷ q) ≡ lex between q)
unfolding content lex
quoted_run [] q h = (refl, refl)
quoted_run (x ∷ n) q h =
    let f = continues_plain x h.0 in
    let more = quoted_run n q h.1 in
    (f.read (n ++ 34 ∷ q) ∙ ap (prepend (x ∷ [])) more.0, f.lexed (n ++ 34 ∷ q) ∙ more.1)

stopped : (r : List ℕ) → ends_word r ≡ true → prefix_len continues_token r ≡ 0
stopped [] h = refl
stopped (x ∷ r) h = ap (λ b. cond b (1 + prefix_len continues_token r) 0) (single x h).stops

run_len : (m rest : List ℕ) → Continue m → prefix_len continues_token rest ≡ 0 → prefix_len continues_token (m ++ rest) ≡ length m
run_len [] rest h e = e
run_len (x ∷ m) rest h e = let more = run_len m rest h.1 e in ap (λ b. cond b (1 + prefix_len continues_token (m ++ rest)) 0) h.0 ∙ omega (arith, more)

token_tail : (x : ℕ) (s : List ℕ) → begins_token x ≡ true → piece_tail x s ≡ prefix_len continues_token s
token_tail x s h =
    let no : (x == 34) ≡ false = ne_eqb x 34 (λ e. true≢false (sym h ∙ ap begins_token e)) in
    ap (λ b. cond b (string_len s) (cond (begins_token x) (prefix_len continues_token s) 0)) no ∙ ap (λ b. cond b (prefix_len continues_token s) 0) h

begins_continues : (x : ℕ) → begins_token x ≡ true → continues_token x ≡ true
begins_continues x h = go (or_cases _ _ h)
  where
    go : ((x == 45) ≡ true) ⊎ (is_ascii_digit x ≡ true) → continues_token x ≡ true
    go (inl e) = ap continues_token (eqb-true x 45 e)
    go (inr e) = or_left _ _ (or_left _ _ (or_left _ _ (or_left _ _ (or_left _ _ e))))

lex_quoted : (n q : List ℕ) → content plain (n ++ 34 ∷ q) ≡ Some n → lex in_string (n ++ 34 ∷ q) ≡ lex between q → lex between (34 ∷ (n ++ 34 ∷ q)) ≡ token (string n) ∷ lex between q
unfolding lex
lex_quoted n q e f = ap₂ (λ o l. token (string_token o) ∷ l) e f

number_text : (b : Bool) (n rest : List ℕ) → is_quoted n ≡ b → IsNumber n → Continue n → ends_word rest ≡ true → Turned rest
    → lex between (cond b (34 ∷ n ++ 34 ∷ []) n ++ quoted_text rest) ≡ token (cond b (string n) (number n)) ∷ map turned_lexeme (lex between rest)
number_text true n rest e valid all ended ih =
    let q = quoted_text rest in
    let run = quoted_run n q all in
    let body : (n ++ 34 ∷ []) ++ q ≡ n ++ 34 ∷ q = append_assoc n (34 ∷ []) q in
    ap (λ v. lex between (34 ∷ v)) body ∙ lex_quoted n q run.0 run.1 ∙ ap (λ l. token (string n) ∷ l) ih.lexed
number_text false n rest e valid all ended ih = lex-number n (quoted_text rest) valid (ih.ends ended) ∙ ap (λ l. token (number n) ∷ l) ih.lexed

number_utf8 : (b : Bool) (n q : List ℕ) → Continue n → IsUtf8 q → IsUtf8 (cond b (34 ∷ n ++ 34 ∷ []) n ++ q)
number_utf8 true n q all u = join 34 _ (omega arith) (subst IsUtf8 (sym (append_assoc n (34 ∷ []) q)) (join_run n (34 ∷ q) all (join 34 q (omega arith) u)))
number_utf8 false n q all u = join_run n q all u

no_number : IsNumber [] → ⊥
unfolding after_number
no_number h = absurd (cc)

turned_number : (n rest : List ℕ) → IsNumber n → Continue n → begins_token (head (n ++ rest)) ≡ true → ends_word rest ≡ true → Turned rest → Turned (n ++ rest)
turned_number [] rest valid all first ended ih = absurd (no_number valid)
turned_number (x ∷ m) rest valid all first ended ih =
    let n = x ∷ m in
    let is : quoted_text (n ++ rest) ≡ shown n ++ quoted_text rest = cut x m rest (token_tail x (m ++ rest) first ∙ run_len m rest all.1 (stopped rest ended)) in
    record {
      lexed = ap (lex between) is ∙ number_text (is_quoted n) n rest refl valid all ended ih ∙ sym (ap (map turned_lexeme) (lex-number n rest valid ended));
      ends = λ e. absurd (true≢false (sym (begins_continues x first) ∙ (single x e).stops));
      utf8 = λ u. subst IsUtf8 (sym is) (number_utf8 (is_quoted n) n (quoted_text rest) all (ih.utf8 (peel_run n rest all u)));
      counted = cut_counted x m rest (token_tail x (m ++ rest) first ∙ run_len m rest all.1 (stopped rest ended)) ∙ ap (λ k. cond (is_quoted n) 1 0 + k) ih.counted ∙ sym (ap quoted_lexemes (lex-number n rest valid ended));
    }

-- ---- literals

true_lexed : (r : List ℕ) → ends_word r ≡ true → lex between (116 ∷ 114 ∷ 117 ∷ 101 ∷ r) ≡ token (boolean true) ∷ lex between r
unfolding lex word
true_lexed r ended = ap₂ (λ b l. token (cond b (boolean true) bad) ∷ l) ended (in_word-ended r ended)

false_lexed : (r : List ℕ) → ends_word r ≡ true → lex between (102 ∷ 97 ∷ 108 ∷ 115 ∷ 101 ∷ r) ≡ token (boolean false) ∷ lex between r
unfolding lex word
false_lexed r ended = ap₂ (λ b l. token (cond b (boolean false) bad) ∷ l) ended (in_word-ended r ended)

null_lexed : (r : List ℕ) → ends_word r ≡ true → lex between (110 ∷ 117 ∷ 108 ∷ 108 ∷ r) ≡ token null ∷ lex between r
unfolding lex word
null_lexed r ended = ap₂ (λ b l. token (cond b null bad) ∷ l) ended (in_word-ended r ended)

letter : (b : ℕ) (s : List ℕ) → piece_tail b s ≡ 0 → shown (b ∷ []) ≡ b ∷ [] → quoted_text (b ∷ s) ≡ b ∷ quoted_text s
letter b s e f = cut b [] s e ∙ ap (λ v. v ++ quoted_text s) f

true_shown : (r : List ℕ) → quoted_text (116 ∷ 114 ∷ 117 ∷ 101 ∷ r) ≡ 116 ∷ 114 ∷ 117 ∷ 101 ∷ quoted_text r
unfolding number_of
true_shown r =
    letter 116 _ refl refl ∙ ap (λ v. 116 ∷ v) (letter 114 _ refl refl ∙ ap (λ v. 114 ∷ v) (letter 117 _ refl refl ∙ ap (λ v. 117 ∷ v) (letter 101 _ refl refl)))

false_shown : (r : List ℕ) → quoted_text (102 ∷ 97 ∷ 108 ∷ 115 ∷ 101 ∷ r) ≡ 102 ∷ 97 ∷ 108 ∷ 115 ∷ 101 ∷ quoted_text r
unfolding number_of
false_shown r =
    letter 102 _ refl refl ∙ ap (λ v. 102 ∷ v) (letter 97 _ refl refl ∙ ap (λ v. 97 ∷ v) (letter 108 _ refl refl ∙ ap (λ v. 108 ∷ v) (letter 115 _ refl refl ∙ ap (λ v. 115 ∷ v) (letter 101 _ refl refl))))

null_shown : (r : List ℕ) → quoted_text (110 ∷ 117 ∷ 108 ∷ 108 ∷ r) ≡ 110 ∷ 117 ∷ 108 ∷ 108 ∷ quoted_text r
unfolding number_of
null_shown r =
    letter 110 _ refl refl ∙ ap (λ v. 110 ∷ v) (letter 117 _ refl refl ∙ ap (λ v. 117 ∷ v) (letter 108 _ refl refl ∙ ap (λ v. 108 ∷ v) (letter 108 _ refl refl)))

letter_counted : (b : ℕ) (s : List ℕ) → piece_tail b s ≡ 0 → is_quoted (b ∷ []) ≡ false → quoted_count (b ∷ s) ≡ quoted_count s
letter_counted b s e f = kept_counted b [] s e f

true_counted : (r : List ℕ) → quoted_count (116 ∷ 114 ∷ 117 ∷ 101 ∷ r) ≡ quoted_count r
unfolding number_of
true_counted r = letter_counted 116 _ refl refl ∙ letter_counted 114 _ refl refl ∙ letter_counted 117 _ refl refl ∙ letter_counted 101 _ refl refl

false_counted : (r : List ℕ) → quoted_count (102 ∷ 97 ∷ 108 ∷ 115 ∷ 101 ∷ r) ≡ quoted_count r
unfolding number_of
false_counted r = letter_counted 102 _ refl refl ∙ letter_counted 97 _ refl refl ∙ letter_counted 108 _ refl refl ∙ letter_counted 115 _ refl refl ∙ letter_counted 101 _ refl refl

null_counted : (r : List ℕ) → quoted_count (110 ∷ 117 ∷ 108 ∷ 108 ∷ r) ≡ quoted_count r
unfolding number_of
null_counted r = letter_counted 110 _ refl refl ∙ letter_counted 117 _ refl refl ∙ letter_counted 108 _ refl refl ∙ letter_counted 108 _ refl refl

literal_counted : (s r : List ℕ) (t : Token) → quoted_count s ≡ quoted_count r → lex between s ≡ token t ∷ lex between r → quoted_one t ≡ 0 → quoted_count r ≡ quoted_lexemes (lex between r) → quoted_count s ≡ quoted_lexemes (lex between s)
literal_counted s r t one split none more =
    let two = ap quoted_lexemes split in omega (arith, one, two, none, more)

turned_true : (r : List ℕ) → ends_word r ≡ true → Turned r → Turned (116 ∷ 114 ∷ 117 ∷ 101 ∷ r)
turned_true r ended ih = record {
  lexed = ap (lex between) (true_shown r) ∙ true_lexed (quoted_text r) (ih.ends ended) ∙ ap (λ l. token (boolean true) ∷ l) ih.lexed ∙ sym (ap (map turned_lexeme) (true_lexed r ended));
  ends = λ e. absurd (false≢true e);
  utf8 = λ u. subst IsUtf8 (sym (true_shown r)) (join 116 _ (omega arith) (join 114 _ (omega arith) (join 117 _ (omega arith) (join 101 _ (omega arith) (ih.utf8 (peel 101 _ (omega arith) (peel 117 _ (omega arith) (peel 114 _ (omega arith) (peel 116 _ (omega arith) u)))))))));
  counted = literal_counted _ r (boolean true) (true_counted r) (true_lexed r ended) refl ih.counted;
}

turned_false : (r : List ℕ) → ends_word r ≡ true → Turned r → Turned (102 ∷ 97 ∷ 108 ∷ 115 ∷ 101 ∷ r)
turned_false r ended ih = record {
  lexed = ap (lex between) (false_shown r) ∙ false_lexed (quoted_text r) (ih.ends ended) ∙ ap (λ l. token (boolean false) ∷ l) ih.lexed ∙ sym (ap (map turned_lexeme) (false_lexed r ended));
  ends = λ e. absurd (false≢true e);
  utf8 = λ u. subst IsUtf8 (sym (false_shown r)) (join 102 _ (omega arith) (join 97 _ (omega arith) (join 108 _ (omega arith) (join 115 _ (omega arith) (join 101 _ (omega arith) (ih.utf8 (peel 101 _ (omega arith) (peel 115 _ (omega arith) (peel 108 _ (omega arith) (peel 97 _ (omega arith) (peel 102 _ (omega arith) u)))))))))));
  counted = literal_counted _ r (boolean false) (false_counted r) (false_lexed r ended) refl ih.counted;
}

turned_null : (r : List ℕ) → ends_word r ≡ true → Turned r → Turned (110 ∷ 117 ∷ 108 ∷ 108 ∷ r)
turned_null r ended ih = record {
  lexed = ap (lex between) (null_shown r) ∙ null_lexed (quoted_text r) (ih.ends ended) ∙ ap (λ l. token null ∷ l) ih.lexed ∙ sym (ap (map turned_lexeme) (null_lexed r ended));
  ends = λ e. absurd (false≢true e);
  utf8 = λ u. subst IsUtf8 (sym (null_shown r)) (join 110 _ (omega arith) (join 117 _ (omega arith) (join 108 _ (omega arith) (join 108 _ (omega arith) (ih.utf8 (peel 108 _ (omega arith) (peel 108 _ (omega arith) (peel 117 _ (omega arith) (peel 110 _ (omega arith) u)))))))));
  counted = literal_counted _ r (null) (null_counted r) (null_lexed r ended) refl ih.counted;
}

-- ---- the whole text

abbrev All : ℕ → Type 0
All k = (t : List ℕ) → length t ≤ k → well (lex between t) ≡ true → Turned t

good_rest : (t : Token) (ls : List Lexeme) → well (token t ∷ ls) ≡ true → well ls ≡ true
good_rest t ls h = (and_parts (is_good t) (well ls) h).1

string_case : (k : ℕ) → All k → (xs : List ℕ) → length xs ≤ k → (o : Option (List ℕ)) → content plain xs ≡ o → well (lex between (34 ∷ xs)) ≡ true → Turned (34 ∷ xs)
unfolding lex
string_case k ih xs le None e h = absurd (false≢true (ap (λ r. well (token (string_token r) ∷ lex in_string xs)) (sym e) ∙ h))
string_case k ih xs le (Some c) e h =
    let cl = closed xs c e in
    let split : lex between (34 ∷ xs) ≡ token (string c) ∷ lex between cl.rest = ap (λ v. lex between (34 ∷ v)) cl.is ∙ lex_string cl.body c cl.rest (cl.read cl.rest) (cl.lexed cl.rest) in
    turned_string xs c cl (ih cl.rest (omega (arith, ap length cl.is, length-append cl.body cl.rest)) (good_rest (string c) (lex between cl.rest) (ap well (sym split) ∙ h)))

word_case : (k : ℕ) → All k → (t : List ℕ) → length t ≤ suc k → IsWord t → well (lex between t) ≡ true → Turned t
word_case k ih t le (a_number w) h =
    let first : begins_token (head (w.number ++ w.rest)) ≡ true = ap (λ v. begins_token (head v)) (sym w.is) ∙ w.first in
    let split = ap (lex between) w.is ∙ lex-number w.number w.rest w.valid w.ended in
    let shorter : 0 < length w.number = some w.number w.valid in
    subst Turned (sym w.is) (turned_number w.number w.rest w.valid w.all first w.ended (ih w.rest (omega (arith, ap length w.is, length-append w.number w.rest)) (good_rest (number w.number) (lex between w.rest) (ap well (sym split) ∙ h))))
  where
    some : (n : List ℕ) → IsNumber n → 0 < length n
    some [] v = absurd (no_number v)
    some (x ∷ n) v = omega arith
word_case k ih t le (a_true w) h =
    let split = ap (lex between) w.is ∙ true_lexed w.rest w.ended in
    subst Turned (sym w.is) (turned_true w.rest w.ended (ih w.rest (omega (arith, ap length w.is)) (good_rest (boolean true) (lex between w.rest) (ap well (sym split) ∙ h))))
word_case k ih t le (a_false w) h =
    let split = ap (lex between) w.is ∙ false_lexed w.rest w.ended in
    subst Turned (sym w.is) (turned_false w.rest w.ended (ih w.rest (omega (arith, ap length w.is)) (good_rest (boolean false) (lex between w.rest) (ap well (sym split) ∙ h))))
word_case k ih t le (a_null w) h =
    let split = ap (lex between) w.is ∙ null_lexed w.rest w.ended in
    subst Turned (sym w.is) (turned_null w.rest w.ended (ih w.rest (omega (arith, ap length w.is)) (good_rest null (lex between w.rest) (ap well (sym split) ∙ h))))

first_case : (k : ℕ) → All k → (x : ℕ) (s : List ℕ) → length s ≤ k → (q b o w : Bool) → (x == 34) ≡ q → (x == 92) ≡ b → is_operator x ≡ o → is_space x ≡ w
    → well (lex_byte between (cond q quote (cond b backslash (cond o operator (cond w space other)))) x s (λ m. lex m s)) ≡ true → well (lex between (x ∷ s)) ≡ true → Turned (x ∷ s)
first_case k ih x s le true b o w eq eb eo ew g h =
    let is = eqb-true x 34 eq in
    subst (λ z. Turned (z ∷ s)) (sym is) (string_case k ih s le (content plain s) refl (ap (λ z. well (lex between (z ∷ s))) (sym is) ∙ h))
first_case k ih x s le false true o w eq eb eo ew g h = absurd (false≢true g)
first_case k ih x s le false false true w eq eb eo ew g h =
    let one = single x (or_left _ _ eo) in
    turned_single x s one (ih s le (one.rest (lex between s) (ap well (sym (one.lexes s)) ∙ h)))
first_case k ih x s le false false false true eq eb eo ew g h =
    let one = single_space x ew in
    turned_single x s one (ih s le (one.rest (lex between s) (ap well (sym (one.lexes s)) ∙ h)))
first_case k ih x s le false false false false eq eb eo ew g h =
    word_case k ih (x ∷ s) (omega arith) (good_word (x ∷ s) (and_parts (is_good (word (x ∷ s))) _ g).0) h

nothing : Turned []
unfolding pieces_behind lex
nothing = record { lexed = refl; ends = λ e. refl; utf8 = λ u. u; counted = refl }

all : (k : ℕ) → All k
unfolding lex
all k [] le h = nothing
all zero (x ∷ s) le h = absurd (omega arith)
all (suc k) (x ∷ s) le h = first_case k (all k) x s (omega arith) (x == 34) (x == 92) (is_operator x) (is_space x) refl refl refl refl h h

pub tokens-quoted : (text : List ℕ) → no_bad (tokens text) ≡ true → tokens (quoted_text text) ≡ map turned (tokens text)
tokens-quoted text h =
    let p = punctuate-turned (lex between text) fresh h in
    ap (punctuate fresh) (all (length text) text (omega arith) p.1).lexed ∙ p.0

pub utf8-quoted : (text : List ℕ) → no_bad (tokens text) ≡ true → IsUtf8 text → IsUtf8 (quoted_text text)
utf8-quoted text h = (all (length text) text (omega arith) (punctuate-turned (lex between text) fresh h).1).utf8

pub counted-quoted : (text : List ℕ) → no_bad (tokens text) ≡ true → quoted_count text ≡ quoted_in (tokens text)
counted-quoted text h = (all (length text) text (omega arith) (punctuate-turned (lex between text) fresh h).1).counted ∙ sym (punctuate-counted (lex between text) fresh h)
