-- Counting the tokens that are numbers that aren't plain.
use Rattle.std.proofs.Common.{◌≡◌, ℕ, ◌+◌, List, [], ◌∷◌, ◌++◌, Bool, true, false, cond, length, Option, Some, None, refl, sym, ap, ◌∙◌, arith}
use Rattle.json.specs.Token.{Token, begin_object, end_object, begin_array, end_array, key, string, number, boolean, null, bad}
use Rattle.json.specs.Json.{after_end_array, read_key}
use Rattle.json.specs.Lex.{Lexeme, token, comma, colon, Place, fresh, after_value, after_comma, after_key, begins_colon, may_begin, may_close, if_allowed, place_token, punctuate}
use Rattle.json.specs.Align.{is_good}
use Rattle.std.proofs.lemmas.Bool.{false≢true, and_parts}
use Rattle.std.specs.List.{count_by}
use Rattle.std.proofs.lemmas.List.Sums.{sum_by-cons}
use Rattle.std.proofs.lemmas.List.{take_at, drop_at}
use Rattle.mds_text.specs.Quoting.{is_quoted, piece_tail, pieces, quoted_count}
use Rattle.mds_text.proofs.Pieces.{pieces-split}
use Rattle.mds_json.specs.Direct.{quoted_one, quoted_in}
use Rattle.mds_json.proofs.Turning.{no_bad}

-- the count, after one more token
pub one_taken : (old more : ℕ) (t : Token) (ts rest : List Token) → ts ≡ t ∷ rest → more ≡ old + quoted_one t → more + quoted_in rest ≡ old + quoted_in ts
one_taken old more t ts rest e f = let all = ap quoted_in e in omega (arith, all, f)

abbrev same : List Token → Option (List Token) → List Token
same ts None = ts
same ts (Some r) = r

pub end_taken : (ts r : List Token) → after_end_array ts ≡ Some r → quoted_in r ≡ quoted_in ts
end_taken [] r e = absurd (cc)
end_taken (begin_object ∷ ts) r e = absurd (cc)
end_taken (end_object ∷ ts) r e = absurd (cc)
end_taken (begin_array ∷ ts) r e = absurd (cc)
end_taken (end_array ∷ ts) r e = let all = ap (λ o. quoted_in (same [] o)) e in omega (arith, all)
end_taken (key s ∷ ts) r e = absurd (cc)
end_taken (string s ∷ ts) r e = absurd (cc)
end_taken (number s ∷ ts) r e = absurd (cc)
end_taken (boolean b ∷ ts) r e = absurd (cc)
end_taken (null ∷ ts) r e = absurd (cc)
end_taken (bad ∷ ts) r e = absurd (cc)

abbrev behind : List Token → Option (Option (List ℕ) × List Token) → List Token
behind ts None = ts
behind ts (Some p) = p.1

pub key_taken : (ts r : List Token) (k : Option (List ℕ)) → read_key ts ≡ Some (k, r) → quoted_in r ≡ quoted_in ts
key_taken [] r k e = absurd (cc)
key_taken (begin_object ∷ ts) r k e = absurd (cc)
key_taken (end_object ∷ ts) r k e = let all = ap (λ o. quoted_in (behind [] o)) e in omega (arith, all)
key_taken (begin_array ∷ ts) r k e = absurd (cc)
key_taken (end_array ∷ ts) r k e = absurd (cc)
key_taken (key s ∷ ts) r k e = let all = ap (λ o. quoted_in (behind [] o)) e in omega (arith, all)
key_taken (string s ∷ ts) r k e = absurd (cc)
key_taken (number s ∷ ts) r k e = absurd (cc)
key_taken (boolean b ∷ ts) r k e = absurd (cc)
key_taken (null ∷ ts) r k e = absurd (cc)
key_taken (bad ∷ ts) r k e = absurd (cc)

-- ---- lexemes

abbrev pub quoted_lexemes : List Lexeme → ℕ
quoted_lexemes [] = 0
quoted_lexemes (token t ∷ ls) = quoted_one t + quoted_lexemes ls
quoted_lexemes (comma ∷ ls) = quoted_lexemes ls
quoted_lexemes (colon ∷ ls) = quoted_lexemes ls

abbrev Counts : List Token → List Lexeme → Type 0
Counts ts ls = no_bad ts ≡ true → quoted_in ts ≡ quoted_lexemes ls

allowed : (b : Bool) (t : Token) (n : Place) (ls : List Lexeme) (k : Place → List Token) → Counts (k n) ls → no_bad (if_allowed b t k n) ≡ true → quoted_in (if_allowed b t k n) ≡ quoted_one t + quoted_lexemes ls
allowed true t n ls k counts h = ap (λ m. quoted_one t + m) (counts (and_parts (is_good t) _ h).1)
allowed false t n ls k counts h = absurd (false≢true h)

placed : (p : Place) (t : Token) (c : Bool) (ls : List Lexeme) (k : Place → List Token) → ((n : Place) → Counts (k n) ls) → no_bad (place_token p t c k) ≡ true → quoted_in (place_token p t c k) ≡ quoted_one t + quoted_lexemes ls
placed p begin_object c ls k f h = allowed (may_begin p) begin_object fresh ls k (f fresh) h
placed p end_object c ls k f h = allowed (may_close p) end_object after_value ls k (f after_value) h
placed p begin_array c ls k f h = allowed (may_begin p) begin_array fresh ls k (f fresh) h
placed p end_array c ls k f h = allowed (may_close p) end_array after_value ls k (f after_value) h
placed p (key s) c ls k f h = absurd (false≢true h)
placed p (string s) true ls k f h = allowed (may_begin p) (key s) after_key ls k (f after_key) h
placed p (string s) false ls k f h = allowed (may_begin p) (string s) after_value ls k (f after_value) h
placed p (number s) c ls k f h = allowed (may_begin p) (number s) after_value ls k (f after_value) h
placed p (boolean b) c ls k f h = allowed (may_begin p) (boolean b) after_value ls k (f after_value) h
placed p null c ls k f h = allowed (may_begin p) null after_value ls k (f after_value) h
placed p bad c ls k f h = absurd (false≢true h)

-- punctuation isn't counted
pub punctuate-counted : (ls : List Lexeme) (p : Place) → Counts (punctuate p ls) ls
unfolding punctuate
punctuate-counted [] fresh h = refl
punctuate-counted [] after_value h = refl
punctuate-counted [] after_comma h = absurd (false≢true h)
punctuate-counted [] after_key h = absurd (false≢true h)
punctuate-counted (token t ∷ ls) p h = placed p t (begins_colon ls) ls (λ n. punctuate n ls) (punctuate-counted ls) h
punctuate-counted (comma ∷ ls) fresh h = absurd (false≢true h)
punctuate-counted (comma ∷ ls) after_value h = punctuate-counted ls after_comma h
punctuate-counted (comma ∷ ls) after_comma h = absurd (false≢true h)
punctuate-counted (comma ∷ ls) after_key h = absurd (false≢true h)
punctuate-counted (colon ∷ ls) fresh h = absurd (false≢true h)
punctuate-counted (colon ∷ ls) after_value h = absurd (false≢true h)
punctuate-counted (colon ∷ ls) after_comma h = absurd (false≢true h)
punctuate-counted (colon ∷ ls) after_key h = punctuate-counted ls fresh h

-- ---- pieces

-- the first piece is counted, and the rest
pub cut_counted : (b : ℕ) (body left : List ℕ) → piece_tail b (body ++ left) ≡ length body → quoted_count (b ∷ (body ++ left)) ≡ cond (is_quoted (b ∷ body)) 1 0 + quoted_count left
cut_counted b body left e =
    let n : length (b ∷ body) ≡ 1 + length body = omega arith in
    ap (count_by is_quoted) (pieces-split (b ∷ (body ++ left)) b (length body) (body ++ left) (b ∷ body) left refl (sym e) (sym (take_at (b ∷ body) left (1 + length body) n)) (sym (drop_at (b ∷ body) left (1 + length body) n)))
    ∙ sum_by-cons (λ p. cond (is_quoted p) 1 0) (b ∷ body) (pieces left)

-- what isn't quoted isn't counted
pub kept_counted : (b : ℕ) (body left : List ℕ) → piece_tail b (body ++ left) ≡ length body → is_quoted (b ∷ body) ≡ false → quoted_count (b ∷ (body ++ left)) ≡ quoted_count left
kept_counted b body left e kept =
    let all = cut_counted b body left e ∙ ap (λ v. cond v 1 0 + quoted_count left) kept in omega (arith, all)
