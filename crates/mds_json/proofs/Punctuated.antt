-- Punctuation of lexemes whose numbers are quoted.
use Rattle.std.proofs.Common.{◌≡◌, ℕ, List, [], ◌∷◌, map, Bool, true, false, cond, ◌&&◌, refl, sym, ap, ◌∙◌}
use Rattle.std.proofs.lemmas.Bool.{true≢false, false≢true, and_parts}
use Rattle.json.specs.Token.{Token, begin_object, end_object, begin_array, end_array, key, string, number, boolean, null, bad}
use Rattle.json.specs.Lex.{Lexeme, token, comma, colon, Place, fresh, after_value, after_comma, after_key, begins_colon, may_begin, may_close, if_allowed, place_token, punctuate}
use Rattle.json.specs.Align.{is_good}
use Rattle.mds_text.specs.Quoting.{is_quoted}
use Rattle.mds_json.proofs.Turning.{turned, turned_lexeme, no_bad, well}

begins_colon-turned : (ls : List Lexeme) → begins_colon (map turned_lexeme ls) ≡ begins_colon ls
begins_colon-turned [] = refl
begins_colon-turned (token t ∷ ls) = refl
begins_colon-turned (comma ∷ ls) = refl
begins_colon-turned (colon ∷ ls) = refl

-- a string before a colon is a key, so a number that is turned into a string mustn't come before
-- one
no_colon_after : (ls : List Lexeme) → no_bad (punctuate after_value ls) ≡ true → begins_colon ls ≡ false
unfolding punctuate
no_colon_after [] h = refl
no_colon_after (token t ∷ ls) h = refl
no_colon_after (comma ∷ ls) h = refl
no_colon_after (colon ∷ ls) h = absurd (false≢true h)

record Both (k l : Place → List Token) (m : List Lexeme) : Type 0 where
  same : (p : Place) → no_bad (k p) ≡ true → l p ≡ map turned (k p)
  good : (p : Place) → no_bad (k p) ≡ true → well m ≡ true

allowed : (b : Bool) (t u : Token) (next : Place) (ls : List Lexeme) (k l : Place → List Token) → turned t ≡ u → is_good t ≡ true → Both k l ls → no_bad (if_allowed b t k next) ≡ true
    → (if_allowed b u l next ≡ map turned (if_allowed b t k next)) × (well ls ≡ true)
allowed true t u next ls k l e g both h = let rest = (and_parts (is_good t) _ h).1 in (ap (λ v. v ∷ l next) (sym e) ∙ ap (λ v. turned t ∷ v) (both.same next rest), both.good next rest)
allowed false t u next ls k l e g both h = absurd (false≢true h)

numbered : (q b c : Bool) (p : Place) (s : List ℕ) (ls : List Lexeme) (k l : Place → List Token) → is_quoted s ≡ q → may_begin p ≡ b → (no_bad (k after_value) ≡ true → c ≡ false) → Both k l ls → no_bad (if_allowed b (number s) k after_value) ≡ true
    → (place_token p (cond q (string s) (number s)) c l ≡ map turned (if_allowed b (number s) k after_value)) × (well ls ≡ true)
numbered q false c p s ls k l e i f both h = absurd (false≢true h)
numbered true true false p s ls k l e i f both h =
    (ap (λ b. if_allowed b (string s) l after_value) i ∙ ap (λ v. string s ∷ v) (both.same after_value h) ∙ ap (λ b. cond b (string s) (number s) ∷ map turned (k after_value)) (sym e), both.good after_value h)
numbered true true true p s ls k l e i f both h = absurd (true≢false (f h))
numbered false true c p s ls k l e i f both h =
    (ap (λ b. if_allowed b (number s) l after_value) i ∙ ap (λ v. number s ∷ v) (both.same after_value h) ∙ ap (λ b. cond b (string s) (number s) ∷ map turned (k after_value)) (sym e), both.good after_value h)

placed : (p : Place) (t : Token) (c : Bool) (ls : List Lexeme) (k l : Place → List Token) → (no_bad (k after_value) ≡ true → c ≡ false) → Both k l ls → no_bad (place_token p t c k) ≡ true
    → (place_token p (turned t) c l ≡ map turned (place_token p t c k)) × ((is_good t && well ls) ≡ true)
placed p begin_object c ls k l f both h = allowed (may_begin p) begin_object begin_object fresh ls k l refl refl both h
placed p end_object c ls k l f both h = allowed (may_close p) end_object end_object after_value ls k l refl refl both h
placed p begin_array c ls k l f both h = allowed (may_begin p) begin_array begin_array fresh ls k l refl refl both h
placed p end_array c ls k l f both h = allowed (may_close p) end_array end_array after_value ls k l refl refl both h
placed p (key s) c ls k l f both h = absurd (false≢true h)
placed p (string s) true ls k l f both h = allowed (may_begin p) (key s) (key s) after_key ls k l refl refl both h
placed p (string s) false ls k l f both h = allowed (may_begin p) (string s) (string s) after_value ls k l refl refl both h
placed p (number s) c ls k l f both h = numbered (is_quoted s) (may_begin p) c p s ls k l refl refl f both h
placed p (boolean b) c ls k l f both h = allowed (may_begin p) (boolean b) (boolean b) after_value ls k l refl refl both h
placed p null c ls k l f both h = allowed (may_begin p) null null after_value ls k l refl refl both h
placed p bad c ls k l f both h = absurd (false≢true h)

pub punctuate-turned : (ls : List Lexeme) (p : Place) → no_bad (punctuate p ls) ≡ true → (punctuate p (map turned_lexeme ls) ≡ map turned (punctuate p ls)) × (well ls ≡ true)
unfolding punctuate
punctuate-turned [] fresh h = (refl, refl)
punctuate-turned [] after_value h = (refl, refl)
punctuate-turned [] after_comma h = absurd (false≢true h)
punctuate-turned [] after_key h = absurd (false≢true h)
punctuate-turned (token t ∷ ls) p h =
    let l : Place → List Token = λ n. punctuate n (map turned_lexeme ls) in
    let k : Place → List Token = λ n. punctuate n ls in
    let both : Both k l ls = record { same = λ n g. (punctuate-turned ls n g).0; good = λ n g. (punctuate-turned ls n g).1 } in
    let all = placed p t (begins_colon ls) ls k l (no_colon_after ls) both h in
    (ap (λ c. place_token p (turned t) c l) (begins_colon-turned ls) ∙ all.0, all.1)
punctuate-turned (comma ∷ ls) fresh h = absurd (false≢true h)
punctuate-turned (comma ∷ ls) after_value h = punctuate-turned ls after_comma h
punctuate-turned (comma ∷ ls) after_comma h = absurd (false≢true h)
punctuate-turned (comma ∷ ls) after_key h = absurd (false≢true h)
punctuate-turned (colon ∷ ls) fresh h = absurd (false≢true h)
punctuate-turned (colon ∷ ls) after_value h = absurd (false≢true h)
punctuate-turned (colon ∷ ls) after_comma h = absurd (false≢true h)
punctuate-turned (colon ∷ ls) after_key h = punctuate-turned ls fresh h
