-- A text and its last line.
use Rattle.std.proofs.Common.{◌≡◌, ℕ, suc, ◌+◌, ◌-◌, ◌<◌, ◌≤◌, List, [], ◌∷◌, ◌++◌, length, get_or, take, drop, Bool, true, false, not, ◌&&◌, zero, Option, Some, None, MatchOption, refl, sym, ap, ◌∙◌, subst, arith, add-one, drop-cons, length-append, length-drop}
use Rattle.std.proofs.Math.ListN.{drop_of_length-le}
use Rattle.std.proofs.Math.Seq.{get_or-append_seam, take-append_seam}
use Rattle.std.proofs.lemmas.Bool.{eqb-true}
use Rattle.std.proofs.lemmas.Bool.Decides.{nat_tests}
use Rattle.std.proofs.lemmas.Grind.{get_or_default_zero}
use Rattle.std.proofs.lemmas.List.{take-append-drop, take_all, get_or-drop}
use Rattle.std.proofs.lemmas.List.Sums.{list_all-from_AllPass}
use Rattle.std.proofs.lemmas.Str.{IsUtf8-from_ascii}
use Rattle.std.specs.List.{list_all}
use Rattle.std.specs.Str.{IsUtf8}
use Rattle.cli_timezone.specs.Footer.{IsLastLine, IsFooter, is_line_feed, is_rule_byte, is_plain}

-- a text that ends with a line feed
ended : (file : List ℕ) → 1 ≤ length file → get_or file (length file - 1) 0 ≡ 10 → file ≡ take (length file - 1) file ++ 10 ∷ []
ended file some last =
    sym (take-append-drop (length file - 1) file)
    ∙ ap (λ t. take (length file - 1) file ++ t)
    (drop-cons file (length file - 1) 0 (omega arith)
    ∙ ap (λ b. b ∷ drop (suc (length file - 1)) file) last
    ∙ ap (λ t. 10 ∷ t) (drop_of_length-le file {i = suc (length file - 1)} (omega arith)))

-- there is no line feed in a text from a position on
one_line : (text : List ℕ) (n : ℕ) → ((k : ℕ) → n ≤ k → k < length text → is_line_feed (get_or text k 0) ≡ true → ⊥) → list_all (λ b. not (is_line_feed b)) (drop n text) ≡ true
one_line text n after = list_all-from_AllPass (λ b. not (is_line_feed b)) (drop n text) (λ k d within. no_line_feed k d within)
  where
    no_line_feed : (k d : ℕ) → k < length (drop n text) → not (is_line_feed (get_or (drop n text) k d)) ≡ true
    no_line_feed k d within =
        let long : k + n < length text = omega (arith, length-drop n text) in
        let here : get_or (drop n text) k d ≡ get_or text (n + k) 0 = get_or-drop n text k d ∙ get_or_default_zero text (n + k) d (omega arith) in
        grind (arith, nat_tests, here, after (n + k) (omega arith) (omega arith))

-- the text after the last line feed
pub behind : (text : List ℕ) (place : ℕ) → place < length text → is_line_feed (get_or text place 0) ≡ true
    → ((k : ℕ) → place + 1 ≤ k → k < length text → is_line_feed (get_or text k 0) ≡ true → ⊥) → IsLastLine text (take (length text - (place + 1)) (drop (place + 1) text))
behind text place within here after =
    subst (IsLastLine text) (sym (take_all (length text - (place + 1)) (drop (place + 1) text) (omega (arith, length-drop (place + 1) text))))
    (record {
      front = take place text;
      whole = sym (take-append-drop place text) ∙ ap (λ t. take place text ++ t) (drop-cons text place 0 within ∙ ap (λ b. b ∷ drop (suc place) text) (eqb-true (get_or text place 0) 10 here) ∙ ap (λ n. 10 ∷ drop n text) (sym (add-one place)));
      one_line = one_line text (place + 1) after;
    })

-- a text without a line feed has no last line after one
pub no_line : (text line : List ℕ) → ((k : ℕ) → k < length text → is_line_feed (get_or text k 0) ≡ true → ⊥) → IsLastLine text line → ⊥
no_line text line none is =
    none (length is.front) (subst (λ t. length is.front < length t) (sym is.whole) (omega (arith, length-append is.front (10 ∷ line))))
    (ap (λ t. is_line_feed (get_or t (length is.front) 0)) is.whole ∙ ap is_line_feed (get_or-append_seam is.front 10 line 0))

-- a file's footer is the last line of the text before the line feed at its end
text_of : (file text : List ℕ) → file ≡ text ++ 10 ∷ [] → text ≡ take (length file - 1) file
text_of file text e =
    sym (subst (λ (f : List ℕ). take (length f - 1) f ≡ text) (sym e) (subst (λ n. take n (text ++ 10 ∷ []) ≡ text) (omega (arith, length-append text (10 ∷ []))) (take-append_seam text (10 ∷ []))))

pub footer_of : {T : Type 0} (see : T → List ℕ) (file : List ℕ) (found : Option T) → 1 ≤ length file → get_or file (length file - 1) 0 ≡ 10
    → MatchOption found ((line : List ℕ) → IsLastLine (take (length file - 1) file) line → ⊥) (λ t. IsLastLine (take (length file - 1) file) (see t))
    → MatchOption found ((line : List ℕ) → IsFooter file line → ⊥) (λ t. IsFooter file (see t))
footer_of see file None some last none = λ line is. none line (subst (λ t. IsLastLine t line) (text_of file is.text is.whole) is.last)
footer_of see file (Some t) some last is = record { text = take (length file - 1) file; whole = ended file some last; last = is }

-- a plain rule is UTF-8
low : (b : ℕ) → is_rule_byte b ≡ true → b < 128
low b plain = grind (arith, nat_tests)

both : (a b : Bool) → (a && b) ≡ true → (a ≡ true) × (b ≡ true)
both true true e = (refl, refl)
both true false e = (refl, e)
both false b e = (e, cc)

ascii : (rule : List ℕ) → is_plain rule ≡ true → (i : ℕ) → get_or rule i 0 < 128
ascii [] plain i = omega arith
ascii (b ∷ bs) plain zero = low b (both (is_rule_byte b) (is_plain bs) plain).0
ascii (b ∷ bs) plain (suc i) = ascii bs (both (is_rule_byte b) (is_plain bs) plain).1 i

plain_utf8 : (rule : List ℕ) → is_plain rule ≡ true → IsUtf8 rule
plain_utf8 rule plain = IsUtf8-from_ascii rule (ascii rule plain)

-- so a text that isn't UTF-8 is no plain rule
pub not_plain : (rule : List ℕ) → (IsUtf8 rule → ⊥) → is_plain rule ≡ false
not_plain rule other = by_test (is_plain rule) refl
  where
    by_test : (b : Bool) → is_plain rule ≡ b → b ≡ false
    by_test true e = absurd (other (plain_utf8 rule e))
    by_test false e = refl
