-- How far a number of a text reaches.
use Rattle.std.proofs.Common.{◌≡◌, ℕ, suc, ◌+◌, List, [], ◌∷◌, ◌++◌, Bool, true, false, cond, ◌||◌, ◌==◌, length, take, drop, Option, Some, None, option_and_then, refl, sym, ap, ◌∙◌, arith, inl, inr, ◌⊎◌, append_assoc}
use Rattle.std.specs.Prelude.{⊤}
use Rattle.std.proofs.lemmas.Bool.{false≢true, eqb-true, and_parts, or_cases, or_left}
use Rattle.std.proofs.lemmas.List.{take-append-drop}
use Rattle.std.proofs.lemmas.Slice.Eq.{bytes_eq-Decides}
use Rattle.std.specs.List.{prefix_len}
use Rattle.std.specs.Char.{is_ascii_digit}
use Rattle.json.specs.Token.{Token, boolean, null, bad}
use Rattle.json.specs.Word.{head, ends_word, after_digits, after_minus, after_sign, after_whole, after_fraction, after_exponent, after_number, number_before, literal, word}
use Rattle.json.specs.Align.{is_good}
use Rattle.json.specs.Print.{IsNumber}
use Rattle.json.proofs.Printed.Numbers.{number_alone}
use Rattle.mds_text.specs.Quoting.{begins_token, continues_token}

-- each byte continues a token
abbrev pub Continue : List ℕ → Type 0
Continue [] = ⊤
Continue (x ∷ xs) = (continues_token x ≡ true) × Continue xs

Continue-append : (xs ys : List ℕ) → Continue xs → Continue ys → Continue (xs ++ ys)
Continue-append [] ys h k = k
Continue-append (x ∷ xs) ys h k = (h.0, Continue-append xs ys h.1 k)

record Passed (t rest : List ℕ) : Type 0 where
  front : List ℕ
  is : t ≡ front ++ rest
  all : Continue front

abbrev Through : List ℕ → Option (List ℕ) → Type 0
Through t None = ⊤
Through t (Some r) = Passed t r

none : (t : List ℕ) → Passed t t
none t = record { front = []; is = refl; all = tt }

both : (t u r : List ℕ) → Passed t u → Passed u r → Passed t r
both t u r a b = record { front = a.front ++ b.front; is = a.is ∙ ap (λ v. a.front ++ v) b.is ∙ sym (append_assoc a.front b.front r); all = Continue-append a.front b.front a.all b.all }

further : (t u : List ℕ) (o : Option (List ℕ)) → Passed t u → Through u o → Through t o
further t u None a b = tt
further t u (Some r) a b = both t u r a b

either : (t : List ℕ) (b : Bool) (x y : Option (List ℕ)) → (b ≡ true → Through t x) → Through t y → Through t (cond b x y)
either t true x y f g = f refl
either t false x y f g = g

one : (c : ℕ) (t : List ℕ) → continues_token c ≡ true → (32 == c) ≡ false → (head t == c) ≡ true → Passed t (drop 1 t)
one c [] k e h = absurd (false≢true (sym e ∙ h))
one c (x ∷ xs) k e h = record { front = x ∷ []; is = refl; all = (ap continues_token (eqb-true x c h) ∙ k, tt) }

one_of : (c d : ℕ) (t : List ℕ) → continues_token c ≡ true → (32 == c) ≡ false → continues_token d ≡ true → (32 == d) ≡ false → ((head t == c) || (head t == d)) ≡ true → Passed t (drop 1 t)
one_of c d t k e l f h = go (or_cases _ _ h)
  where
    go : ((head t == c) ≡ true) ⊎ ((head t == d) ≡ true) → Passed t (drop 1 t)
    go (inl i) = one c t k e i
    go (inr i) = one d t l f i

optional : (t : List ℕ) (b : Bool) → (b ≡ true → Passed t (drop 1 t)) → Passed t (cond b (drop 1 t) t)
optional t true f = f refl
optional t false f = none t

digit_continues : (x : ℕ) → is_ascii_digit x ≡ true → continues_token x ≡ true
digit_continues x h = or_left _ _ (or_left _ _ (or_left _ _ (or_left _ _ (or_left _ _ h))))

run_at : (b : Bool) (x : ℕ) (xs : List ℕ) (n : ℕ) → (b ≡ true → continues_token x ≡ true) → Passed xs (drop n xs) → Passed (x ∷ xs) (drop (cond b (1 + n) 0) (x ∷ xs))
run_at false x xs n f h = none (x ∷ xs)
run_at true x xs n f h =
    let e : suc n ≡ 1 + n = omega arith in
    record { front = x ∷ h.front; is = ap (λ v. x ∷ v) h.is ∙ ap (λ k. x ∷ (h.front ++ drop k (x ∷ xs))) e; all = (f refl, h.all) }

run : (t : List ℕ) → Passed t (drop (prefix_len is_ascii_digit t) t)
run [] = none []
run (x ∷ xs) = run_at (is_ascii_digit x) x xs (prefix_len is_ascii_digit xs) (digit_continues x) (run xs)

digits : (t : List ℕ) → Through t (after_digits t)
digits t = either t (prefix_len is_ascii_digit t == 0) None _ (λ e. tt) (run t)

then : (t : List ℕ) (f : List ℕ → Option (List ℕ)) → ((u : List ℕ) → Through u (f u)) → (o : Option (List ℕ)) → Through t o → Through t (option_and_then f o)
then t f g None h = tt
then t f g (Some r) h = further t r (f r) h (g r)

whole : (t : List ℕ) → Through t (after_whole t)
whole t = either t (head t == 48) (Some (drop 1 t)) _ (λ e. one 48 t refl refl e) (digits t)

fraction : (t : List ℕ) → Through t (after_fraction t)
fraction t = either t (head t == 46) _ (Some t) (λ e. further t (drop 1 t) _ (one 46 t refl refl e) (digits (drop 1 t))) (none t)

signed : (t : List ℕ) → Through t (after_digits (after_sign t))
signed t = further t (after_sign t) _ (optional t _ (λ e. one_of 45 43 t refl refl refl refl e)) (digits (after_sign t))

exponent : (t : List ℕ) → Through t (after_exponent t)
exponent t = either t ((head t == 101) || (head t == 69)) _ (Some t) (λ e. further t (drop 1 t) _ (one_of 101 69 t refl refl refl refl e) (signed (drop 1 t))) (none t)

number_passes : (t : List ℕ) → Through t (after_number t)
unfolding after_number
number_passes t = then t after_exponent exponent _ (then t after_fraction fraction _ (further t (after_minus t) _ (optional t _ (λ e. one 45 t refl refl e)) (whole (after_minus t))))

-- ---- a number begins with a minus or a digit

abbrev Found : Option (List ℕ) → Type 0
Found None = ⊥
Found (Some r) = ⊤

found : (f : List ℕ → Option (List ℕ)) (o : Option (List ℕ)) → Found (option_and_then f o) → Found o
found f None h = h
found f (Some t) h = tt

first_digit : (b : Bool) (n : ℕ) (t : List ℕ) → Found (cond (cond b (1 + n) 0 == 0) None (Some (drop (cond b (1 + n) 0) t))) → b ≡ true
first_digit true n t h = refl
first_digit false n t h = absurd h

digits_first : (t : List ℕ) → Found (after_digits t) → is_ascii_digit (head t) ≡ true
digits_first [] h = absurd h
digits_first (x ∷ xs) h = first_digit (is_ascii_digit x) (prefix_len is_ascii_digit xs) (x ∷ xs) h

whole_first : (t : List ℕ) (z : Bool) → (z ≡ true → head t ≡ 48) → Found (cond z (Some (drop 1 t)) (after_digits t)) → is_ascii_digit (head t) ≡ true
whole_first t true e h = ap is_ascii_digit (e refl)
whole_first t false e h = digits_first t h

minus_first : (t : List ℕ) (m : Bool) → Found (after_whole (cond m (drop 1 t) t)) → (m || is_ascii_digit (head t)) ≡ true
minus_first t true h = refl
minus_first t false h = whole_first t (head t == 48) (eqb-true (head t) 48) h

first_byte : (t : List ℕ) → Found (after_number t) → begins_token (head t) ≡ true
unfolding after_number
first_byte t h = minus_first t (head t == 45) (found after_fraction _ (found after_exponent _ h))

-- ---- words that are numbers

pub record IsNumberWord (t : List ℕ) : Type 0 where
  pub number : List ℕ
  pub rest : List ℕ
  pub is : t ≡ number ++ rest
  pub valid : IsNumber number
  pub all : Continue number
  pub first : begins_token (head t) ≡ true
  pub ended : ends_word rest ≡ true

pub record IsLiteralWord (name : List ℕ) (t : List ℕ) : Type 0 where
  pub rest : List ℕ
  pub is : t ≡ name ++ rest
  pub ended : ends_word rest ≡ true

pub data IsWord (t : List ℕ) : Type 0 where
  a_number : IsNumberWord t → IsWord t
  a_true : IsLiteralWord (116 ∷ 114 ∷ 117 ∷ 101 ∷ []) t → IsWord t
  a_false : IsLiteralWord (102 ∷ 97 ∷ 108 ∷ 115 ∷ 101 ∷ []) t → IsWord t
  a_null : IsLiteralWord (110 ∷ 117 ∷ 108 ∷ 108 ∷ []) t → IsWord t

passed : (b : Bool) (k : Token) → is_good (cond b k bad) ≡ true → b ≡ true
passed true k h = refl
passed false k h = absurd (false≢true h)

choose : (b : Bool) (x y : Token) (P : Type 0) → (is_good x ≡ true → P) → (is_good y ≡ true → P) → is_good (cond b x y) ≡ true → P
choose true x y P f g = f
choose false x y P f g = g

literal_word : (name : List ℕ) (k : Token) (t : List ℕ) → is_good (literal name k t) ≡ true → IsLiteralWord name t
literal_word name k t h =
    let two = and_parts _ _ (passed _ k h) in
    let front : name ≡ take (length name) t = (bytes_eq-Decides name (take (length name) t)).0 two.0 in
    record { rest = drop (length name) t; is = sym (take-append-drop (length name) t) ∙ ap (λ l. l ++ drop (length name) t) (sym front); ended = two.1 }

number_word : (t : List ℕ) (o : Option (List ℕ)) → after_number t ≡ o → Through t o → (Found o → begins_token (head t) ≡ true) → is_good (number_before t o) ≡ true → IsNumberWord t
number_word t None e p first h = absurd (false≢true h)
number_word t (Some r) e p first h =
    let ended = passed (ends_word r) _ h in
    record { number = p.front; rest = r; is = p.is; valid = number_alone p.front r ended (ap after_number (sym p.is) ∙ e); all = p.all; first = first tt; ended = ended }

pub good_word : (t : List ℕ) → is_good (word t) ≡ true → IsWord t
unfolding word
good_word t =
    choose (head t == 116) _ _ _ (λ h. a_true (literal_word _ (boolean true) t h))
    (choose (head t == 102) _ _ _ (λ h. a_false (literal_word _ (boolean false) t h))
    (choose (head t == 110) _ _ _ (λ h. a_null (literal_word _ null t h)) (λ h. a_number (number_word t (after_number t) refl (number_passes t) (first_byte t) h))))
