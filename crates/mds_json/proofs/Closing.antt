-- A string that is closed: how far its content and its pieces reach.
use Rattle.std.proofs.Common.{◌≡◌, ℕ, zero, suc, ◌+◌, ◌≤◌, List, [], ◌∷◌, ◌++◌, Bool, true, false, cond, ◌&&◌, ◌==◌, nat_lt, length, Option, Some, None, option_and_then, refl, sym, ap, ◌∙◌, arith, length-append, append_assoc}
use Rattle.std.proofs.lemmas.Bool.{false≢true, eqb-true, and_parts}
use Rattle.std.specs.Char.{is_digit, encode_utf8}
use Rattle.json.specs.Text.{code_unit, short_escape, is_high_surrogate, is_low_surrogate, surrogate_pair, plain, after_backslash, after_u, after_high, prepend, content}
use Rattle.json.specs.Word.{is_operator, is_space}
use Rattle.json.specs.Lex.{Lexeme, operator, space, other, Mode, between, in_string, lex_byte, lex}
use Rattle.mds_text.specs.Quoting.{string_len}

-- ---- one byte of a string

stays : (o s : Bool) (x : ℕ) (r : List ℕ) (k : Mode → List Lexeme) → lex_byte in_string (cond o operator (cond s space other)) x r k ≡ k in_string
stays true s x r k = refl
stays false true x r k = refl
stays false false x r k = refl

lex_plain : (x : ℕ) (r : List ℕ) → (x == 34) ≡ false → (x == 92) ≡ false → lex in_string (x ∷ r) ≡ lex in_string r
unfolding lex
lex_plain x r q b = rw (q, b) (stays (is_operator x) (is_space x) x r (λ m. lex m r))

lex_pair : (x y : ℕ) (r : List ℕ) → (x == 92) ≡ true → lex in_string (x ∷ y ∷ r) ≡ lex in_string r
unfolding lex
lex_pair x y r b = ap (λ z. lex in_string (z ∷ y ∷ r)) (eqb-true x 92 b)

lex_close : (x : ℕ) (r : List ℕ) → (x == 34) ≡ true → lex in_string (x ∷ r) ≡ lex between r
unfolding lex
lex_close x r q = ap (λ z. lex in_string (z ∷ r)) (eqb-true x 34 q)

len_plain : (x : ℕ) (r : List ℕ) → (x == 34) ≡ false → (x == 92) ≡ false → string_len (x ∷ r) ≡ 1 + string_len r
len_plain x [] q b = refl
len_plain x (y ∷ r) q b = rw (q, b) refl

len_pair : (x y : ℕ) (r : List ℕ) → (x == 92) ≡ true → string_len (x ∷ y ∷ r) ≡ 2 + string_len r
len_pair x y r b = ap (λ z. string_len (z ∷ y ∷ r)) (eqb-true x 92 b)

len_close : (x : ℕ) (r : List ℕ) → (x == 34) ≡ true → string_len (x ∷ r) ≡ 1
len_close x [] q = refl
len_close x (y ∷ r) q = rw q refl

-- ---- a string that is closed

pub record Closed (xs c : List ℕ) : Type 0 where
  pub body : List ℕ
  pub rest : List ℕ
  pub before : List ℕ
  pub last : body ≡ before ++ 34 ∷ []
  pub is : xs ≡ body ++ rest
  pub len : string_len xs ≡ length body
  pub read : (q : List ℕ) → content plain (body ++ q) ≡ Some c
  pub lexed : (q : List ℕ) → lex in_string (body ++ q) ≡ lex between q

-- a prefix of a string, which stands for some bytes
pub record Front (front made : List ℕ) : Type 0 where
  pub len : (r : List ℕ) → string_len (front ++ r) ≡ length front + string_len r
  pub read : (r : List ℕ) → content plain (front ++ r) ≡ prepend made (content plain r)
  pub lexed : (r : List ℕ) → lex in_string (front ++ r) ≡ lex in_string r

prepended : (made : List ℕ) (o : Option (List ℕ)) (c : List ℕ) → prepend made o ≡ Some c → (d : List ℕ) × (o ≡ Some d)
prepended made None c e = absurd (cc)
prepended made (Some d) c e = (d, refl)

longer : (front made r c d : List ℕ) → Front front made → prepend made (Some d) ≡ Some c → Closed r d → Closed (front ++ r) c
longer front made r c d f e h = record {
  body = front ++ h.body;
  rest = h.rest;
  before = front ++ h.before;
  last = ap (λ v. front ++ v) h.last ∙ sym (append_assoc front h.before (34 ∷ []));
  is = ap (λ v. front ++ v) h.is ∙ sym (append_assoc front h.body h.rest);
  len = omega (arith, f.len r, h.len, length-append front h.body);
  read = λ q. ap (content plain) (append_assoc front h.body q) ∙ f.read (h.body ++ q) ∙ ap (prepend made) (h.read q) ∙ e;
  lexed = λ q. ap (lex in_string) (append_assoc front h.body q) ∙ f.lexed (h.body ++ q) ∙ h.lexed q;
}

abbrev Closes : ℕ → Type 0
Closes n = (xs c : List ℕ) → length xs ≤ n → content plain xs ≡ Some c → Closed xs c

-- after such a prefix the rest is closed
go_on : (n : ℕ) → Closes n → (front made r c : List ℕ) → Front front made → length r ≤ n → prepend made (content plain r) ≡ Some c → Closed (front ++ r) c
go_on n ih front made r c f le e =
    let d = prepended made (content plain r) c e in
    longer front made r c d.0 f (ap (prepend made) (sym d.1) ∙ e) (ih r d.0 le d.1)

-- ---- the prefixes

pub byte_front : (x : ℕ) → (x == 34) ≡ false → (x == 92) ≡ false → nat_lt x 32 ≡ false → Front (x ∷ []) (x ∷ [])
unfolding content
byte_front x q b l = record { len = λ r. len_plain x r q b; read = λ r. rw (q, b, l) refl; lexed = λ r. lex_plain x r q b }

short_front : (x y d : ℕ) → (x == 34) ≡ false → (x == 92) ≡ true → (y == 117) ≡ false → short_escape y ≡ Some d → Front (x ∷ y ∷ []) (d ∷ [])
unfolding content
short_front x y d q b u e = record { len = λ r. len_pair x y r b; read = λ r. rw (q, b, u, e) refl; lexed = λ r. lex_pair x y r b }

not_this : (c x : ℕ) (t : Bool) → (t ≡ true → x ≡ c) → is_digit c 16 ≡ false → is_digit x 16 ≡ true → t ≡ false
not_this c x false e never h = refl
not_this c x true e never h = absurd (false≢true (sym never ∙ ap (λ y. is_digit y 16) (sym (e refl)) ∙ h))

record Hex (a : ℕ) : Type 0 where
  no_quote : (a == 34) ≡ false
  no_slash : (a == 92) ≡ false

hex : (a : ℕ) → is_digit a 16 ≡ true → Hex a
hex a h = record { no_quote = not_this 34 a (a == 34) (eqb-true a 34) refl h; no_slash = not_this 92 a (a == 92) (eqb-true a 92) refl h }

all_hex : (b : Bool) (u v : ℕ) → cond b (Some u) None ≡ Some v → b ≡ true
all_hex true u v h = refl
all_hex false u v h = absurd (cc)

record Unit4 (a b c d : ℕ) : Type 0 where
  len : (r : List ℕ) → string_len (a ∷ b ∷ c ∷ d ∷ r) ≡ 4 + string_len r
  lexed : (r : List ℕ) → lex in_string (a ∷ b ∷ c ∷ d ∷ r) ≡ lex in_string r

unit4 : (a b c d u : ℕ) → code_unit a b c d ≡ Some u → Unit4 a b c d
unfolding code_unit
unit4 a b c d u e =
    let p = and_parts (is_digit a 16 && is_digit b 16 && is_digit c 16) (is_digit d 16) (all_hex _ _ u e) in
    let q = and_parts (is_digit a 16 && is_digit b 16) (is_digit c 16) p.0 in
    let r = and_parts (is_digit a 16) (is_digit b 16) q.0 in
    let ha = hex a r.0 in
    let hb = hex b r.1 in
    let hc = hex c q.1 in
    let hd = hex d p.1 in
    record {
      len = λ r. omega (arith, len_plain a (b ∷ c ∷ d ∷ r) ha.no_quote ha.no_slash, len_plain b (c ∷ d ∷ r) hb.no_quote hb.no_slash, len_plain c (d ∷ r) hc.no_quote hc.no_slash, len_plain d r hd.no_quote hd.no_slash);
      lexed = λ r. lex_plain a (b ∷ c ∷ d ∷ r) ha.no_quote ha.no_slash ∙ lex_plain b (c ∷ d ∷ r) hb.no_quote hb.no_slash ∙ lex_plain c (d ∷ r) hc.no_quote hc.no_slash ∙ lex_plain d r hd.no_quote hd.no_slash;
    }

unit_front : (x y a b c d u : ℕ) → (x == 34) ≡ false → (x == 92) ≡ true → (y == 117) ≡ true → code_unit a b c d ≡ Some u → is_high_surrogate u ≡ false → is_low_surrogate u ≡ false
    → Front (x ∷ y ∷ a ∷ b ∷ c ∷ d ∷ []) (encode_utf8 u)
unfolding content
unit_front x y a b c d u q s t e h l =
    let four = unit4 a b c d u e in
    record {
      len = λ r. omega (arith, len_pair x y (a ∷ b ∷ c ∷ d ∷ r) s, four.len r);
      read = λ r. rw (q, s, t, e, h, l) refl;
      lexed = λ r. lex_pair x y (a ∷ b ∷ c ∷ d ∷ r) s ∙ four.lexed r;
    }

pair_front : (x y a b c d u v w e f g k m : ℕ) → (x == 34) ≡ false → (x == 92) ≡ true → (y == 117) ≡ true → code_unit a b c d ≡ Some u → is_high_surrogate u ≡ true
    → ((v == 92) && (w == 117)) ≡ true → code_unit e f g k ≡ Some m → is_low_surrogate m ≡ true
    → Front (x ∷ y ∷ a ∷ b ∷ c ∷ d ∷ v ∷ w ∷ e ∷ f ∷ g ∷ k ∷ []) (encode_utf8 (surrogate_pair u m))
unfolding content
pair_front x y a b c d u v w e f g k m q s t i h z j l =
    let four = unit4 a b c d u i in
    let last = unit4 e f g k m j in
    let slash = (and_parts _ _ z).0 in
    record {
      len = λ r. omega (arith, len_pair x y (a ∷ b ∷ c ∷ d ∷ v ∷ w ∷ e ∷ f ∷ g ∷ k ∷ r) s, four.len (v ∷ w ∷ e ∷ f ∷ g ∷ k ∷ r), len_pair v w (e ∷ f ∷ g ∷ k ∷ r) slash, last.len r);
      read = λ r. rw (q, s, t, i, h, z, j, l) refl;
      lexed = λ r. lex_pair x y (a ∷ b ∷ c ∷ d ∷ v ∷ w ∷ e ∷ f ∷ g ∷ k ∷ r) s ∙ four.lexed (v ∷ w ∷ e ∷ f ∷ g ∷ k ∷ r) ∙ lex_pair v w (e ∷ f ∷ g ∷ k ∷ r) slash ∙ last.lexed r;
    }

-- ---- cases

never : {P : Type 0} (c : List ℕ) → None ≡ Some c → P
never c e = absurd (cc)

module _ (n : ℕ) (ih : Closes n) (x y : ℕ) (q : (x == 34) ≡ false) (s : (x == 92) ≡ true) where
  low_part : (a b c d u v w e f g k : ℕ) (r out : List ℕ) → (y == 117) ≡ true → code_unit a b c d ≡ Some u → is_high_surrogate u ≡ true → ((v == 92) && (w == 117)) ≡ true → (o : Option ℕ) → code_unit e f g k ≡ o → length r ≤ n
      → option_and_then (λ l. cond (is_low_surrogate l) (prepend (encode_utf8 (surrogate_pair u l)) (content plain r)) None) o ≡ Some out
      → Closed (x ∷ y ∷ a ∷ b ∷ c ∷ d ∷ v ∷ w ∷ e ∷ f ∷ g ∷ k ∷ r) out
  low_part a b c d u v w e f g k r out t i h z None j le fact = never out fact
  low_part a b c d u v w e f g k r out t i h z (Some m) j le fact = go (is_low_surrogate m) refl fact
    where
      go : (l : Bool) → is_low_surrogate m ≡ l → cond l (prepend (encode_utf8 (surrogate_pair u m)) (content plain r)) None ≡ Some out → Closed (x ∷ y ∷ a ∷ b ∷ c ∷ d ∷ v ∷ w ∷ e ∷ f ∷ g ∷ k ∷ r) out
      go false l p = never out p
      go true l p = go_on n ih _ _ r out (pair_front x y a b c d u v w e f g k m q s t i h z j l) le p

  high_part : (a b c d u : ℕ) (r out : List ℕ) → (y == 117) ≡ true → code_unit a b c d ≡ Some u → is_high_surrogate u ≡ true → length r ≤ n → content (after_high u) r ≡ Some out → Closed (x ∷ y ∷ a ∷ b ∷ c ∷ d ∷ r) out
  unfolding content
  high_part a b c d u [] out t i h le p = never out p
  high_part a b c d u (v ∷ []) out t i h le p = never out p
  high_part a b c d u (v ∷ w ∷ []) out t i h le p = never out p
  high_part a b c d u (v ∷ w ∷ e ∷ []) out t i h le p = never out p
  high_part a b c d u (v ∷ w ∷ e ∷ f ∷ []) out t i h le p = never out p
  high_part a b c d u (v ∷ w ∷ e ∷ f ∷ g ∷ []) out t i h le p = never out p
  high_part a b c d u (v ∷ w ∷ e ∷ f ∷ g ∷ k ∷ r) out t i h le p = go ((v == 92) && (w == 117)) refl p
    where
      go : (z : Bool) → ((v == 92) && (w == 117)) ≡ z → cond z (option_and_then (λ l. cond (is_low_surrogate l) (prepend (encode_utf8 (surrogate_pair u l)) (content plain r)) None) (code_unit e f g k)) None ≡ Some out
          → Closed (x ∷ y ∷ a ∷ b ∷ c ∷ d ∷ v ∷ w ∷ e ∷ f ∷ g ∷ k ∷ r) out
      go false z p = never out p
      go true z p = low_part a b c d u v w e f g k r out t i h z (code_unit e f g k) refl (omega arith) p

  unit_part : (a b c d : ℕ) (r out : List ℕ) → (y == 117) ≡ true → (o : Option ℕ) → code_unit a b c d ≡ o → length r ≤ n
      → option_and_then (λ u. cond (is_high_surrogate u) (content (after_high u) r) (cond (is_low_surrogate u) None (prepend (encode_utf8 u) (content plain r)))) o ≡ Some out → Closed (x ∷ y ∷ a ∷ b ∷ c ∷ d ∷ r) out
  unit_part a b c d r out t None i le p = never out p
  unit_part a b c d r out t (Some u) i le p = go (is_high_surrogate u) (is_low_surrogate u) refl refl p
    where
      go : (h l : Bool) → is_high_surrogate u ≡ h → is_low_surrogate u ≡ l → cond h (content (after_high u) r) (cond l None (prepend (encode_utf8 u) (content plain r))) ≡ Some out → Closed (x ∷ y ∷ a ∷ b ∷ c ∷ d ∷ r) out
      go true l h k p = high_part a b c d u r out t i h le p
      go false true h k p = never out p
      go false false h k p = go_on n ih _ _ r out (unit_front x y a b c d u q s t i h k) le p

  u_part : (r out : List ℕ) → (y == 117) ≡ true → length r ≤ n → content after_u r ≡ Some out → Closed (x ∷ y ∷ r) out
  unfolding content
  u_part [] out t le p = never out p
  u_part (a ∷ []) out t le p = never out p
  u_part (a ∷ b ∷ []) out t le p = never out p
  u_part (a ∷ b ∷ c ∷ []) out t le p = never out p
  u_part (a ∷ b ∷ c ∷ d ∷ r) out t le p = unit_part a b c d r out t (code_unit a b c d) refl (omega arith) p

  short_part : (r out : List ℕ) → (y == 117) ≡ false → (o : Option ℕ) → short_escape y ≡ o → length r ≤ n → option_and_then (λ c. prepend (c ∷ []) (content plain r)) o ≡ Some out → Closed (x ∷ y ∷ r) out
  short_part r out t None i le p = never out p
  short_part r out t (Some d) i le p = go_on n ih _ _ r out (short_front x y d q s t i) le p

  escape_part : (r out : List ℕ) (t : Bool) → (y == 117) ≡ t → length r ≤ n → cond t (content after_u r) (option_and_then (λ c. prepend (c ∷ []) (content plain r)) (short_escape y)) ≡ Some out → Closed (x ∷ y ∷ r) out
  escape_part r out true t le p = u_part r out t le p
  escape_part r out false t le p = short_part r out t (short_escape y) refl le p

slash_part : (n : ℕ) → Closes n → (x : ℕ) → (x == 34) ≡ false → (x == 92) ≡ true → (r out : List ℕ) → length r ≤ n → content after_backslash r ≡ Some out → Closed (x ∷ r) out
unfolding content
slash_part n ih x q s [] out le p = never out p
slash_part n ih x q s (y ∷ r) out le p = escape_part n ih x y q s r out (y == 117) refl (omega arith) p

close_at : (x : ℕ) (r out : List ℕ) → (x == 34) ≡ true → Some [] ≡ Some out → Closed (x ∷ r) out
unfolding content
close_at x r out q p = record {
  body = x ∷ [];
  rest = r;
  before = [];
  last = ap (λ z. z ∷ []) (eqb-true x 34 q);
  is = refl;
  len = len_close x r q;
  read = λ z. rw q p;
  lexed = λ z. lex_close x z q;
}

first_part : (n : ℕ) → Closes n → (x : ℕ) (r out : List ℕ) (q s l : Bool) → (x == 34) ≡ q → (x == 92) ≡ s → nat_lt x 32 ≡ l → length r ≤ n
    → cond q (Some []) (cond s (content after_backslash r) (cond l None (prepend (x ∷ []) (content plain r)))) ≡ Some out → Closed (x ∷ r) out
first_part n ih x r out true s l q i j le p = close_at x r out q p
first_part n ih x r out false true l q i j le p = slash_part n ih x q i r out le p
first_part n ih x r out false false true q i j le p = never out p
first_part n ih x r out false false false q i j le p = go_on n ih _ _ r out (byte_front x q i j) le p

closes : (n : ℕ) → Closes n
unfolding content
closes n [] c le e = never c e
closes zero (x ∷ xs) c le e = absurd (omega arith)
closes (suc n) (x ∷ xs) c le e = first_part n (closes n) x xs c (x == 34) (x == 92) (nat_lt x 32) refl refl refl (omega arith) e

-- a string with a content is closed
pub closed : (xs c : List ℕ) → content plain xs ≡ Some c → Closed xs c
closed xs c e = closes (length xs) xs c (omega arith) e
