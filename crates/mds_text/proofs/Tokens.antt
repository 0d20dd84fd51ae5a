-- Tokens, the words of the vocabulary.
use Rattle.std.proofs.Common.{◌≡◌, ℕ, zero, suc, ◌+◌, ◌<◌, ◌≤◌, ◌-◌, Bool, true, false, not, cond, ◌&&◌, ◌==◌, nat_le, List, [], ◌∷◌, ◌++◌, length, take, drop, replicate, refl, sym, ap, subst, ◌∙◌, arith, length-append, length-drop}
use Rattle.std.proofs.Math.Seq.{take-append_seam, drop-append_seam}
use Rattle.std.proofs.lemmas.Bool.{le-leb, leb-true}
use Rattle.std.proofs.lemmas.List.{drop-replicate, length-replicate}
use Rattle.std.proofs.lemmas.List.Folds.{prefix_len-append}
use Rattle.std.proofs.lemmas.Bool.Decides.{nat_tests}
use Rattle.std.proofs.lemmas.List.Elements.{All-weaker}
use Rattle.std.proofs.lemmas.List.Sums.{AllPass-from_list_all}
use Rattle.std.proofs.lemmas.Str.{IsUtf8-from_ascii}
use Rattle.std.proofs.lemmas.Str.Ascii.{IsAscii-from_all}
use Rattle.std.specs.List.{list_all, prefix_len}
use Rattle.std.specs.Str.{IsUtf8}
use Rattle.std.proofs.lemmas.Bool.Decides.{same_from_decides}
use Rattle.std.proofs.lemmas.Slice.Eq.{bytes_eq-Decides}
use Rattle.std.specs.Str.{bytes_eq}
use Rattle.mds_text.specs.Vocabulary.{IsPadded, is_token, is_token_byte, padded_back, word_len}

both : (a b : Bool) → (a && b) ≡ true → (a ≡ true) × (b ≡ true)
both true true h = (refl, refl)
both true false h = cc
both false b h = cc

byte_lt : (b : ℕ) → is_token_byte b ≡ true → b < 128
byte_lt b h = grind (arith, nat_tests)

-- a token is UTF-8
pub IsUtf8-token : (s : List ℕ) → is_token s ≡ true → IsUtf8 s
IsUtf8-token s h =
    let bytes = both (nat_le 1 (length s) && nat_le (length s) 40) (list_all is_token_byte s) h in
    IsUtf8-from_ascii s (IsAscii-from_all s (All-weaker (λ b. is_token_byte b ≡ true) (λ b. b < 128) byte_lt s (AllPass-from_list_all is_token_byte s bytes.1)))

all_three : (a b c : Bool) → a ≡ true → b ≡ true → c ≡ true → (a && b && c) ≡ true
all_three a b c p q r = rw (p, q, r)

not_empty : (n : ℕ) → (n == 0) ≡ false → 1 ≤ n
not_empty n h = grind (arith, nat_tests)

-- from the conditions that `Token::read` tests, one by one
pub is_token-from : (s : List ℕ) → (length s == 0) ≡ false → length s ≤ 40 → list_all is_token_byte s ≡ true → is_token s ≡ true
is_token-from s some few bytes = all_three _ _ _ (le-leb 1 (length s) (not_empty (length s) some)) (le-leb (length s) 40 few) bytes

sized : (n : ℕ) (s : List ℕ) → length s ≤ n → length (s ++ drop (length s) (replicate n 0)) ≡ n
sized n s few = omega (arith, length-append {A = ℕ} s (drop (length s) (replicate n 0)), length-drop {A = ℕ} (length s) (replicate n 0), length-replicate {A = ℕ} n 0)

rest_zeros : (n : ℕ) (s : List ℕ) → drop (length s) (s ++ drop (length s) (replicate n 0)) ≡ replicate (n - length s) 0
rest_zeros n s = drop-append_seam s (drop (length s) (replicate n 0)) ∙ drop-replicate (length s) n 0

-- a token padded with zeros
pub IsPadded-from : (s : List ℕ) → is_token s ≡ true → IsPadded (length s) (s ++ drop (length s) (replicate 40 0))
IsPadded-from s h =
    let sizes = both (nat_le 1 (length s)) (nat_le (length s) 40) (both (nat_le 1 (length s) && nat_le (length s) 40) (list_all is_token_byte s) h).0 in
    let few = leb-true (length s) 40 sizes.1 in
    record {
      whole = sized 40 s few;
      fits = few;
      token = ap is_token (take-append_seam s (drop (length s) (replicate 40 0))) ∙ h;
      zeros = rest_zeros 40 s;
    }

-- a byte of a token isn't zero
filled : (b : ℕ) → is_token_byte b ≡ true → not (b == 0) ≡ true
filled b h = grind (arith, nat_tests)

all_filled : (s : List ℕ) → list_all is_token_byte s ≡ true → prefix_len (λ b. not (b == 0)) s ≡ length s
all_filled [] h = refl
all_filled (b ∷ s) h =
    let parts = both (is_token_byte b) (list_all is_token_byte s) h in
    let rest : 1 + prefix_len (λ a. not (a == 0)) s ≡ suc (length s) = omega (arith, all_filled s parts.1) in
    ap (λ t. cond t (1 + prefix_len (λ a. not (a == 0)) s) 0) (filled b parts.0) ∙ rest

none_filled : (n : ℕ) → prefix_len (λ b. not (b == 0)) (replicate n 0) ≡ 0
none_filled zero = refl
none_filled (suc n) = refl

eqb_same : (n m : ℕ) → n ≡ m → (n == m) ≡ true
eqb_same n m h = grind (arith, nat_tests)

-- the length of the word in a padded token
pub word_len-padded : (s : List ℕ) → is_token s ≡ true → word_len (s ++ drop (length s) (replicate 40 0)) ≡ length s
word_len-padded s h =
    let p = (λ (b : ℕ). not (b == 0)) in
    let all = all_filled s (both (nat_le 1 (length s) && nat_le (length s) 40) (list_all is_token_byte s) h).1 in
    let zeros : prefix_len p (drop (length s) (replicate 40 0)) ≡ 0 = ap (prefix_len p) (drop-replicate (length s) 40 0) ∙ none_filled (40 - length s) in
    prefix_len-append p s (drop (length s) (replicate 40 0))
    ∙ ap (λ t. cond t (length s + prefix_len p (drop (length s) (replicate 40 0))) (prefix_len p s)) (eqb_same (prefix_len p s) (length s) all)
    ∙ omega (arith, zeros)

-- a padded token, in terms of the length of its word
pub IsPadded-read : (s : List ℕ) → is_token s ≡ true → IsPadded (word_len (s ++ drop (length s) (replicate 40 0))) (s ++ drop (length s) (replicate 40 0))
IsPadded-read s h = subst (λ n. IsPadded n (s ++ drop (length s) (replicate 40 0))) (sym (word_len-padded s h)) (IsPadded-from s h)

pub padded-word : (s : List ℕ) → is_token s ≡ true → take (word_len (s ++ drop (length s) (replicate 40 0))) (s ++ drop (length s) (replicate 40 0)) ≡ s
padded-word s h = ap (λ n. take n (s ++ drop (length s) (replicate 40 0))) (word_len-padded s h) ∙ take-append_seam s (drop (length s) (replicate 40 0))

-- padded tokens are equal where their words are
pub same_words : (xs ys : List ℕ) → IsPadded (word_len xs) xs → IsPadded (word_len ys) ys → bytes_eq xs ys ≡ bytes_eq (take (word_len xs) xs) (take (word_len ys) ys)
same_words xs ys hx hy =
    let whole = bytes_eq-Decides xs ys in
    let words = bytes_eq-Decides (take (word_len xs) xs) (take (word_len ys) ys) in
    let pad = (λ (s : List ℕ). s ++ replicate (40 - length s) 0) in
    same_from_decides (bytes_eq xs ys) (bytes_eq (take (word_len xs) xs) (take (word_len ys) ys)) whole (
      λ h. sym (padded_back (word_len xs) xs hx) ∙ ap pad (words.0 h) ∙ padded_back (word_len ys) ys hy,
      λ same. words.1 (ap (λ s. take (word_len s) s) same),
    )
