-- The pieces of a text, one after another.
use Rattle.std.proofs.Common.{◌≡◌, ℕ, zero, suc, ◌+◌, List, [], ◌∷◌, ◌++◌, Bool, true, false, cond, length, take, drop, refl, sym, ap, ◌∙◌, arith, append_assoc, append-nil}
use Rattle.std.specs.List.{concat, count_by, flat_map}
use Rattle.std.proofs.lemmas.List.{take-append-drop}
use Rattle.std.proofs.lemmas.List.Sums.{sum_by-cons}
use Rattle.mds_text.specs.Quoting.{is_quoted, piece_tail, pieces_behind, pieces, quoted_count, quoted_text, shown}

-- the pieces after `k` bytes are the pieces of the text from there on
pub pieces_behind-drop : (k : ℕ) (s : List ℕ) → pieces_behind k s ≡ pieces (drop k s)
unfolding pieces_behind
pieces_behind-drop zero [] = refl
pieces_behind-drop zero (b ∷ s) = refl
pieces_behind-drop (suc k) [] = refl
pieces_behind-drop (suc k) (b ∷ s) = pieces_behind-drop k s

-- the first piece, then those of the rest
pieces-cons : (b : ℕ) (s : List ℕ) → pieces (b ∷ s) ≡ (b ∷ take (piece_tail b s) s) ∷ pieces (drop (piece_tail b s) s)
unfolding pieces_behind
pieces-cons b s = ap (λ ps. (b ∷ take (piece_tail b s) s) ∷ ps) (pieces_behind-drop (piece_tail b s) s)

one_more : (n : ℕ) → 1 + n ≡ suc n
one_more n = omega arith

pub pieces-split : (text : List ℕ) (b n : ℕ) (s piece left : List ℕ) → text ≡ b ∷ s → n ≡ piece_tail b s → piece ≡ take (1 + n) text → left ≡ drop (1 + n) text → pieces text ≡ piece ∷ pieces left
pieces-split text b n s piece left is len front behind =
    let first : piece ≡ b ∷ take (piece_tail b s) s =
    front ∙ ap (λ k. take k text) (one_more n) ∙ ap (take (suc n)) is ∙ ap (λ k. b ∷ take k s) len in
    let rest : left ≡ drop (piece_tail b s) s =
    behind ∙ ap (λ k. drop k text) (one_more n) ∙ ap (drop (suc n)) is ∙ ap (λ k. drop k s) len in
    ap pieces is ∙ pieces-cons b s ∙ ap (λ p. p ∷ pieces (drop (piece_tail b s) s)) (sym first) ∙ ap (λ t. piece ∷ pieces t) (sym rest)

-- one iteration: what was written, and what is left, quoted, are the whole text, quoted
pub text_turn : (text piece left out more all : List ℕ) → pieces text ≡ piece ∷ pieces left → more ≡ out ++ shown piece → out ++ quoted_text text ≡ all → more ++ quoted_text left ≡ all
text_turn text piece left out more all split grown before =
    ap (λ o. o ++ quoted_text left) grown ∙ append_assoc out (shown piece) (quoted_text left) ∙ ap (λ ps. out ++ flat_map shown ps) (sym split) ∙ before

counted-cons : (piece : List ℕ) (ps : List (List ℕ)) (b : Bool) → is_quoted piece ≡ b → count_by is_quoted (piece ∷ ps) ≡ cond b 1 0 + count_by is_quoted ps
counted-cons piece ps b is = sum_by-cons (λ p. cond (is_quoted p) 1 0) piece ps ∙ ap (λ t. cond t 1 0 + count_by is_quoted ps) is

pub quoted_turn : (text piece left : List ℕ) (count more all : ℕ) → pieces text ≡ piece ∷ pieces left → is_quoted piece ≡ true → more ≡ count + 1 → count + quoted_count text ≡ all → more + quoted_count left ≡ all
quoted_turn text piece left count more all split is grown before =
    let one = ap (count_by is_quoted) split ∙ counted-cons piece (pieces left) true is in omega (arith, one)

pub kept_turn : (text piece left : List ℕ) (count more all : ℕ) → pieces text ≡ piece ∷ pieces left → is_quoted piece ≡ false → more ≡ count → count + quoted_count text ≡ all → more + quoted_count left ≡ all
kept_turn text piece left count more all split is same before =
    let one = ap (count_by is_quoted) split ∙ counted-cons piece (pieces left) false is in omega (arith, one)

-- nothing is left of an empty text
pub text_end : (text out all : List ℕ) → length text ≡ 0 → out ++ quoted_text text ≡ all → out ≡ all
unfolding pieces_behind
text_end [] out all none before = sym (append-nil out) ∙ before
text_end (b ∷ s) out all none before = absurd (omega arith)

pub count_end : (text : List ℕ) (count all : ℕ) → length text ≡ 0 → count + quoted_count text ≡ all → count ≡ all
unfolding pieces_behind
count_end [] count all none before = omega (arith, before)
count_end (b ∷ s) count all none before = absurd (omega arith)

-- the pieces after `k` bytes, concatenated, are the text from there on
concat-pieces : (k : ℕ) (s : List ℕ) → concat (pieces_behind k s) ≡ drop k s
unfolding pieces_behind
concat-pieces zero [] = refl
concat-pieces zero (b ∷ s) = ap (λ t. (b ∷ take (piece_tail b s) s) ++ t) (concat-pieces (piece_tail b s) s) ∙ ap (λ t. b ∷ t) (take-append-drop (piece_tail b s) s)
concat-pieces (suc k) [] = refl
concat-pieces (suc k) (b ∷ s) = concat-pieces k s

pub pieces_are_the_text : (s : List ℕ) → concat (pieces s) ≡ s
pieces_are_the_text s = concat-pieces 0 s
