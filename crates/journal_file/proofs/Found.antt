-- Lists of found records, with one more pushed.
use Rattle.std.proofs.Common.{◌≡◌, ℕ, ◌+◌, List, [], ◌∷◌, ◌++◌, length, map, refl, sym, ap, ◌∙◌, append_assoc, arith}
use Rattle.std.proofs.lemmas.List.{map_push}
use Rattle.journal_file.specs.Sum.{sum_over, sums_over}
use Rattle.journal_file.specs.Records.{extent, offsets_from}

pub extent_more : (texts : List (List ℕ)) (text : List ℕ) → extent (texts ++ text ∷ []) ≡ extent texts + (12 + length text)
extent_more [] text = omega arith
extent_more (first ∷ texts) text = omega (arith, extent_more texts text)

pub sums_more : (before : ℕ) (texts : List (List ℕ)) (text : List ℕ) → sums_over before (texts ++ text ∷ []) ≡ sum_over (sums_over before texts) text
sums_more before [] text = refl
sums_more before (first ∷ texts) text = sums_more (sum_over before first) texts text

pub offsets_more : (start : ℕ) (texts : List (List ℕ)) (text : List ℕ) → offsets_from start (texts ++ text ∷ []) ≡ offsets_from start texts ++ (start + extent texts + 12) ∷ []
offsets_more start [] text = ap (λ (n : ℕ). n ∷ []) (omega arith)
offsets_more start (first ∷ texts) text =
    ap (λ (ns : List ℕ). (start + 12) ∷ ns) (offsets_more (start + 12 + length first) texts text
    ∙ ap (λ (n : ℕ). offsets_from (start + 12 + length first) texts ++ n ∷ []) (omega arith))

-- the projection of each record, where one more was pushed
pub mapped_more : {V W : Type 0} (of : V → W) (old new : List V) (v : V) → new ≡ old ++ v ∷ [] → map of new ≡ map of old ++ of v ∷ []
mapped_more of old new v pushed = ap (map of) pushed ∙ map_push of old v
