-- Laws of gathering the bytes of one line.
use Rattle.std.proofs.Common.{◌≡◌, ℕ, ◌+◌, ◌-◌, ◌≤◌, min, Bool, true, false, cond, eqb, List, [], ◌∷◌, ◌++◌, length, get_or, take, drop, Some, None, position, suc, ltb, ◌&&◌, refl, sym, ap, subst, ◌∙◌, arith}
use Rattle.std.specs.List.{list_any}
use Rattle.std.specs.Io.BufRead.{ends_with_byte, strip_last}
use Rattle.std.proofs.Math.Nat.{min_comm}
use Rattle.std.proofs.Math.Seq.{take-append-add}
use Rattle.std.proofs.lemmas.Bool.{eqb-true, ne_eqb, ltb-true, ltb-false, lt-ltb, cond-true, cond-false}
use Rattle.std.proofs.lemmas.List.{take-append-drop, take_min, drop_more, length-take-le}
use Rattle.std.proofs.lemmas.List.Quantifiers.{position-Some}
use Rattle.mds_script.specs.declared.lines.NextLine.{NextLine}
use Rattle.mds_script.specs.declared.lines.NextLine.TheVariants.{Line, TooLong, End}
use Rattle.mds_script.specs.Input.{is_feed}
use Rattle.mds_script.specs.LineReading.{IsWithoutFeed}
use Rattle.mds_script.proofs.Framed.{without_return, Closes, ClosesLast}
use Rattle.mds_script.proofs.Positions.{word_found, word_missing, none_before}
use Rattle.mds_script.specs.declared.gather.TheConstants.{LINE_LIMIT}

-- what is appended where there is room for so many bytes
pub keeps_front : (limit : ℕ) (line bytes : List ℕ) → length line ≤ limit → line ++ take (min (length bytes) (limit - length line)) bytes ≡ take limit (line ++ bytes)
keeps_front limit line bytes short =
    let room = limit - length line in
    let whole : length line + room ≡ limit = omega arith in
    ap (λ n. line ++ take n bytes) (min_comm (length bytes) room)
    ∙ (ap (λ xs. line ++ xs) (take_min room bytes)
    ∙ (sym (take-append-add line bytes room) ∙ ap (λ n. take n (line ++ bytes)) whole))

-- the line feed that is found ends the bytes before it, which have none
pub feed_splits : (bytes : List ℕ) (place : ℕ) → position is_feed bytes ≡ Some place → bytes ≡ take place bytes ++ 10 ∷ drop (place + 1) bytes
feed_splits bytes place found =
    let at = position-Some is_feed bytes place 0 found in
    sym (take-append-drop place bytes)
    ∙ ap (λ xs. take place bytes ++ xs) (drop_more bytes place 0 at.0 ∙ ap (λ b. b ∷ drop (place + 1) bytes) (eqb-true (get_or bytes place 0) 10 at.1))

pub feed_first : (bytes : List ℕ) (place : ℕ) → position is_feed bytes ≡ Some place → IsWithoutFeed (take place bytes)
feed_first bytes place found = ap (list_any is_feed) (word_found is_feed bytes place found) ∙ none_before is_feed bytes

pub feed_length : (bytes : List ℕ) (place : ℕ) → position is_feed bytes ≡ Some place → length (take place bytes) ≡ place
feed_length bytes place found =
    let at = position-Some is_feed bytes place 0 found in
    length-take-le place bytes (omega (arith, at.0))

-- where no line feed is found there is none
pub feed_missing : (bytes : List ℕ) → position is_feed bytes ≡ None → IsWithoutFeed bytes
feed_missing bytes missing = ap (list_any is_feed) (word_missing is_feed bytes missing) ∙ none_before is_feed bytes

strip_more : (t u : Bool) (byte : ℕ) (xs ys zs : List ℕ) → t ≡ u → xs ≡ byte ∷ ys → cond t xs (byte ∷ zs) ≡ byte ∷ cond u ys zs
strip_more true u byte xs ys zs e f = f ∙ ap (λ b. byte ∷ cond b ys zs) e
strip_more false u byte xs ys zs e f = ap (λ b. byte ∷ cond b ys zs) e

one_less : (n : ℕ) → suc n - 1 ≡ n
one_less n = omega arith

ends_is : (byte : ℕ) (bytes : List ℕ) → ends_with_byte 13 (byte ∷ bytes) ≡ eqb (get_or (byte ∷ bytes) (length bytes) 0) 13
ends_is byte bytes =
    ap (λ b. b && eqb (get_or (byte ∷ bytes) (length (byte ∷ bytes) - 1) 0) 13) (lt-ltb 0 (length (byte ∷ bytes)) (omega arith))
    ∙ ap (λ k. eqb (get_or (byte ∷ bytes) k 0) 13) (one_less (length bytes))

-- the same as in `std`
pub strip_is : (bytes : List ℕ) → strip_last 13 bytes ≡ without_return bytes
strip_is [] = refl
strip_is (byte ∷ []) = refl
strip_is (byte ∷ next ∷ bytes) =
    strip_more (ends_with_byte 13 (byte ∷ next ∷ bytes)) (ends_with_byte 13 (next ∷ bytes)) byte
    (take (length (byte ∷ next ∷ bytes) - 1) (byte ∷ next ∷ bytes)) (take (length (next ∷ bytes) - 1) (next ∷ bytes)) (next ∷ bytes)
    (ends_is byte (next ∷ bytes) ∙ sym (ends_is next bytes))
    (ap (λ n. take n (byte ∷ next ∷ bytes)) (one_less (length (next ∷ bytes))) ∙ ap (λ n. byte ∷ take n (next ∷ bytes)) (sym (one_less (length bytes))))
    ∙ ap (λ xs. byte ∷ xs) (strip_is (next ∷ bytes))

-- what is left of a line by the test of its last byte
pub return_dropped : (old new : List ℕ) → ends_with_byte 13 old ≡ true → new ≡ take (length old - 1) old → new ≡ strip_last 13 old
return_dropped old new e h = h ∙ sym (cond-true (ends_with_byte 13 old) (take (length old - 1) old) old e)

pub no_return : (old : List ℕ) → ends_with_byte 13 old ≡ false → old ≡ strip_last 13 old
no_return old e = sym (cond-false (ends_with_byte 13 old) (take (length old - 1) old) old e)

-- the test of the length, for a line that ended at its line feed
closes_at : (old new : List ℕ) (b : Bool) → ltb LINE_LIMIT (length new) ≡ b → new ≡ without_return old → Closes old (cond b TooLong Line) new
closes_at old new true e h = omega (arith, ltb-true LINE_LIMIT (length new) e, ap length h)
closes_at old new false e h = (h, ltb-false LINE_LIMIT (length new) e)

pub closes : (old new : List ℕ) (found : NextLine) → found ≡ cond (ltb LINE_LIMIT (length new)) TooLong Line → new ≡ strip_last 13 old → Closes old found new
closes old new found e h =
    subst (λ r. Closes old r new) (sym e) (closes_at old new (ltb LINE_LIMIT (length new)) refl (h ∙ strip_is old))

-- and for the last line
last_at : (byte : ℕ) (old new : List ℕ) (b : Bool) → ltb LINE_LIMIT (length (byte ∷ old)) ≡ b → new ≡ byte ∷ old → ClosesLast (byte ∷ old) (cond b TooLong Line) new
last_at byte old new true e same = ltb-true LINE_LIMIT (length (byte ∷ old)) e
last_at byte old new false e same = (same, omega arith, ltb-false LINE_LIMIT (length (byte ∷ old)) e)

pub closes_last : (old new : List ℕ) (found : NextLine) → found ≡ cond (eqb (length old) 0) End (cond (ltb LINE_LIMIT (length old)) TooLong Line) → new ≡ old → ClosesLast old found new
closes_last [] new found e same = subst (λ r. ClosesLast [] r new) (sym e) (refl, same)
closes_last (byte ∷ old) new found e same =
    let some : eqb (length (byte ∷ old)) 0 ≡ false = ne_eqb (length (byte ∷ old)) 0 (λ none. omega (arith, none)) in
    let rest = cond-false (eqb (length (byte ∷ old)) 0) End (cond (ltb LINE_LIMIT (length (byte ∷ old))) TooLong Line) some in
    subst (λ r. ClosesLast (byte ∷ old) r new) (sym (e ∙ rest)) (last_at byte old new (ltb LINE_LIMIT (length (byte ∷ old))) refl same)
