-- Laws of the lines of an input.
use Rattle.std.proofs.Common.{◌≡◌, ℕ, ◌+◌, ◌≤◌, ◌<◌, Bool, true, false, ◌&&◌, cond, eqb, List, [], ◌∷◌, ◌++◌, length, refl, ap, ◌∙◌, arith}
use Rattle.std.specs.List.{list_any, onto_first}
use Rattle.std.proofs.lemmas.Bool.{or_parts, and_right}
use Rattle.mds_script.specs.Input.{is_feed, lines, feeds}
use Rattle.mds_script.specs.LineReading.{IsWithoutFeed}
use Rattle.mds_script.specs.declared.gather.TheConstants.{LINE_LIMIT}
use Rattle.mds_script.specs.declared.lines.NextLine.{NextLine}
use Rattle.mds_script.specs.declared.lines.NextLine.TheVariants.{Line, TooLong, End}

-- the bytes without a carriage return at their end
abbrev pub without_return : List ℕ → List ℕ
without_return [] = []
without_return (byte ∷ []) = cond (eqb byte 13) [] (byte ∷ [])
without_return (byte ∷ next ∷ bytes) = byte ∷ without_return (next ∷ bytes)

-- the line that ends at a line feed after the stored bytes, or that it is over the limit
abbrev pub Closes : List ℕ → NextLine → List ℕ → Type 0
Closes old Line new = (new ≡ without_return old) × (length new ≤ LINE_LIMIT)
Closes old TooLong new = LINE_LIMIT < length (without_return old)
Closes old End new = ⊥

-- the last line, without a line feed, or that there is none
abbrev pub ClosesLast : List ℕ → NextLine → List ℕ → Type 0
ClosesLast old Line new = (new ≡ old) × (0 < length old) × (length old ≤ LINE_LIMIT)
ClosesLast old TooLong new = LINE_LIMIT < length old
ClosesLast old End new = (old ≡ []) × (new ≡ [])

pub no_feed_here : (byte : ℕ) (bytes : List ℕ) → IsWithoutFeed (byte ∷ bytes) → eqb byte 10 ≡ false
no_feed_here byte bytes h = (or_parts (eqb byte 10) (list_any is_feed bytes) h).0

pub no_feed_later : (byte : ℕ) (bytes : List ℕ) → IsWithoutFeed (byte ∷ bytes) → IsWithoutFeed bytes
no_feed_later byte bytes h = (or_parts (eqb byte 10) (list_any is_feed bytes) h).1

-- a byte that is no line feed, and isn't right before one, belongs to the first line
plain_byte : (byte : ℕ) (bytes : List ℕ) → eqb byte 10 ≡ false → feeds bytes ≡ false → lines (byte ∷ bytes) ≡ onto_first byte (lines bytes)
plain_byte byte bytes e f =
    ap (λ b. cond b ([] ∷ lines bytes) (cond (eqb byte 13 && feeds bytes) (lines bytes) (onto_first byte (lines bytes)))) e
    ∙ ap (λ b. cond b (lines bytes) (onto_first byte (lines bytes))) (and_right (eqb byte 13) (feeds bytes) f)

-- the bytes up to the first line feed are the first line
pub first_line : (line rest : List ℕ) → IsWithoutFeed line → lines (line ++ 10 ∷ rest) ≡ without_return line ∷ lines rest
first_line [] rest h = refl
first_line (byte ∷ []) rest h =
    ap (λ b. cond b ([] ∷ lines (10 ∷ rest)) (cond (eqb byte 13 && true) (lines (10 ∷ rest)) (onto_first byte (lines (10 ∷ rest))))) (no_feed_here byte [] h)
    ∙ last_byte (eqb byte 13) byte rest
  where
    last_byte : (b : Bool) (byte : ℕ) (rest : List ℕ) → cond (b && true) ([] ∷ lines rest) ((byte ∷ []) ∷ lines rest) ≡ cond b [] (byte ∷ []) ∷ lines rest
    last_byte true byte rest = refl
    last_byte false byte rest = refl
first_line (byte ∷ next ∷ line) rest h =
    let later = no_feed_later byte (next ∷ line) h in
    plain_byte byte (next ∷ line ++ 10 ∷ rest) (no_feed_here byte (next ∷ line) h) (no_feed_here next line later)
    ∙ ap (onto_first byte) (first_line (next ∷ line) rest later)

-- bytes without a line feed are one line
pub last_line : (byte : ℕ) (bytes : List ℕ) → IsWithoutFeed (byte ∷ bytes) → lines (byte ∷ bytes) ≡ (byte ∷ bytes) ∷ []
last_line byte [] h = plain_byte byte [] (no_feed_here byte [] h) refl
last_line byte (next ∷ bytes) h =
    let later = no_feed_later byte (next ∷ bytes) h in
    plain_byte byte (next ∷ bytes) (no_feed_here byte (next ∷ bytes) h) (no_feed_here next bytes later)
    ∙ ap (onto_first byte) (last_line next bytes later)

pub length-without_return : (bytes : List ℕ) → (length (without_return bytes) ≤ length bytes) × (length bytes ≤ length (without_return bytes) + 1)
length-without_return [] = (omega arith, omega arith)
length-without_return (byte ∷ []) = ends (eqb byte 13) byte
  where
    ends : (b : Bool) (byte : ℕ) → (length (cond b [] (byte ∷ [])) ≤ 1) × (1 ≤ length (cond b [] (byte ∷ [])) + 1)
    ends true byte = (omega arith, omega arith)
    ends false byte = (omega arith, omega arith)
length-without_return (byte ∷ next ∷ bytes) =
    let rest = length-without_return (next ∷ bytes) in
    (omega (arith, rest.0), omega (arith, rest.1))
