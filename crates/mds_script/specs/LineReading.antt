-- The state of the line reader in contracts, how it gathers the bytes of a line, and what its next line is.
use Rattle.std.specs.Prelude.{◌≡◌, ℕ, ◌+◌, ◌<◌, ◌≤◌, Bool, false, List, [], ◌∷◌, ◌++◌, length, take, Option, Some, None, ◌-◌, ◌⊎◌, true, drop, ⊤, IfSome}
use Rattle.std.specs.List.{list_any}
use Rattle.std.specs.Io.KnownBytes.{Consumes, IsAtEnd, prepend_known}
use Rattle.mds_script.specs.declared.lines.NextLine.{NextLine}
use Rattle.mds_script.specs.declared.lines.NextLine.TheVariants.{Line, TooLong, End}
use Rattle.mds_script.specs.Input.{is_feed, lines}
use Rattle.mds_script.specs.declared.lines.LineReader.{LineReader}
use Rattle.mds_script.specs.declared.gather.TheConstants.{LINE_LIMIT, STORED_LIMIT}
use Rattle.mds_script.specs.declared.lines.TheConstants.{INPUT_LIMIT}

-- no byte is a line feed
abbrev pub IsWithoutFeed : List ℕ → Type 0
IsWithoutFeed bytes = list_any is_feed bytes ≡ false

-- The stored line gained the bytes before the first line feed, as many as there is room for. The result is how many
-- bytes they and the line feed are, or none where there is no line feed.
abbrev pub Gathers : List ℕ → List ℕ → Option ℕ → List ℕ → Type 0
Gathers old bytes (Some count) new =
    (front : List ℕ) × (rest : List ℕ) × (bytes ≡ front ++ 10 ∷ rest) × IsWithoutFeed front × (count ≡ length front + 1) × (new ≡ take STORED_LIMIT (old ++ front))
Gathers old bytes None new = IsWithoutFeed bytes × (new ≡ take STORED_LIMIT (old ++ bytes))

-- the buffered bytes, which were read and belong to no line yet
abbrev pub ahead : LineReader → List ℕ
ahead r = take (r.end - r.start) (drop r.start r.chunk.items)

-- the line that was found last
abbrev pub held : LineReader → List ℕ
held r = r.line.items

-- how many bytes of the input come before the buffered ones
abbrev pub passed : LineReader → ℕ
passed r = r.total - (r.end - r.start)

-- the bytes that belong to no line yet, where the source's are known
abbrev pub left : LineReader → Option (List ℕ) → Option (List ℕ)
left r remaining = prepend_known (ahead r) remaining

-- known bytes begin with one line, and the new ones are what follows it
abbrev pub BeginsWithLine : Option (List ℕ) → Option (List ℕ) → List ℕ → Type 0
BeginsWithLine None new line = ⊤
BeginsWithLine (Some bytes) None line = ⊥
BeginsWithLine (Some bytes) (Some rest) line = lines bytes ≡ line ∷ lines rest

-- The result: the next line, stored in the reader; a line over the limit; or no further line, at the end of the input.
abbrev pub Finds : NextLine → List ℕ → Option (List ℕ) → Option (List ℕ) → Type 0
Finds Line kept old new = (length kept ≤ LINE_LIMIT) × BeginsWithLine old new kept
Finds TooLong kept old new = (line : List ℕ) × (LINE_LIMIT < length line) × BeginsWithLine old new line
Finds End kept old new = (kept ≡ []) × IsAtEnd old × IsAtEnd new

-- some bytes were consumed, and are counted
abbrev pub Advances : ℕ → Option (List ℕ) → ℕ → Option (List ℕ) → Type 0
Advances passed_old old passed_new new = (bytes : List ℕ) × Consumes old new bytes × (passed_new ≡ passed_old + length bytes)

-- a read failed, or the input, of which so many bytes were consumed and these are left, is over its limit
abbrev pub FailsReading : ℕ → ℕ → ℕ → Option (List ℕ) → Type 0
FailsReading failures_old failures_new passed_old old = (failures_new ≡ failures_old + 1) ⊎ IfSome old (λ bytes. INPUT_LIMIT < passed_old + length bytes)
