-- What is read from a file that was truncated, torn or filled with zeros, and how such a file ends.
use Rattle.std.specs.Prelude.{◌≡◌, ◌≢◌, ℕ, ◌+◌, ◌^◌, ◌<◌, ◌≤◌, List, [], ◌∷◌, ◌++◌, length, take, drop, replicate, true, false, Some, None}
use Rattle.std.specs.List.{AllByRecursion}
use Rattle.journal_file.specs.Sum.{sum_over, sums_over}
use Rattle.journal_file.specs.Records.{Fits, Reads, written, extent, first_at}
use Rattle.journal_file.specs.Marks.{mark_of, claim_at}
use Rattle.journal_file.specs.Endings.{beginning, ending_of, is_opened}
use Rattle.journal_file.specs.declared.ending.JournalEnding.TheVariants.{Damaged}

-- the list begins with these
abbrev pub IsFrontOf : List (List ℕ) → List (List ℕ) → Type 0
IsFrontOf front texts = (rest : List (List ℕ)) × (texts ≡ front ++ rest)

-- Of a file truncated anywhere, a prefix of its payloads is read.
abbrev pub ReadsAFront : Type 0
ReadsAFront =
    (before size : ℕ) (texts found : List (List ℕ)) → AllByRecursion Fits texts
    → Reads before (take size (written before texts)) found → IsFrontOf found texts

-- Whatever stands after them, all payloads whose records are whole are read first, and then what is read from the bytes
-- after them.
abbrev pub ReadsTheWritten : Type 0
ReadsTheWritten =
    (before : ℕ) (texts found : List (List ℕ)) (tail : List ℕ) → AllByRecursion Fits texts
    → Reads before (written before texts ++ tail) found
    → (more : List (List ℕ)) × (found ≡ texts ++ more) × Reads (sums_over before texts) tail more

-- The premise on a torn tail, that there is no checksum collision: where a record is read, its payload is the one that
-- was being written there.
abbrev pub IsTornFrom : ℕ → List (List ℕ) → List ℕ → Type 0
IsTornFrom before [] tail = first_at before tail ≡ None
IsTornFrom before (text ∷ texts) tail =
    (read behind : List ℕ) → first_at before tail ≡ Some (read, behind)
    → (read ≡ text) × IsTornFrom (sum_over before text) texts behind

-- From such a file the synced payloads are read, and a prefix of those that were being written.
abbrev pub ReadsWhatWasSynced : Type 0
ReadsWhatWasSynced =
    (before : ℕ) (synced pending found : List (List ℕ)) (tail : List ℕ) → AllByRecursion Fits synced
    → IsTornFrom (sums_over before synced) pending tail → Reads before (written before synced ++ tail) found
    → (more : List (List ℕ)) × (found ≡ synced ++ more) × IsFrontOf more pending

-- No payload is read from zeros.
abbrev pub ReadsNoZeros : Type 0
ReadsNoZeros = (before count : ℕ) (found : List (List ℕ)) → Reads before (replicate count 0) found → found ≡ []

-- Where the synced data is still there, whatever else a crash left, it lies within the records that are read: what is
-- cut lies after it.
abbrev pub CutsNothingSynced : Type 0
CutsNothingSynced =
    (before : ℕ) (synced found : List (List ℕ)) (tail : List ℕ) → AllByRecursion Fits synced
    → Reads before (written before synced ++ tail) found → extent synced ≤ extent found

-- Where a mark anywhere after the whole records, whatever position it was written for, says that the file was synced
-- beyond them, the file ends as damaged.
abbrev pub FindsDamage : Type 0
FindsDamage =
    (whole own synced : ℕ) (front rest : List ℕ) → own < 2 ^ 64 → synced < 2 ^ 64 → 0 < whole → whole < synced
    → (said : ℕ) × (ending_of whole (front ++ (mark_of own synced ++ rest)) ≡ Damaged said) × (synced ≤ said)

-- Where a mark after the whole records was written for another position, the file isn't opened.
abbrev pub RefusesWhatWasMoved : Type 0
RefusesWhatWasMoved =
    (whole own synced : ℕ) (front rest : List ℕ) → own < 2 ^ 64 → synced < 2 ^ 64 → 0 < whole → own ≢ whole + length front
    → is_opened (ending_of whole (front ++ (mark_of own synced ++ rest))) ≡ false

-- A file without a whole record is opened only where its bytes are a prefix of those with which each journal begins.
abbrev pub OpensNothingForeign : Type 0
OpensNothingForeign =
    (bytes : List ℕ) → is_opened (ending_of 0 bytes) ≡ true → (rest : List ℕ) × (beginning ≡ bytes ++ rest)

-- each mark among these bytes, which stand at this position, was written for its position, and says at most this
abbrev pub SayAtMost : ℕ → ℕ → List ℕ → Type 0
SayAtMost most position bytes =
    (front rest : List ℕ) (claim : ℕ × ℕ) → bytes ≡ front ++ rest → claim_at rest ≡ Some claim
    → (claim.0 ≡ position + length front) × (claim.1 ≤ most)

-- Where the synced data is still there, the whole records are more than that of the first mark, and each mark after the
-- whole records stands at its position and says no more than that, the file is opened: as after each crash, whatever it
-- left of what was being written.
abbrev pub OpensWhatACrashLeaves : Type 0
OpensWhatACrashLeaves =
    (before : ℕ) (synced found : List (List ℕ)) (tail : List ℕ) → AllByRecursion Fits synced
    → Reads before (written before synced ++ tail) found → length beginning < extent found
    → SayAtMost (extent synced) (extent found) (drop (extent found) (written before synced ++ tail))
    → is_opened (ending_of (extent found) (drop (extent found) (written before synced ++ tail))) ≡ true
