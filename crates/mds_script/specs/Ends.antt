-- How failures of reads and writes are counted, and what a write of all bytes does.
use Rattle.std.specs.Prelude.{ℕ, ◌==◌, Result, Ok, Err, if◌then◌else◌, ◌≡◌, List, ◌++◌, Option, MatchResult}
use Rattle.std.specs.Io.KnownBytes.{Appends}

-- a read that returned an error
abbrev pub read_failures : {E : Type 0} → Result ℕ E → ℕ
read_failures (Ok n) = 0
read_failures (Err e) = 1

-- a write that returned an error, or took no bytes
abbrev pub write_failures : {E : Type 0} → Result ℕ E → ℕ
write_failures (Ok n) = if n == 0 then 1 else 0
write_failures (Err e) = 1

-- all bytes were written, or, where a write failed, a prefix of them
abbrev pub Writes : {T E : Type 0} → Option (List ℕ) → Option (List ℕ) → Result T E → List ℕ → Type 0
Writes old new result bytes =
    MatchResult result (λ _. Appends old new bytes)
    (λ _. (front : List ℕ) × (rest : List ℕ) × (bytes ≡ front ++ rest) × Appends old new front)
