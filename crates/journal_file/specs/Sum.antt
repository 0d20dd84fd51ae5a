-- The checksum of a record: SipHash-1-3 with both keys 0, over the checksum before it and its payload.
use Rattle.std.specs.Prelude.{ℕ, ◌%◌, ◌^◌, List, [], ◌∷◌}
use Rattle.std.specs.Int.{w64, to_be_bytes}
use Rattle.std.specs.Hash.DefaultHasher.{initial, write, finish}

-- the checksum of a payload after data with the checksum `before`: the hash of the eight bytes of that checksum,
-- big-endian, and the payload
unfoldable pub sum_over : ℕ → List ℕ → ℕ
sum_over before text = finish (write (write initial (to_be_bytes w64 before)) text) % 2 ^ 64

-- the checksum after these payloads
abbrev pub sums_over : ℕ → List (List ℕ) → ℕ
sums_over before [] = before
sums_over before (text ∷ texts) = sums_over (sum_over before text) texts
