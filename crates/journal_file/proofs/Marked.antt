-- Marks are found wherever they stand.
use Rattle.std.proofs.Common.{◌≡◌, ℕ, ◌+◌, ◌^◌, ◌<◌, ◌≤◌, Bool, true, false, cond, ltb, List, [], ◌∷◌, ◌++◌, length, Option, Some, None, refl, sym, ap, subst, ◌∙◌, append_assoc, arith}
use Rattle.std.specs.Prelude.{◌≢◌, ◌==◌, max, not}
use Rattle.std.specs.Int.{w64, from_be_bytes, to_be_bytes}
use Rattle.std.proofs.lemmas.Bool.{le-ltb}
use Rattle.std.proofs.lemmas.List.{take_at, drop_at, length-append}
use Rattle.std.proofs.lemmas.Nat.{from_be_bytes-to_be_bytes_8}
use Rattle.std.proofs.Math.Nat.{le-max_left, le-max_right}
use Rattle.journal_file.specs.Sum.{sum_over}
use Rattle.journal_file.specs.Records.{Fits}
use Rattle.journal_file.specs.Marks.{mark_head, mark_of, claim_by, claim_at, said_by, is_moved, further, furthest_said, first_moved}
use Rattle.journal_file.specs.Laws.{SayAtMost}
use Rattle.journal_file.proofs.Records.{sum_fits}

head_length : (position synced : ℕ) → length (mark_head position synced) ≡ 24
unfolding mark_head
head_length position synced = refl

pub mark_length : (position synced : ℕ) → length (mark_of position synced) ≡ 32
mark_length position synced = omega (arith, length-append (mark_head position synced) (to_be_bytes w64 (sum_over 0 (mark_head position synced))), head_length position synced)

pub mark_fits : (position synced : ℕ) → Fits (mark_of position synced)
mark_fits position synced = record { filled = omega (arith, mark_length position synced); short = omega (arith, mark_length position synced) }

claim_again : (position synced : ℕ) → position < 2 ^ 64 → synced < 2 ^ 64
    → claim_by (mark_head position synced) (sum_over 0 (mark_head position synced)) ≡ Some (position, synced)
unfolding claim_by mark_head
claim_again position synced p s =
    let same : (sum_over 0 (mark_head position synced) == sum_over 0 (mark_head position synced)) ≡ true = grind arith in
    rw same (ap (λ (n : ℕ). Some (n, from_be_bytes w64 (to_be_bytes w64 synced))) (from_be_bytes-to_be_bytes_8 position p) ∙ ap (λ (n : ℕ). Some (position, n)) (from_be_bytes-to_be_bytes_8 synced s))

-- a mark, from its head and its checksum
claim_of : (head sum rest : List ℕ) → length head ≡ 24 → length sum ≡ 8 → claim_at (head ++ (sum ++ rest)) ≡ claim_by head (from_be_bytes w64 sum)
unfolding claim_at
claim_of head sum rest long eight =
    let whole : ltb (length (head ++ (sum ++ rest))) 32 ≡ false = le-ltb _ _ (omega (arith, length-append head (sum ++ rest), length-append sum rest, long, eight)) in
    rw (whole, take_at head (sum ++ rest) 24 long, drop_at head (sum ++ rest) 24 long, take_at sum rest 8 eight) refl

pub mark_claims : (position synced : ℕ) (rest : List ℕ) → position < 2 ^ 64 → synced < 2 ^ 64 → claim_at (mark_of position synced ++ rest) ≡ Some (position, synced)
mark_claims position synced rest p s =
    let head = mark_head position synced in
    let sum = to_be_bytes w64 (sum_over 0 head) in
    ap claim_at (append_assoc head sum rest)
    ∙ claim_of head sum rest (head_length position synced) refl
    ∙ ap (claim_by head) (from_be_bytes-to_be_bytes_8 (sum_over 0 head) (sum_fits 0 head))
    ∙ claim_again position synced p s

nothing_claimed : claim_at [] ≡ None
unfolding claim_at
nothing_claimed = refl

-- a position is given, and it is at least this
abbrev pub IsAtLeast : ℕ → Option ℕ → Type 0
IsAtLeast said o = (most : ℕ) × (o ≡ Some most) × (said ≤ most)

here_at_least : (said : ℕ) (other : Option ℕ) → IsAtLeast said (further (Some said) other)
here_at_least said None = (said, refl, omega arith)
here_at_least said (Some other) = (max said other, refl, le-max_left said other)

none_some : (n : ℕ) → None ≡ Some n → ⊥
none_some n e = absurd cc

some_same : (m n : ℕ) → Some m ≡ Some n → m ≡ n
some_same m n e = cc

there_at_least : (said : ℕ) (o other : Option ℕ) → IsAtLeast said other → IsAtLeast said (further o other)
there_at_least said None other a = a
there_at_least said (Some one) None a = absurd (none_some a.0 a.1)
there_at_least said (Some one) (Some most) a =
    let same : most ≡ a.0 = some_same most a.0 a.1 in
    (max one most, refl, omega (arith, a.2, same, le-max_right one most))

-- what a mark anywhere among the bytes says is no more than the furthest
pub said_within : (own said : ℕ) (front rest : List ℕ) → claim_at rest ≡ Some (own, said) → IsAtLeast said (furthest_said (front ++ rest))
said_within own said [] [] e = let none = nothing_claimed in absurd cc
said_within own said [] (byte ∷ rest) e =
    subst (λ (o : Option (ℕ × ℕ)). IsAtLeast said (further (said_by o) (furthest_said rest))) (sym e) (here_at_least said (furthest_said rest))
said_within own said (byte ∷ front) rest e =
    there_at_least said (said_by (claim_at (byte ∷ (front ++ rest)))) (furthest_said (front ++ rest)) (said_within own said front rest e)

abbrev pub IsFound : Option ℕ → Type 0
IsFound o = (place : ℕ) × (o ≡ Some place)

found_or : (b : Bool) (place : ℕ) (o : Option ℕ) → IsFound o → IsFound (cond b (Some place) o)
found_or true place o f = (place, refl)
found_or false place o f = f

found_here : (b : Bool) (place : ℕ) (o : Option ℕ) → b ≡ true → IsFound (cond b (Some place) o)
found_here true place o e = (place, refl)
found_here false place o e = absurd cc

elsewhere : (own position : ℕ) → own ≢ position → not (own == position) ≡ true
elsewhere own position ne = grind (arith, ne)

-- a mark that was written for another position is found, or one before it
pub moved_found : (position own said : ℕ) (front rest : List ℕ) → claim_at rest ≡ Some (own, said) → own ≢ position + length front
    → IsFound (first_moved position (front ++ rest))
moved_found position own said [] [] e ne = let none = nothing_claimed in absurd cc
moved_found position own said [] (byte ∷ rest) e ne =
    found_here (is_moved position (claim_at (byte ∷ rest))) position (first_moved (position + 1) rest)
    (ap (is_moved position) e ∙ elsewhere own position (λ same. ne (same ∙ omega arith)))
moved_found position own said (byte ∷ front) rest e ne =
    found_or (is_moved position (claim_at (byte ∷ (front ++ rest)))) position (first_moved (position + 1) (front ++ rest))
    (moved_found (position + 1) own said front rest e (λ same. ne (same ∙ omega arith)))

-- at most this
abbrev pub IsAtMost : ℕ → Option ℕ → Type 0
IsAtMost most o = (said : ℕ) → o ≡ Some said → said ≤ most

further_at_most : (most : ℕ) (o other : Option ℕ) → IsAtMost most o → IsAtMost most other → IsAtMost most (further o other)
further_at_most most None other a b = b
further_at_most most (Some one) None a b = a
further_at_most most (Some one) (Some two) a b = λ said e.
    let same : max one two ≡ said = cc in
    let left = a one refl in
    let right = b two refl in
    grind (arith, left, right, same)

said_at_most : (most : ℕ) (o : Option (ℕ × ℕ)) → ((claim : ℕ × ℕ) → o ≡ Some claim → claim.1 ≤ most) → IsAtMost most (said_by o)
said_at_most most None each = λ said e. absurd cc
said_at_most most (Some claim) each = λ said e.
    let same : claim.1 ≡ said = cc in
    subst (λ (n : ℕ). n ≤ most) same (each claim refl)

-- where each says at most this, the furthest is at most this
pub furthest_within : (most position : ℕ) (bytes : List ℕ) → SayAtMost most position bytes → IsAtMost most (furthest_said bytes)
furthest_within most position [] each = λ said e. absurd cc
furthest_within most position (byte ∷ bytes) each =
    further_at_most most (said_by (claim_at (byte ∷ bytes))) (furthest_said bytes)
    (said_at_most most (claim_at (byte ∷ bytes)) (λ claim e. (each [] (byte ∷ bytes) claim refl e).1))
    (furthest_within most (position + 1) bytes (λ front rest claim is e.
    let c = each (byte ∷ front) rest claim (ap (λ (x : List ℕ). byte ∷ x) is) e in
    (c.0 ∙ omega arith, c.1)))

in_place : (position : ℕ) (o : Option (ℕ × ℕ)) → ((claim : ℕ × ℕ) → o ≡ Some claim → claim.0 ≡ position) → is_moved position o ≡ false
in_place position None each = refl
in_place position (Some claim) each = let same = each claim refl in grind (arith, same)

passed_over : (b : Bool) (place : ℕ) (o : Option ℕ) → b ≡ false → o ≡ None → cond b (Some place) o ≡ None
passed_over true place o e f = absurd cc
passed_over false place o e f = f

-- where each stands at its position, none was moved
pub none_moved : (most position : ℕ) (bytes : List ℕ) → SayAtMost most position bytes → first_moved position bytes ≡ None
none_moved most position [] each = refl
none_moved most position (byte ∷ bytes) each =
    passed_over (is_moved position (claim_at (byte ∷ bytes))) position (first_moved (position + 1) bytes)
    (in_place position (claim_at (byte ∷ bytes)) (λ claim e. (each [] (byte ∷ bytes) claim refl e).0 ∙ omega arith))
    (none_moved most (position + 1) bytes (λ front rest claim is e.
    let c = each (byte ∷ front) rest claim (ap (λ (x : List ℕ). byte ∷ x) is) e in
    (c.0 ∙ omega arith, c.1)))
