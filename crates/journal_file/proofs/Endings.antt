-- How the ending of a file is decided.
use Rattle.std.proofs.Common.{◌≡◌, ℕ, ◌<◌, ◌≤◌, Bool, true, false, cond, List, [], ◌∷◌, length, Option, Some, None, refl, arith}
use Rattle.std.specs.Prelude.{nat_lt, ◌==◌}
use Rattle.journal_file.specs.Marks.{furthest_said, first_moved}
use Rattle.journal_file.specs.Endings.{begins_with, signature_of, beginning, is_torn_record, unexplained, ending_by, ending_of, is_opened}
use Rattle.journal_file.specs.declared.ending.JournalEnding.{JournalEnding}
use Rattle.journal_file.specs.Openings.{refusal_of}
use Rattle.journal_file.specs.declared.ending.JournalEnding.TheVariants.{Whole, Torn, Unexplained, Foreign, Moved, Damaged}

-- after whole records the marks decide
pub told_by_marks : (whole : ℕ) (behind : List ℕ) → 0 < whole → 0 < length behind → ending_of whole behind ≡ ending_by whole behind (furthest_said behind) (first_moved whole behind)
told_by_marks whole [] w l = absurd (omega (arith, l))
told_by_marks whole (byte ∷ bytes) w l =
    let some : (whole == 0) ≡ false = grind (arith, w) in
    rw some refl

pub damaged_by : (whole said : ℕ) (behind : List ℕ) (moved : Option ℕ) → whole < said → ending_by whole behind (Some said) moved ≡ Damaged said
damaged_by whole said behind None lt = let beyond : nat_lt whole said ≡ true = grind (arith, lt) in rw beyond refl
damaged_by whole said behind (Some place) lt = let beyond : nat_lt whole said ≡ true = grind (arith, lt) in rw beyond refl

unopened : (b : Bool) (said place : ℕ) → is_opened (cond b (Damaged said) (Moved place)) ≡ false
unopened true said place = refl
unopened false said place = refl

pub moved_by : (whole said place : ℕ) (behind : List ℕ) → is_opened (ending_by whole behind (Some said) (Some place)) ≡ false
moved_by whole said place behind = unopened (nat_lt whole said) said place

pub unexplained_opened : (whole : ℕ) (behind : List ℕ) → length beginning < whole → is_opened (unexplained whole behind) ≡ true
unexplained_opened whole behind lt = let beyond : nat_lt (length beginning) whole ≡ true = grind (arith, lt) in rw beyond refl

torn_or : (b : Bool) (e : JournalEnding) → is_opened e ≡ true → is_opened (cond b Torn e) ≡ true
torn_or true e o = refl
torn_or false e o = o

not_beyond : (b : Bool) (said : ℕ) (e : JournalEnding) → b ≡ false → is_opened e ≡ true → is_opened (cond b (Damaged said) e) ≡ true
not_beyond true said e f o = absurd cc
not_beyond false said e f o = o

-- with no mark that says more, and none that was moved
pub opened_by : (whole : ℕ) (behind : List ℕ) (furthest : Option ℕ) → length beginning < whole → ((said : ℕ) → furthest ≡ Some said → said ≤ whole)
    → is_opened (ending_by whole behind furthest None) ≡ true
opened_by whole behind None lt most = torn_or (is_torn_record behind) (unexplained whole behind) (unexplained_opened whole behind lt)
opened_by whole behind (Some said) lt most =
    let le = most said refl in
    let within : nat_lt whole said ≡ false = grind (arith, le) in
    not_beyond (nat_lt whole said) said (unexplained whole behind) within (unexplained_opened whole behind lt)

foreign_unless : (b : Bool) (e : JournalEnding) → is_opened e ≡ false → is_opened (cond b Torn e) ≡ true → b ≡ true
foreign_unless true e f o = refl
foreign_unless false e f o = absurd cc

-- without a whole record a file is opened only as the beginning of a journal
pub begun : (byte : ℕ) (bytes : List ℕ) → is_opened (ending_of 0 (byte ∷ bytes)) ≡ true → begins_with beginning (byte ∷ bytes) ≡ true
begun byte bytes o = foreign_unless (begins_with beginning (byte ∷ bytes)) (Foreign (signature_of (byte ∷ bytes))) refl o

-- what isn't refused is opened
pub opened_unless : (e : JournalEnding) → refusal_of e ≡ None → is_opened e ≡ true
opened_unless Whole n = refl
opened_unless Torn n = refl
opened_unless Unexplained n = refl
opened_unless (Foreign signature) n = absurd cc
opened_unless (Moved place) n = absurd cc
opened_unless (Damaged said) n = absurd cc
