-- The lists that a log may hold, where a group is appended.
use Rattle.std.proofs.Common.{◌≡◌, ℕ, ◌+◌, Bool, true, false, List, [], ◌∷◌, ◌++◌, length, take, refl, sym, ap, subst, ◌∙◌, arith}
use Rattle.std.specs.Prelude.{◌&&◌, nat_lt, nat_le}
use Rattle.std.specs.List.{AllByRecursion, filter, list_all}
use Rattle.std.proofs.lemmas.List.{length-append}
use Rattle.std.proofs.lemmas.List.Elements.{filter-append}
use Rattle.journal_file.specs.Sum.{sums_over}
use Rattle.journal_file.specs.Records.{Fits, Reads, written, extent}
use Rattle.journal_file.specs.Marks.{mark_head, mark_of}
use Rattle.journal_file.specs.Groups.{is_plain, is_taken, are_taken, group_of, listed, MayBeOf}
use Rattle.journal_file.specs.declared.record.TheConstants.{MOST_TEXT}
use Rattle.journal_file.proofs.Marked.{mark_fits}
use Rattle.journal_file.proofs.Written.{extent_joined}
use Rattle.journal_file.proofs.Joined.{written_length, reads_more, reads_front, sums_joined}

all_three : (a b c : Bool) → (a && b && c) ≡ true → (a ≡ true) × (b ≡ true) × (c ≡ true)
all_three true true true e = (refl, refl, refl)
all_three true true false e = absurd cc
all_three true false c e = absurd cc
all_three false b c e = absurd cc

both : (a b : Bool) → (a && b) ≡ true → (a ≡ true) × (b ≡ true)
both true true e = (refl, refl)
both true false e = absurd cc
both false b e = absurd cc

one_fits : (text : List ℕ) → is_taken text ≡ true → Fits text
one_fits text e =
    let b = all_three (nat_lt 0 (length text)) (nat_le (length text) MOST_TEXT) (is_plain text) e in
    record { filled = grind (arith, b.0); short = grind (arith, b.1) }

fit : (texts : List (List ℕ)) → are_taken texts ≡ true → AllByRecursion Fits texts
fit [] e = tt
fit (text ∷ texts) e =
    let b = both (is_taken text) (are_taken texts) e in
    (one_fits text b.0, fit texts b.1)

all_listed : (texts : List (List ℕ)) → are_taken texts ≡ true → listed texts ≡ texts
all_listed [] e = refl
all_listed (text ∷ texts) e =
    let b = both (is_taken text) (are_taken texts) e in
    let plain : is_plain text ≡ true = (all_three (nat_lt 0 (length text)) (nat_le (length text) MOST_TEXT) (is_plain text) b.0).2 in
    rw plain (ap (λ (ts : List (List ℕ)). text ∷ ts) (all_listed texts b.1))

mark_unlisted : (position synced : ℕ) → is_plain (mark_of position synced) ≡ false
unfolding mark_head
mark_unlisted position synced = refl

group_listed : (position synced : ℕ) (texts : List (List ℕ)) → are_taken texts ≡ true → listed (group_of position synced texts) ≡ texts
group_listed position synced texts e = rw (mark_unlisted (position + 12) synced) (all_listed texts e)

group_fits : (position synced : ℕ) (texts : List (List ℕ)) → are_taken texts ≡ true → AllByRecursion Fits (group_of position synced texts)
group_fits position synced texts e = (mark_fits (position + 12) synced, fit texts e)

-- after a group was written, the log may hold the list with its payloads
pub may_be_more : {before after : List ℕ → Type 0} (is_broken : Bool) (position sum count synced : ℕ) (list texts : List (List ℕ)) (bytes : List ℕ) (size sum-after more : ℕ)
    → MayBeOf before is_broken position sum count list → is_broken ≡ false → are_taken texts ≡ true
    → bytes ≡ written sum (group_of position synced texts) → size ≡ length bytes → sum-after ≡ sums_over sum (group_of position synced texts) → more ≡ length texts
    → ((held : List ℕ) → before held → after (held ++ bytes))
    → MayBeOf after is_broken (position + size) sum-after (count + more) (list ++ texts)
may_be_more is_broken position sum count synced list texts bytes size sum-after more may whole taken bytes-are size-is sum-is more-is added =
    let group = group_of position synced texts in
    let h = may.held whole in
    let long : length bytes ≡ extent group = ap (λ (b : List ℕ). length b) bytes-are ∙ written_length sum group in
    let behind : bytes ≡ written (sums_over 0 may.texts) group = bytes-are ∙ ap (λ (s : ℕ). written s group) may.summed in
    record {
      texts = may.texts ++ group;
      are_listed = filter-append is_plain may.texts group ∙ ap (λ (l : List (List ℕ)). l ++ listed group) may.are_listed ∙ ap (λ (l : List (List ℕ)). list ++ l) (group_listed position synced texts taken);
      summed = sum-is ∙ ap (λ (s : ℕ). sums_over s group) may.summed ∙ sym (sums_joined 0 may.texts group);
      ends = omega (arith, may.ends, size-is, long, extent_joined may.texts group);
      counted = omega (arith, may.counted, more-is, length-append list texts);
      held = λ _. (
        h.0 ++ bytes,
        added h.0 h.1,
        subst (λ (b : List ℕ). Reads 0 (h.0 ++ b) (may.texts ++ group)) (sym behind) (reads_more 0 h.0 may.texts group h.2 h.3 (group_fits position synced texts taken)),
        omega (arith, length-append h.0 bytes, long, extent_joined may.texts group, h.3),
      );
    }

-- the same list, with storage that holds what it held
pub may_be_still : {before after : List ℕ → Type 0} (is_broken : Bool) (position sum count : ℕ) (list : List (List ℕ))
    → MayBeOf before is_broken position sum count list → ((bytes : List ℕ) → before bytes → after bytes) → MayBeOf after is_broken position sum count list
may_be_still is_broken position sum count list may still =
    record {
      texts = may.texts;
      are_listed = may.are_listed;
      summed = may.summed;
      ends = may.ends;
      counted = may.counted;
      held = λ e. let h = may.held e in (h.0, still h.0 h.1, h.2, h.3);
    }

-- what was read to its end is the log's
pub may_be_read : {holds : List ℕ → Type 0} (is_broken : Bool) (position sum count : ℕ) (bytes : List ℕ) (texts : List (List ℕ))
    → holds bytes → Reads 0 bytes texts → length bytes ≡ extent texts → position ≡ extent texts → sum ≡ sums_over 0 texts → count ≡ length (listed texts)
    → MayBeOf holds is_broken position sum count (listed texts)
may_be_read is_broken position sum count bytes texts held r whole ends summed counted =
    record { texts = texts; are_listed = refl; summed = summed; ends = ends; counted = counted; held = λ _. (bytes, held, r, whole) }

-- the payloads at the start are the log's, once the rest is cut
pub may_be_cut : {holds : List ℕ → Type 0} (is_broken : Bool) (position sum count : ℕ) (bytes : List ℕ) (texts : List (List ℕ))
    → holds (take (extent texts) bytes) → Reads 0 bytes texts → position ≡ extent texts → sum ≡ sums_over 0 texts → count ≡ length (listed texts)
    → MayBeOf holds is_broken position sum count (listed texts)
may_be_cut is_broken position sum count bytes texts held r ends summed counted =
    let f = reads_front 0 bytes texts r in
    may_be_read is_broken position sum count (take (extent texts) bytes) texts held f.0 f.1 ends summed counted
