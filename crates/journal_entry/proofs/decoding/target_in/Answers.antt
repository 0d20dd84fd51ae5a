use Rattle.std.proofs.Common.{◌≡◌, ℕ, ◌+◌, ◌<◌, ◌≤◌, List, ◌++◌, length, take, drop, ap, sym, ◌∙◌, arith}
use Rattle.std.proofs.lemmas.List.{length-append, take-append-drop}
use Rattle.journal_entry.specs.declared.entry.TheConstants.{MOST_TARGET}
use Rattle.journal_entry.specs.Entries.{size_text}
use Rattle.journal_entry.proofs.Spelled.{size_length, same_size, size_fits}
use Rattle.journal_entry.proofs.decoding.target_in.Goals as goal

pub returns-in_default : goal.returns-in_default
returns-in_default c target rest small e = absurd (omega (arith, c.in_default.ensures, ap length e, length-append (size_text (length target)) (target ++ rest), size_length (length target)))

pub returns-then-size-gt-MOST_TARGET : goal.returns-then-size-gt-MOST_TARGET
returns-then-size-gt-MOST_TARGET c target rest small e =
    let same = same_size c.in-Some.size (length target) c.in-Some.rest.now (target ++ rest) c.in-Some.ensures.1 (size_fits target small) (sym c.in-Some.ensures.0 ∙ e) in
    absurd (omega (arith, same.0, small, ap length same.1, length-append target rest))

pub returns : goal.returns
returns c =
    let long : length c.split_at.result.0.now ≡ c.in-Some.size = c.split_at.ensures.front_len in
    let whole : c.split_at.result.0.now ++ c.split_at.result.1.now ≡ c.in-Some.rest.now = rw (c.split_at.ensures.front, c.split_at.ensures.back) (take-append-drop c.in-Some.size c.in-Some.rest.now) in
    (rw (long, whole) c.in-Some.ensures.0, omega (arith, long, c.if-size-gt-MOST_TARGET.false))
