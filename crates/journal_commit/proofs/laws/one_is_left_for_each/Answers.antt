use Rattle.std.proofs.Common.{◌≡◌, arith, ap}
use Rattle.std.proofs.lemmas.List.Sums.{sum_by-append}
use Rattle.journal_commit.specs.Shares.{texts_kept, bytes_kept, both}
use Rattle.journal_commit.proofs.Sharing.{in_parts}
use Rattle.journal_commit.proofs.laws.one_is_left_for_each.Goals as goal

pub returns : goal.returns
returns c before after own all more without shared counted =
    let texts = in_parts texts_kept before after own in
    let bytes = in_parts bytes_kept before after own in
    let texts' = in_parts texts_kept before after (both own more) in
    let bytes' = in_parts bytes_kept before after (both own more) in
    let texts_others = sum_by-append texts_kept before after in
    let bytes_others = sum_by-append bytes_kept before after in (
      λ may. (omega (arith, texts, texts', texts_others, shared.0, counted.0, may.2), omega (arith, bytes, bytes', bytes_others, shared.1, counted.1, may.3)),
      λ nothing one least.
          let no_texts : own.texts ≡ 0 = ap (λ u. u.texts) nothing in
          let no_bytes : own.bytes ≡ 0 = ap (λ u. u.bytes) nothing in (
            omega arith,
            omega arith,
            omega (arith, texts, texts_others, shared.0, counted.0),
            omega (arith, bytes, bytes_others, shared.1, counted.1),
          ),
    )
