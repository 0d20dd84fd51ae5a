use Rattle.std.proofs.Common.{◌≡◌, ◌∷◌, sym, ◌∙◌, arith}
use Rattle.mds_text.specs.Quoting.{pieces}
use Rattle.mds_text.proofs.Pieces.{pieces-split, text_turn, quoted_turn, kept_turn, text_end, count_end}
use Rattle.mds_text.proofs.quote.quote_numbers.Goals as goal
use Rattle.mds_text.proofs.quote.quote_numbers.Goals.{then-is_quoted, else-is_quoted}

pub loop-first-preserved : goal.loop-first-preserved
loop-first-preserved c =
    let rest = c.loop-first.rest.now in
    let piece = c.split_at.result.0.now in
    let left = c.split_at.result.1.now in
    let split : pieces rest ≡ piece ∷ pieces left =
    pieces-split rest c.in-Some.first.now c.piece_tail.result c.in-Some.behind.now piece left c.in-Some.ensures.cases.0 c.piece_tail.ensures.value c.split_at.ensures.front c.split_at.ensures.back in
    let before = c.loop-first.invariant.counted in
    record {
      written = text_turn rest piece left c.loop-first.out.items _ _ split c.in_ok-push_piece.ensures c.loop-first.invariant.written;
      counted = elim c.if-is_quoted.branch [
        | then-is_quoted w ↦ quoted_turn rest piece left _ _ _ split (sym c.is_quoted.ensures ∙ w.if-is_quoted.true) w.count-is before
        | else-is_quoted w ↦ kept_turn rest piece left _ _ _ split (sym c.is_quoted.ensures ∙ w.if-is_quoted.false) w.count-is before
      ];
      few = elim c.if-is_quoted.branch [
        | then-is_quoted w ↦ omega (arith, c.split_at.ensures.back_len, c.loop-first.invariant.few)
        | else-is_quoted w ↦ omega (arith, c.split_at.ensures.back_len, c.loop-first.invariant.few)
      ];
    }

pub returns-clause-text : goal.returns-clause-text
returns-clause-text c = text_end c.loop-first.rest.now _ _ c.in_default.ensures.cases c.loop-first.invariant.written

pub returns-clause-count : goal.returns-clause-count
returns-clause-count c = count_end c.loop-first.rest.now _ _ c.in_default.ensures.cases c.loop-first.invariant.counted
