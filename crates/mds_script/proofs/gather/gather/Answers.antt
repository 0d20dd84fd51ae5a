use Rattle.mds_script.specs.Input.{is_feed}
use Rattle.std.proofs.Common.{◌≡◌, ◌+◌, take, drop, position, Some, None, sym, ap, ◌∙◌}
use Rattle.mds_script.proofs.Gathered.{feed_splits, feed_first, feed_length, feed_missing}
use Rattle.mds_script.proofs.gather.gather.Goals as goal

pub returns-in-Some-clause-gathers : goal.returns-in-Some-clause-gathers
returns-in-Some-clause-gathers c =
    let bytes = c.args.bytes.now in
    let place = c.in-Some.at in
    let at : position is_feed bytes ≡ Some place = sym c.position_of.ensures ∙ c.in-Some.is in
    (take place bytes, drop (place + 1) bytes, feed_splits bytes place at, feed_first bytes place at, ap (λ n. n + 1) (sym (feed_length bytes place at)), c.append_within_limit.ensures.items)

pub returns-in-None-clause-gathers : goal.returns-in-None-clause-gathers
returns-in-None-clause-gathers c =
    let bytes = c.args.bytes.now in
    let at : position is_feed bytes ≡ None = sym c.position_of.ensures ∙ c.in-None.is in
    (feed_missing bytes at, c.append_within_limit-in-None.ensures.items)
