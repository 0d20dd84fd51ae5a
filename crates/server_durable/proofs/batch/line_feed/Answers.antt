use Rattle.std.proofs.Common.{ℕ, Bool, List, ◌<◌, length, Option, Some, None, IfSome}
use Rattle.memchr.specs.Find.{IsFirstByte}
use Rattle.mds_script.specs.Input.{is_feed}
use Rattle.mds_script.proofs.Positions.{first_is_position}
use Rattle.server_durable.proofs.batch.line_feed.Goals as goal

found_within : (p : ℕ → Bool) (text : List ℕ) (found : Option ℕ) → IsFirstByte p text found → IfSome found (λ end. end < length text)
found_within p text None first = tt
found_within p text (Some end) first = first.0.high

pub returns-clause-place : goal.returns-clause-place
returns-clause-place c = first_is_position is_feed c.args.text.now c.memchr.result c.memchr.ensures

pub returns-clause-within : goal.returns-clause-within
returns-clause-within c = found_within is_feed c.args.text.now c.memchr.result c.memchr.ensures
