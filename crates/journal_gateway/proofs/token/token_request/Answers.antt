use Rattle.std.proofs.Common.{refl}
use Rattle.journal_gateway.proofs.token.token_request.Goals as goal

pub returns : goal.returns
returns c =
    rw (c.into_inner.ensures.items, c.in_ok-end_object.ensures.room.0, c.in_ok-end_object.ensures.ok, c.in_ok-string-2.ensures.room.0, c.in_ok-string-2.ensures.ok, c.in_ok-key-2.ensures.room.0, c.in_ok-key-2.ensures.ok, c.in_ok-string.ensures.room.0, c.in_ok-string.ensures.ok, c.in_ok-key.ensures.room.0, c.in_ok-key.ensures.ok, c.in_ok-begin_object.ensures.room.0, c.in_ok-begin_object.ensures.ok, c.new-writer.ensures.before, c.new-writer.ensures.tokens, c.new.ensures.items) refl
