use Rattle.std.proofs.Common.{refl, ◌∙◌}
use Rattle.mds_request.proofs.Alike.{author_turn, found_here, found_later}
use Rattle.mds_request.proofs.lookup.tokens_are_alike.Goals as goal

pub returns-then-has_token : goal.returns-then-has_token
returns-then-has_token c =
    found_here _ _ _ _ (author_turn c.args.author.now c.args.operators.now _ c.has_token.result refl c.has_token.ensures) refl c.if-has_token.true

pub returns : goal.returns
returns c =
    c.tokens_repeat.ensures
    ∙ found_later _ _ _ _ (author_turn c.args.author.now c.args.operators.now _ c.has_token.result refl c.has_token.ensures) refl c.if-has_token.false
