use Rattle.std.proofs.Common.{◌∙◌}
use Rattle.mds_text.proofs.Tokens.{same_words}
use Rattle.mds_text.proofs.token.TokenPartialEq.eq.Goals as goal

pub returns : goal.returns
returns c = rw (← c.self.view_is, ← c.other.view_is) (c.eq.ensures ∙ same_words _ _ c.self.invariant c.other.invariant)
