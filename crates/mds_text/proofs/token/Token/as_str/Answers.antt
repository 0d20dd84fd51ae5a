use Rattle.mds_text.proofs.Tokens.{IsUtf8-token}
use Rattle.mds_text.proofs.token.Token.as_str.Goals as goal

pub from_utf8_unchecked-requires : goal.from_utf8_unchecked-requires
from_utf8_unchecked-requires c = rw c.word_len-len.ensures.value (IsUtf8-token _ c.self.invariant.token)
