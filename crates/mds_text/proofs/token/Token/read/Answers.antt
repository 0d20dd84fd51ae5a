use Rattle.std.proofs.Common.{◌≡◌, true, cond, Some, None, sym, ap, ◌∙◌}
use Rattle.mds_text.specs.Vocabulary.{as_token, is_token}
use Rattle.mds_text.proofs.Tokens.{IsPadded-read, is_token-from, padded-word}
use Rattle.mds_text.proofs.token.Token.read.Goals as goal

pub invariant_of-result : goal.invariant_of-result
invariant_of-result c =
    let word = c.as_bytes-word.result.now in
    let token : is_token word ≡ true =
    is_token-from word (sym c.is_empty.ensures ∙ c.if-is_empty.false) c.if-word-gt-MOST.false (sym c.if-not-has_token_bytes.ensures) in
    rw c.copy_from_slice.ensures.after (IsPadded-read word token)

pub returns : goal.returns
returns c =
    let word = c.as_bytes-word.result.now in
    let token : is_token word ≡ true =
    is_token-from word (sym c.is_empty.ensures ∙ c.if-is_empty.false) c.if-word-gt-MOST.false (sym c.if-not-has_token_bytes.ensures) in
    rw c.copy_from_slice.ensures.after (ap Some (padded-word word token)) ∙ sym (ap (λ b. cond b (Some word) None) token) ∙ ap as_token c.as_bytes-word.ensures.value
