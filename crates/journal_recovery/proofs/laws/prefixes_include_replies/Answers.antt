use Rattle.journal_recovery.proofs.Told.{include_replies}
use Rattle.journal_recovery.proofs.laws.prefixes_include_replies.Goals as goal

pub returns : goal.returns
returns c = include_replies
