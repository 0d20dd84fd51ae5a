use Rattle.journal_entry.proofs.Asked.{reads_the_request}
use Rattle.journal_entry.proofs.entry_requests.reads_the_request.Goals as goal

pub returns : goal.returns
returns c = reads_the_request
