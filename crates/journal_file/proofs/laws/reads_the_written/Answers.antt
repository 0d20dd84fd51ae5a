use Rattle.journal_file.proofs.Written.{written_first}
use Rattle.journal_file.proofs.laws.reads_the_written.Goals as goal

pub returns : goal.returns
returns c = written_first
