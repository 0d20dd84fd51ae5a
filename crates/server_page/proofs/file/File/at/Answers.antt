use Rattle.server_page.proofs.Found.{at_path}
use Rattle.server_page.proofs.file.File.at.Goals as goal

pub returns-clause-at : goal.returns-clause-at
returns-clause-at c = at_path c.args.path.now c.first_at.result c.first_at.ensures
