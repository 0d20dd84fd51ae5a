use Rattle.server_app.proofs.Badged.{text_badged}
use Rattle.server_app.proofs.laws.configurations_have_names.Goals as goal

pub returns : goal.returns
returns c bytes configuration is = text_badged bytes configuration is
