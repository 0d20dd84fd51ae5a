use Rattle.server_public.proofs.Alike.{everyone_alike}
use Rattle.server_public.proofs.laws.answers_are_of_publications.Goals as goal

pub returns : goal.returns
returns c = everyone_alike
