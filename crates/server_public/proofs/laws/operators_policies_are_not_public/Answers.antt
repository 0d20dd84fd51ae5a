use Rattle.server_public.proofs.Alike.{face_alike}
use Rattle.server_public.proofs.laws.operators_policies_are_not_public.Goals as goal

pub returns : goal.returns
returns c = face_alike
