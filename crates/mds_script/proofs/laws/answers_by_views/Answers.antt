use Rattle.mds_script.proofs.Histories.{answers_by_views}
use Rattle.mds_script.proofs.laws.answers_by_views.Goals as goal

pub returns : goal.returns
returns c = answers_by_views c.is_meant_from_new.ensures
