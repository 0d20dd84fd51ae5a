use Rattle.mds_snapshot.proofs.Fronts.{prefix_self}
use Rattle.mds_snapshot.proofs.Sharing.{sees}
use Rattle.mds_snapshot.proofs.pane.Pane.look.Goals as goal

pub enter_as-requires : goal.enter_as-requires
enter_as-requires g c x = sees _ _ _ x x (prefix_self _) (λ t. t)
