use Rattle.mds_snapshot.proofs.Sharing.{admits}
use Rattle.mds_snapshot.proofs.publisher.Publisher.pane.Goals as goal

pub reader-requires : goal.reader-requires
reader-requires g c = admits _
