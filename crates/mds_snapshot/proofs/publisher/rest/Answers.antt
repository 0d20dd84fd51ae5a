use Rattle.std.proofs.Common.{ap, ◌∙◌, [], ◌∷◌, ◌++◌}
use Rattle.mds_snapshot.specs.declared.snapshot_copy.CopyOperation.TheVariants.{Rest}
use Rattle.mds_snapshot.proofs.Sharing.{stays}
use Rattle.mds_snapshot.proofs.publisher.rest.Goals as goal

pub publish_as-requires : goal.publish_as-requires
publish_as-requires g c next is = stays _ _ _ c.append.new.self.desk.shown.value next _ (c.in-Ok.ensures.pending ∙ ap (λ l. l ++ Rest ∷ []) c.requires.idle) is
