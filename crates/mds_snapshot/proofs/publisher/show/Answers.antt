use Rattle.std.proofs.Common.{ap, sym, ◌∙◌, [], ◌∷◌, ◌++◌}
use Rattle.mds_catalog.specs.Catalogue.{publications_of}
use Rattle.mds_catalog.specs.Publication.{publication_of}
use Rattle.mds_snapshot.specs.declared.snapshot_copy.CopyOperation.TheVariants.{Publish}
use Rattle.mds_snapshot.proofs.Sharing.{publishes}
use Rattle.mds_snapshot.proofs.publisher.show.Goals as goal

pub publish_as-requires : goal.publish_as-requires
publish_as-requires g c next is =
    let kept = c.in-Ok.ensures in
    let batch = c.args.batch in
    let trail = c.args.trail in
    publishes _ _ _ c.append.new.self.desk.shown.value next _ batch trail (kept.pending ∙ ap (λ l. l ++ Publish batch trail ∷ []) c.requires.idle) is (rw kept.desk c.requires.lawful)
    (c.requires.front ∙ ap (λ d. publications_of d.shown.value.catalogue ++ publication_of batch.value ∷ []) (sym kept.desk)) c.requires.named
