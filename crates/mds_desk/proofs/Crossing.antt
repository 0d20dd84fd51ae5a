-- What has published documents or drafts may cross threads: batches, catalogues, panes, publishers, drafts. The lemma
-- of a field is in the `TheSendSync` of its type.
use denote.RattleType.{RattleType}
use denote.Builtin.{Array}
use denote.Param.Send.{IsSend, IsSync, sendable, view_send}
use denote.Param.SendFields.{declared_send, declared_sync, variants_send}
use Rattle.std.proofs.Crossing.{crosses, send, sync, frees}
use Rattle.left_right.proofs.reader.Reader.TheSendSync as reader
use Rattle.left_right.proofs.writer.Writer.TheSendSync as writer
use Rattle.mds_text.proofs.id.Id.TheSendSync as id
use Rattle.mds_text.proofs.moment.Moment.TheSendSync as moment
use Rattle.mds_policy.proofs.policy.Policy.TheSendSync as policy
use Rattle.mds_policy.specs.contracts.policy.Policy as Policy
use Rattle.mds_geography.proofs.geography.Geography.TheSendSync as geography
use Rattle.mds_json.proofs.node_buffer.ReusableScratch.TheSendSync as scratch
use Rattle.mds_drafts.specs.contracts.draft.Draft as Draft
use Rattle.mds_drafts.specs.contracts.drafts.Drafts as Drafts
use Rattle.mds_catalog.proofs.policy_index.PolicyEntry.TheSendSync as entry
use Rattle.mds_catalog.proofs.document_index.DocumentSpot.TheSendSync as spot
use Rattle.mds_catalog.specs.contracts.batch.Batch as Batch
use Rattle.mds_catalog.specs.contracts.catalogue.Catalogue as Catalogue
use Rattle.mds_snapshot.proofs.history.NewHistory.TheSendSync as start
use Rattle.mds_snapshot.proofs.history.PublishedFront.TheSendSync as front
use Rattle.mds_snapshot.proofs.history.PublicationsHead.TheSendSync as ledger
use Rattle.mds_snapshot.proofs.history.UnnamedFront.TheSendSync as trail
use Rattle.mds_snapshot.specs.declared.history.OpeningName.{Ghosts}
use Rattle.mds_snapshot.specs.contracts.blank.Blank as Blank
use Rattle.mds_snapshot.specs.contracts.history.LoggedBatch as LoggedBatch
use Rattle.mds_snapshot.specs.contracts.pane.Pane as Pane
use Rattle.mds_snapshot.specs.contracts.pane.Pane.TheInside as PaneInside
use Rattle.mds_snapshot.specs.contracts.publisher.Publisher as Publisher
use Rattle.mds_snapshot.specs.contracts.publisher.Publisher.TheInside as PublisherInside
use Rattle.mds_snapshot.specs.contracts.rule.Fronts as Fronts
use Rattle.mds_snapshot.specs.contracts.rule.FrontsProtocolSnapshotCopyArrayLoggedBatch0.TheImpl as fronts
use Rattle.mds_snapshot.specs.contracts.snapshot_copy.CopyOperation as CopyOperation
use Rattle.mds_snapshot.specs.contracts.snapshot_copy.SnapshotCopy as SnapshotCopy
use Rattle.mds_snapshot.specs.contracts.snapshot_copy.SnapshotCopyAbsorbCopyOperation.TheImpl as absorb

pub policy_send : IsSend Policy.the_row
policy_send = policy.the_send

pub policy_sync : IsSync Policy.the_row
policy_sync = policy.the_sync

pub batch_send : IsSend Batch.the_row
batch_send =
    let s = policy_send in
    let y = policy_sync in
    let gs = geography.the_send in
    let gy = geography.the_sync in
    let i = id.the_send in
    declared_send Batch.the_type (moment.the_send, (search (sendable, crosses) depth 20, (search (sendable, crosses) depth 20, (search (sendable, crosses) depth 20, (search (sendable, crosses) depth 20, (search (sendable, crosses) depth 20, tt))))))

pub batch_sync : IsSync Batch.the_row
batch_sync =
    let s = policy_send in
    let y = policy_sync in
    let gs = geography.the_send in
    let gy = geography.the_sync in
    let i = id.the_sync in
    declared_sync Batch.the_type (moment.the_sync, (search (sendable, crosses) depth 20, (search (sendable, crosses) depth 20, (search (sendable, crosses) depth 20, (search (sendable, crosses) depth 20, (search (sendable, crosses) depth 20, tt))))))

pub catalogue_send : IsSend Catalogue.the_row
catalogue_send =
    let s = batch_send in
    let y = batch_sync in
    let e = entry.the_send in
    let p = spot.the_send in
    declared_send Catalogue.the_type
    (search (sendable, crosses) depth 20, (search (sendable, crosses) depth 20, (search (sendable, crosses) depth 20, (search (sendable, crosses) depth 20, (search (sendable, crosses) depth 20, tt)))))

pub catalogue_sync : IsSync Catalogue.the_row
catalogue_sync =
    let s = batch_send in
    let y = batch_sync in
    let e = entry.the_sync in
    let p = spot.the_sync in
    declared_sync Catalogue.the_type
    (search (sendable, crosses) depth 20, (search (sendable, crosses) depth 20, (search (sendable, crosses) depth 20, (search (sendable, crosses) depth 20, (search (sendable, crosses) depth 20, tt)))))

shown_send : IsSend SnapshotCopy.the_row
shown_send = declared_send SnapshotCopy.the_type (catalogue_send, (trail.the_send, tt))

shown_sync : IsSync SnapshotCopy.the_row
shown_sync = declared_sync SnapshotCopy.the_type (catalogue_sync, (trail.the_sync, tt))

operation_send : IsSend CopyOperation.the_row
operation_send =
    let s = batch_send in
    let y = batch_sync in
    variants_send CopyOperation.enum (tt, ((search (sendable, crosses) depth 20, (trail.the_send, tt)), tt))

draft_send : IsSend Draft.the_row
draft_send =
    let s = policy_send in
    let y = policy_sync in
    let gs = geography.the_send in
    let gy = geography.the_sync in
    variants_send Draft.enum ((search (sendable, crosses) depth 20, tt), ((search (sendable, crosses) depth 20, tt), tt))

pub drafts_send : IsSend Drafts.the_row
drafts_send =
    let s = draft_send in
    let r = scratch.the_send in
    declared_send Drafts.the_type
    (search (sendable, crosses) depth 20, (search (sendable, crosses) depth 20, (search (sendable, crosses) depth 20, (r, tt))))

pub blank_send : IsSend Blank.the_row
blank_send = declared_send Blank.the_type (start.the_send, (catalogue_send, (catalogue_send, (catalogue_send, tt))))

module _ (K : RattleType) (g : Ghosts K.Denot) where
  pane_inside : IsSend (PaneInside.the_row K g)
  pane_inside =
      declared_send (PaneInside.the_type K g)
      (reader.the_send SnapshotCopy.the_row (Array LoggedBatch.the_row tt 0) (Fronts.the_row K) _ (fronts.ghosts K g fronts.no_dict) _ send shown_sync sync frees, (front.the_send K g, tt))

  pub pane_send : IsSend (Pane.the_row K g)
  pane_send = view_send _ _ _ _ _ pane_inside

  publisher_inside : IsSend (PublisherInside.the_row K g)
  publisher_inside =
      declared_send (PublisherInside.the_type K g) (
        writer.the_send SnapshotCopy.the_row CopyOperation.the_row (Array LoggedBatch.the_row tt 0) (Fronts.the_row K) _ _ absorb.ghosts (fronts.ghosts K g fronts.no_dict) _ shown_send operation_send send shown_sync sync frees,
        (ledger.the_send K g, (front.the_send K g, (catalogue_send, (search sendable depth 20, tt)))),
      )

  pub publisher_send : IsSend (Publisher.the_row K g)
  publisher_send = view_send _ _ _ _ _ publisher_inside
