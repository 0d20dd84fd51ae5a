-- The public documents may be shared by threads.
use denote.RattleType.{RattleType}
use denote.Param.Send.{IsSend, IsSync, sendable}
use denote.Param.SendFields.{declared_send, declared_sync}
use Rattle.std.proofs.Crossing.{crosses}
use Rattle.mds_snapshot.specs.declared.history.OpeningName.{Ghosts as Openings}
use Rattle.server_state.specs.declared.hall_name.HallName.{Ghosts as Names}
use Rattle.mds_snapshot.proofs.note.Note.TheSendSync as note
use Rattle.server_public.proofs.public_documents.PublicDocuments.TheSendSync as face
use Rattle.server_public.specs.contracts.cached_documents.CachedDocuments as CachedDocuments
use Rattle.server_public.specs.contracts.public_cache.PublicCache as PublicCache

module _ (K : RattleType) (k : Names K.Denot) (o : Openings K.Denot) where
  shown_send : IsSend (CachedDocuments.the_row K k o)
  shown_send =
      let n = note.the_send K o in
      let f = face.the_send in
      declared_send (CachedDocuments.the_type K k o) (search (sendable, crosses) depth 20, (search (sendable, crosses) depth 20, tt))

  shown_sync : IsSync (CachedDocuments.the_row K k o)
  shown_sync =
      let n = note.the_sync K o in
      let f = face.the_sync in
      declared_sync (CachedDocuments.the_type K k o) (search (sendable, crosses) depth 20, (search (sendable, crosses) depth 20, tt))

  pub window_send : IsSend (PublicCache.the_row K k o)
  window_send =
      let s = shown_send in
      let y = shown_sync in
      declared_send (PublicCache.the_type K k o) (search (sendable, crosses) depth 20, (search (sendable, crosses) depth 20, tt))

  pub window_sync : IsSync (PublicCache.the_row K k o)
  window_sync =
      let s = shown_send in
      let y = shown_sync in
      declared_sync (PublicCache.the_type K k o) (search (sendable, crosses) depth 20, (search (sendable, crosses) depth 20, tt))
