-- A desk and the author's room may be passed to another thread, field by field.
use denote.RattleType.{RattleType}
use denote.Param.Send.{IsSend, sendable}
use denote.Param.SendFields.{declared_send}
use Rattle.std.proofs.Crossing.{crosses, send}
use Rattle.mds_snapshot.specs.declared.history.OpeningName.{Ghosts}
use Rattle.mds_desk.proofs.Crossing.{drafts_send, pane_send, publisher_send}
use Rattle.mds_desk.proofs.Routing.{routes_send, routes_sync}
use Rattle.mds_request.proofs.config.Config.TheSendSync as config
use Rattle.mds_desk.proofs.shared_cache.SharedCache.TheSendSync as cache
use Rattle.mds_fleet.proofs.book.Book.TheSendSync as book
use Rattle.mds_desk.specs.contracts.desk.Desk as Desk
use Rattle.mds_desk.specs.contracts.context.DeskContext as DeskContext
use Rattle.mds_desk.specs.contracts.author.AuthorRoom as AuthorRoom

module _ (K : RattleType) (g : Ghosts K.Denot) where
  context_send : IsSend (DeskContext.the_row K g)
  context_send =
      let cs = config.the_send in
      let cy = config.the_sync in
      let rs = routes_send in
      let ry = routes_sync in
      declared_send (DeskContext.the_type K g)
      (send, (search (sendable, crosses) depth 20, (search (sendable, crosses) depth 20, (cache.the_send K g, (search (sendable, crosses) depth 20, tt)))))

  pub desk_send : IsSend (Desk.the_row K g)
  desk_send = declared_send (Desk.the_type K g) (context_send, (book.the_send, (pane_send K g, tt)))

  pub room_send : IsSend (AuthorRoom.the_row K g)
  room_send =
      let cs = config.the_send in
      let cy = config.the_sync in
      let rs = routes_send in
      let ry = routes_sync in
      declared_send (AuthorRoom.the_type K g)
      (send, (search (sendable, crosses) depth 20, (search (sendable, crosses) depth 20, (drafts_send, (publisher_send K g, (cache.the_send K g, tt))))))
