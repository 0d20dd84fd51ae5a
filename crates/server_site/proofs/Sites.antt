-- A site may be shared by threads, where its runtime handle, its evaluator and what its journals come from may be, and
-- where the space for records may be passed to another thread.
use denote.RattleType.{RattleType}
use denote.Ref.{NamedLft}
use denote.Param.Send.{IsSend, IsSync, sendable}
use denote.Param.SendFields.{declared_send, declared_sync}
use Rattle.std.proofs.Crossing.{crosses}
use Rattle.mds_snapshot.specs.declared.history.OpeningName.{Ghosts as Openings}
use Rattle.server_state.specs.declared.hall_name.HallName.{Ghosts as Names}
use Rattle.journal_file.specs.declared.log.Log.{Ghosts as Logs}
use Rattle.journal_commit.specs.declared.history.LogName.{Ghosts as Books}
use Rattle.journal_commit.specs.declared.space.Space.{Ghosts as Spaces}
use Rattle.server_control.proofs.counters.Counters.TheSendSync as counters
use Rattle.server_page.proofs.page.Page.TheSendSync as page
use Rattle.server_admission.proofs.moments.MachineClock.TheSendSync as clock
use Rattle.server_public.proofs.Publics.{window_send, window_sync}
use Rattle.server_past.proofs.past_fleets.PastFleets.TheSendSync as past
use Rattle.server_durable.proofs.Cities.{reception_send, reception_sync}
use Rattle.server_site.specs.contracts.site.Site as Site

module _ (κ : NamedLft) (K N L S R E P : RattleType) (k : Names K.Denot) (o : Openings K.Denot) (n : Books N.Denot) (l : Logs L.Denot) (s : Spaces S.Denot) where
  pub site_send : IsSend R → IsSend E → IsSend P → IsSend S → IsSend (Site.the_row κ K N L S R E P k o n l s)
  site_send r e j space =
      let p = page.the_send in
      let w = window_send K k o in
      let c = counters.the_sync in
      let state = reception_send K N R E _ L S k o n l s r e (clock.the_send _ r) space in
      let fleets = past.the_send _ j in
      declared_send (Site.the_type κ K N L S R E P k o n l s)
      (search (sendable, crosses) depth 20, (search (sendable, crosses) depth 20, (state, (fleets, (search (sendable, crosses) depth 20, tt)))))

  pub site_sync : IsSync R → IsSync E → IsSync P → IsSend S → IsSync (Site.the_row κ K N L S R E P k o n l s)
  site_sync r e j space =
      let p = page.the_sync in
      let w = window_sync K k o in
      let c = counters.the_sync in
      let state = reception_sync K N R E _ L S k o n l s r e (clock.the_sync _ r) space in
      let fleets = past.the_sync _ j in
      declared_sync (Site.the_type κ K N L S R E P k o n l s)
      (search (sendable, crosses) depth 20, (search (sendable, crosses) depth 20, (state, (fleets, (search (sendable, crosses) depth 20, tt)))))
