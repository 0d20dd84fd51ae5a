use Rattle.std.proofs.Common.{◌≡◌, ◌++◌, ◌==◌, ℕ, true, List, [], ◌∷◌, subst}
use Rattle.std.specs.List.{AllByRecursion}
use Rattle.std.proofs.lemmas.Bool.{eqb-true}
use Rattle.journal_commit.specs.Durable.{AreDurable}
use Rattle.mds_machine.specs.Step.{Exchange}
use Rattle.mds_request.specs.Call.{call_of}
use Rattle.mds_request.specs.Configuration.{Configuration}
use Rattle.journal_laws.specs.Persisted.{is_kept, may_change}
use Rattle.server_durable.specs.Laws.{HasDurableRecord}
use Rattle.server_durable.specs.Many.{SaysAll, exchanges}
use Rattle.server_durable.proofs.Among.{behind_among, later_among}
use Rattle.server_durable.proofs.Accepted.{Recorded}
use Rattle.server_durable.proofs.Turns.{second_true}
use Rattle.server_durable.proofs.laws.many_are_persisted.Goals as goal

each : {P Q : Exchange → Type 0} → ((e : Exchange) → P e → Q e) → (history : List Exchange) → AllByRecursion P history → AllByRecursion Q history
each imply [] all = tt
each imply (e ∷ history) all = (imply e all.0, each imply history all.1)

module _ {L : Type 0} (may_be : L → List (List ℕ) → Type 0) (is_synced : L → Type 0) where
  durable : (configuration : Configuration) (stamp : List (List ℕ)) → AreDurable may_be is_synced stamp
      → (e : Exchange) → Recorded configuration stamp e → is_kept configuration e ≡ true → HasDurableRecord may_be is_synced configuration e.request
  durable configuration stamp all e recorded kept =
      let has = recorded (eqb-true e.reply.status 200 (second_true (may_change (call_of configuration e.request)) (e.reply.status == 200) kept)) in
      let synced = all.2 in
      let here = later_among has.0 stamp all.0 has.2 all.1 in
      (synced.0, synced.1 ++ all.0, synced.2, synced.3, (has.0, has.1, behind_among synced.1 has.0 all.0 here))

pub returns : goal.returns
returns g c configuration openings place requests response stamp carried all =
    let part = carried.answered in (
      part.asked,
      part.unasked,
      part.own,
      part.others,
      part.cut,
      part.run.run,
      subst (SaysAll response) part.told carried.says,
      part.rest,
      each (durable g.L.Log.may_be g.L.Log.is_synced configuration stamp all) (exchanges part.asked part.own) part.run.recorded,
    )
