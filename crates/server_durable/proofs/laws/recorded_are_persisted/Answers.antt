use Rattle.std.proofs.Common.{◌++◌}
use Rattle.server_durable.proofs.Among.{behind_among, later_among}
use Rattle.server_durable.proofs.laws.recorded_are_persisted.Goals as goal

pub returns : goal.returns
returns g c configuration openings request response stamp carried durable =
    let synced = durable.2 in (
      carried.reply,
      carried.turn.turn,
      carried.says,
      λ kept.
          let has = carried.turn.recorded kept in
          let here = later_among has.0 stamp durable.0 has.2 durable.1 in
          (synced.0, synced.1 ++ durable.0, synced.2, synced.3, (has.0, has.1, behind_among synced.1 has.0 durable.0 here)),
    )
