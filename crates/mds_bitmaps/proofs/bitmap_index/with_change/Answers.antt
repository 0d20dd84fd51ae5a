use Rattle.std.proofs.Common.{◌≡◌, ◌++◌, ◌∷◌, [], sym, ◌∙◌, rules, arith}
use Rattle.std.proofs.lemmas.List.{length_push}
use Rattle.mds_bitmaps.specs.Index.{IsSince}
use Rattle.mds_bitmaps.proofs.Keeping.{noted, noted_columns}
use Rattle.mds_bitmaps.proofs.bitmap_index.with_change.Goals as goal

pub returns : goal.returns
returns c published before after changes is =
    let listed = c.args.listed in
    let devices = listed.devices.items in
    let changed = listed.changed.items in
    let more : c.log_change.new.changed.items ≡ changed ++ c.args.device ∷ [] = search rules in
    record {
      devices = is.devices ∙ sym changes.0;
      seen = rw more (omega (arith, is.seen, length_push changed c.args.device));
      sinces = rw more (noted c.args.device before after changes devices changed IsSince listed.sinces.items listed.seen is.seen is.sinces);
      columns = rw more (noted_columns c.args.device before after changes devices changed published listed.columns.items is.columns);
    }
