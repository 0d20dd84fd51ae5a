use Rattle.std.proofs.Common.{◌≡◌, ◌++◌, ◌∷◌, [], rules}
use Rattle.std.proofs.lemmas.List.Elements.{All-push}
use Rattle.mds_bitmaps.specs.Index.{IsColumn}
use Rattle.mds_bitmaps.proofs.bitmap_index.put_back.Goals as goal

pub returns : goal.returns
returns c published vehicles is column =
    let kept = IsColumn published vehicles c.args.listed.devices.items c.args.listed.changed.items in
    let more : c.push.new.self.items ≡ c.args.listed.columns.items ++ c.args.column ∷ [] = search rules in
    record {
      devices = is.devices;
      seen = is.seen;
      sinces = is.sinces;
      columns = rw more (All-push kept c.args.listed.columns.items c.args.column is.columns column);
    }
