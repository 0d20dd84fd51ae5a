use Rattle.std.proofs.Common.{◌≡◌, length, map, take, drop}
use Rattle.std.specs.BTreeMap.{values}
use Rattle.mds_match.specs.Row.{row_of}
use Rattle.mds_bitmaps.specs.Index.{AreRead}
use Rattle.mds_bitmaps.proofs.words.all_words.Given as goal

-- the words so far
abbrev pub invariant-loop-vehicle : goal.invariant-loop-vehicle
invariant-loop-vehicle g l = record {
  rest : l.vehicle-iterator ≡ drop (length l.words.items) (values l.vehicles);
  read : AreRead (g.W.VehicleWord.is l.word) (map (λ v. row_of v.value) (take (length l.words.items) (values l.vehicles))) l.words.items;
}
