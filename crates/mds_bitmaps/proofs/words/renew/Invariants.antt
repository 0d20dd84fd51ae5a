use Rattle.std.proofs.Common.{◌≡◌, length, drop}
use Rattle.mds_bitmaps.specs.Index.{AreKept}
use Rattle.mds_bitmaps.proofs.words.renew.Given as goal

-- the words of the devices so far are computed again
abbrev pub invariant-loop-device : goal.invariant-loop-device
invariant-loop-device g l = record {
  long : length l.words ≡ length l.fn.words;
  kept : AreKept (g.W.VehicleWord.is l.word) l.vehicles l.devices l.words (drop l.device-index l.changed);
}
