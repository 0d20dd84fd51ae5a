-- The rows of vehicles that ascend by device id ascend too.
use Rattle.std.proofs.Common.{Bor, List, map, sym, subst}
use Rattle.std.proofs.lemmas.Simd.{map-map}
use Rattle.std.specs.List.Sorted.{IsStrictlySortedBy}
use Rattle.mds_match.specs.Row.{row_of}
use Rattle.mds_match.specs.declared.vehicle.Vehicle.{Vehicle}
use Rattle.mds_fleet.specs.Books.{device_cmp}
use Rattle.mds_verdict.specs.Verdict.{Ascends}

pub ascends : (vehicles : List (Bor Vehicle)) → IsStrictlySortedBy device_cmp (map (λ v. v.now.device) vehicles)
    → Ascends (map (λ v. row_of v.now) vehicles)
ascends vehicles h =
    subst (IsStrictlySortedBy device_cmp) (sym (map-map (λ row. row.device) (λ v. row_of v.now) vehicles)) h
