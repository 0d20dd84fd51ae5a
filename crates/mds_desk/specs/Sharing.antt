-- Which calls are answered once their snapshot is left.
use Rattle.std.specs.Prelude.{Bool, true, false}
use Rattle.mds_request.specs.declared.call.OperatorCall.{OperatorCall}
use Rattle.mds_request.specs.declared.call.OperatorCall.TheVariants as call

-- the answer to the call takes the longer the more vehicles the operator has
abbrev pub grows_with_fleet : OperatorCall → Bool
grows_with_fleet call.Policies = false
grows_with_fleet (call.Policy id) = false
grows_with_fleet call.Geographies = false
grows_with_fleet (call.Geography id) = false
grows_with_fleet call.Report = false
grows_with_fleet call.Vehicles = true
grows_with_fleet (call.RemoveVehicle device) = false
grows_with_fleet call.Compliance = true
grows_with_fleet (call.PolicyCompliance id) = true
