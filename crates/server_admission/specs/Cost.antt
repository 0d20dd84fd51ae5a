-- What an answer takes of its client's queue.
use Rattle.std.specs.Prelude.{ℕ, nat_le, if◌then◌else◌}
use Rattle.mds_request.specs.declared.call.AuthorCall.{AuthorCall}
use Rattle.mds_request.specs.declared.call.AuthorCall.TheVariants as author
use Rattle.mds_request.specs.declared.call.OperatorCall.{OperatorCall}
use Rattle.mds_request.specs.declared.call.OperatorCall.TheVariants as operator
use Rattle.mds_request.specs.declared.call.Call.{Call}
use Rattle.mds_request.specs.declared.call.Call.TheVariants.{Author, Operator}
use Rattle.server_admission.specs.declared.cost.Cost.{Cost}
use Rattle.server_admission.specs.declared.cost.Cost.TheVariants.{Shared, Exclusive}
use Rattle.server_admission.specs.declared.limits.TheConstants.{SMALL_BODY}

-- published documents are cached; every other answer to the author may take long
abbrev pub author_cost : AuthorCall → Cost
author_cost author.Policies = Shared
author_cost (author.Policy id) = Shared
author_cost author.Geographies = Shared
author_cost (author.Geography id) = Shared
author_cost call = Exclusive

-- published documents are cached, and a small report is one entry of a fleet; every other answer to an operator may
-- take long
abbrev pub operator_cost : OperatorCall → ℕ → Cost
operator_cost operator.Policies length = Shared
operator_cost (operator.Policy id) length = Shared
operator_cost operator.Geographies length = Shared
operator_cost (operator.Geography id) length = Shared
operator_cost operator.Report length = if nat_le length SMALL_BODY then Shared else Exclusive
operator_cost call length = Exclusive

abbrev pub cost_of : Call → ℕ → Cost
cost_of (Author call) length = author_cost call
cost_of (Operator place call) length = operator_cost call length
