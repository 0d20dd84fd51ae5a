-- What a head asks of the city's state: a call of the protocol, or one next to it.
use Rattle.std.specs.Prelude.{ℕ, List, option_map, unwrap_or, Result, Ok, Err}
use Rattle.server_admission.specs.Cost.{cost_of}
use Rattle.server_admission.specs.declared.cost.Cost.{Cost}
use Rattle.server_admission.specs.declared.cost.Cost.TheVariants.{Free, Shared, Exclusive}
use Rattle.mds_request.specs.Call.{called_at, path_of, segments_of}
use Rattle.mds_request.specs.declared.call.Call.{Call}
use Rattle.mds_request.specs.declared.code.Code.{Code}
use Rattle.mds_request.specs.declared.code.Code.TheVariants.{BadId, Role, Token}
use Rattle.mds_request.specs.declared.config.Actor.{Actor}
use Rattle.mds_request.specs.declared.config.Actor.TheVariants.{Author, Operator, Nobody}
use Rattle.mds_request.specs.declared.request.Verb.{Verb}
use Rattle.server_routes.specs.App.{app_at}
use Rattle.server_routes.specs.declared.app.AppCall.{AppCall}
use Rattle.server_routes.specs.declared.app.AppCall.TheVariants.{Events, Fleet, FleetOf, NoOperator, Told}
use Rattle.server_routes.specs.declared.app.FleetView.TheVariants.{Compliance, Vehicles}
use Rattle.server_routes.specs.declared.app.Question.TheVariants.{Whoami, Drafts}
use Rattle.server_routes.specs.declared.state.StateCall.{StateCall}
use Rattle.server_routes.specs.declared.state.FleetQuestion.TheVariants.{Own, Of, EachCompliance}
use Rattle.server_routes.specs.declared.state.StateCall.TheVariants.{Call as OfProtocol, Reports, AuthorAsks, OperatorAsks, AsksFleet}

-- A call outside the protocol's, by its client. Only an operator sends reports, only the author sees drafts, and only
-- the author asks for another's fleet; it has no vehicles of its own.
abbrev pub app_call : Actor → Result AppCall Code → Result StateCall Code
app_call Nobody found = Err Token
app_call Author (Err code) = Err code
app_call Author (Ok Events) = Err Role
app_call Author (Ok (Told question)) = Ok (AuthorAsks question)
app_call Author (Ok (Fleet Compliance)) = Ok (AsksFleet EachCompliance)
app_call Author (Ok (Fleet Vehicles)) = Err Role
app_call Author (Ok (FleetOf view id)) = Ok (AsksFleet (Of view id))
app_call Author (Ok NoOperator) = Err BadId
app_call (Operator place) (Err code) = Err code
app_call (Operator place) (Ok Events) = Ok (Reports place)
app_call (Operator place) (Ok (Told Drafts)) = Err Role
app_call (Operator place) (Ok (Told question)) = Ok (OperatorAsks place question)
app_call (Operator place) (Ok (Fleet view)) = Ok (AsksFleet (Own place view))
app_call (Operator place) (Ok (FleetOf view id)) = Err Role
app_call (Operator place) (Ok NoOperator) = Err Role

-- a call of the protocol
abbrev pub own_call : Result Call Code → Result StateCall Code
own_call (Ok call) = Ok (OfProtocol call)
own_call (Err code) = Err code

-- The path says which of the two it is.
abbrev pub state_call : Actor → Verb → List ℕ → Result StateCall Code
state_call actor verb target =
    unwrap_or (option_map (app_call actor) (app_at verb (path_of target))) (own_call (called_at actor verb (segments_of target)))

-- A refusal and `Whoami` take nothing of the queue. A call of the protocol has its own cost; many reports and views of
-- fleets may take long.
abbrev pub state_cost : Result StateCall Code → ℕ → Cost
state_cost (Err code) length = Free
state_cost (Ok (OfProtocol call)) length = cost_of call length
state_cost (Ok (Reports place)) length = Exclusive
state_cost (Ok (AuthorAsks Whoami)) length = Free
state_cost (Ok (AuthorAsks question)) length = Shared
state_cost (Ok (OperatorAsks place Whoami)) length = Free
state_cost (Ok (OperatorAsks place question)) length = Shared
state_cost (Ok (AsksFleet question)) length = Exclusive
