use Rattle.std.proofs.Common.{◌≡◌, ◌<◌, length, sym, subst, arith}
use Rattle.mds_request.specs.Configuration.{configuration}
use Rattle.server_state.proofs.Openings.{read_at}
use Rattle.server_state.proofs.Placing.{as_many, in_place}
use Rattle.server_state.proofs.hall.Hall.desk.Goals as goal

pub index-requires : goal.index-requires
index-requires g c =
    let hall = c.args.self.now in
    omega (arith, c.requires, hall.desks.ok.0, as_many _ hall.desks.items (length (configuration hall.config.value).operators) hall.in_order)

pub returns-clause-place : goal.returns-clause-place
returns-clause-place g c =
    let hall = c.args.self.now in
    subst (λ lock. lock.place ≡ c.args.place) (sym c.index.ensures)
    (in_place _ hall.desks.items (length (configuration hall.config.value).operators) c.args.place c.index.result.now hall.in_order c.requires)

pub returns-clause-opening : goal.returns-clause-opening
returns-clause-opening g c =
    let hall = c.args.self.now in
    let within : c.args.place < length hall.desks.items =
    omega (arith, c.requires, as_many _ hall.desks.items (length (configuration hall.config.value).operators) hall.in_order) in
    read_at (λ lock. lock.opening.front.seen.log) hall.desks.items c.args.place c.index.result.now within c.index.ensures
