use Rattle.std.proofs.Common.{◌≡◌, ◌&&◌, true, ◌∙◌, sym, ap}
use Rattle.std.specs.Str.{bytes_eq}
use Rattle.mds_match.specs.Row.{row_of}
use Rattle.mds_parallel.proofs.table.is_of.Goals as goal

pub returns-then-eq : goal.returns-then-eq
returns-then-eq c =
    let pair = c.args.pair.now in
    let row = row_of c.args.vehicle.now in
    let same_type : true ≡ bytes_eq pair.vehicle_type row.vehicle_type =
    sym c.if-eq.true ∙ c.eq.ensures ∙ ap (bytes_eq pair.vehicle_type) c.vehicle_type.ensures in
    c.eq-then-eq.ensures ∙ ap (bytes_eq pair.state) c.state.ensures ∙ ap (λ b. b && bytes_eq pair.state row.state) same_type
