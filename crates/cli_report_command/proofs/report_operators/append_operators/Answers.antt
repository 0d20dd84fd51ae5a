use Rattle.std.proofs.Common.{◌<◌, ℕ, length, sym, subst}
use Rattle.std.specs.Prelude.{All}
use Rattle.std.proofs.lemmas.List.Elements.{All-take}
use Rattle.mds_request.specs.Configuration.{configuration}
use Rattle.cli_report_command.proofs.report_operators.append_operators.Goals as goal

pub parts_of-requires-after_bounds : goal.parts_of-requires-after_bounds
parts_of-requires-after_bounds g c κs within =
    let here : ℕ → Type 0 = λ place. place < length (configuration c.args.source.now.config.now).operators in
    subst (All here) (sym c.next_places.ensures.next) (All-take here c.most_at_once-most.result c.rounds.left.now c.rounds.invariant)
