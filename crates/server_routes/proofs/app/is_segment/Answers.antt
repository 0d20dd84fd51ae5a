use Rattle.server_routes.proofs.Segments.{of_filled}
use Rattle.server_routes.proofs.app.is_segment.Goals as goal

pub returns-in-Some : goal.returns-in-Some
returns-in-Some c = of_filled c.args.text.now _ _ c.has_slash.result c.in-Some.ensures.cases.0 c.has_slash.ensures
