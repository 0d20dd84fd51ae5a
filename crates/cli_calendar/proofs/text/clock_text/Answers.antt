use Rattle.cli_calendar.proofs.Told.{clock_made}
use Rattle.cli_calendar.proofs.text.clock_text.Goals as goal

pub returns : goal.returns
returns c = clock_made c.args.clock c.in_ok-text.text.items _ c.in_ok-text.ensures c.in_ok-push_clock.ensures
