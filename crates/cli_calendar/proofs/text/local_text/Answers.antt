use Rattle.cli_calendar.proofs.Told.{local_made}
use Rattle.cli_calendar.proofs.text.local_text.Goals as goal

pub returns : goal.returns
returns c = local_made c.args.zone.now c.args.at c.millis_of-millis.result c.clock_at-clock.result c.in_ok-text.text.items _ c.millis_of-millis.ensures.value c.clock_at-clock.ensures.value c.in_ok-text.ensures c.in_ok-push_local_end.ensures
