use Rattle.cli_calendar.proofs.Told.{utc_made}
use Rattle.cli_calendar.proofs.text.utc_text.Goals as goal

pub returns : goal.returns
returns c = utc_made c.args.at c.millis_of-millis.result c.in_ok-text.text.items _ c.millis_of-millis.ensures.value c.in_ok-text.ensures c.in_ok-push_utc_end.ensures
