use Rattle.cli_calendar.proofs.Told.{day_made}
use Rattle.cli_calendar.proofs.text.date_text.Goals as goal

pub returns : goal.returns
returns c = day_made c.args.day c.date_of-date.result _ _ c.date_of-date.ensures c.new-text.ensures.items c.in_ok-push_date.ensures
