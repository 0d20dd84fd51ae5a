use Rattle.server_durable.proofs.OwnViews.{leaves_rows}
use Rattle.server_durable.proofs.laws.views_leave_vehicles.Goals as goal

pub returns : goal.returns
returns c = leaves_rows
