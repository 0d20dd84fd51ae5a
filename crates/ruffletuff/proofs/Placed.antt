-- The room and desks of a server that is started from a log are those of its configuration.
use Rattle.mds_request.specs.Configuration.{Configuration}
use Rattle.server_state.specs.Turn.{AreDesksOf}
use Rattle.journal_recovery.specs.Laws.{IsServerOf}
use Rattle.journal_recovery.specs.Recovery.{Server}

pub desks_of_server : (configuration : Configuration) (s : Server) → IsServerOf configuration s → AreDesksOf configuration s.desks
desks_of_server configuration s is = record {
  long = is.long;
  each = λ place d at. let both = is.desks place d at in record { configured = both.0; placed = both.1 };
}
