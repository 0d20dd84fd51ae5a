-- What is told of the past is what the server would have answered then.
use Rattle.std.specs.Prelude.{◌≡◌, ℕ, List, Some, Ok, slice_get}
use Rattle.journal_entry.specs.Entries.{Entry}
use Rattle.journal_folder.specs.Choosing.{in_time}
use Rattle.journal_samples.specs.Servers.{AreOf}
use Rattle.mds_machine.specs.Step.{Exchange, Run, State, answered, new_state}
use Rattle.mds_request.specs.Configuration.{Configuration, Operator, read_configuration}
use Rattle.server_durable.specs.FleetViews.{own_request}
use Rattle.server_routes.specs.declared.app.FleetView.{FleetView}
use Rattle.server_past.specs.Past.{own_reply}

-- An operator's reply of the past is the one that a server would have answered it to its own request for the view at that
-- moment, which had done, each with success, what the entries tell in front of the first later one, and nothing else.
abbrev pub PastRepliesAreAnswers : Type 0
PastRepliesAreAnswers =
    (text : List ℕ) (configuration : Configuration) (place : ℕ) (operator : Operator) (view : FleetView) (t : ℕ) (entries : List Entry)
    (history : List Exchange) (w : State)
    → read_configuration text ≡ Ok configuration → slice_get configuration.operators place ≡ Some operator
    → AreOf configuration (in_time (Some t) entries) history → Run (new_state configuration) history w
    → own_reply configuration entries view t place ≡ (answered w (own_request operator view t)).0
