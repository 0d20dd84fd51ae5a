use Rattle.std.proofs.Common.{Ok, sym, ap, ◌∙◌}
use Rattle.std.specs.Prelude.{option_copied}
use Rattle.mds_request.specs.Call.{call_of}
use Rattle.mds_request.specs.Request.{request_of}
use Rattle.mds_request.specs.declared.call.Call.TheVariants.{Operator}
use Rattle.mds_desk.specs.Desk.{state_of}
use Rattle.server_state.proofs.Turns.{same_told}
use Rattle.server_state.proofs.turn.take_call_turn.Goals as goal

pub carry_out-requires-clause-resolved : goal.carry_out-requires-clause-resolved
carry_out-requires-clause-resolved g c =
    let same = same_told (state_of c.args.desk.now) (option_copied c.args.note) (state_of c.learn_note.new.desk) c.learn_note.ensures in
    ap (λ configuration. call_of configuration (request_of c.args.request.now)) same.configuration
    ∙ c.requires.resolved
    ∙ ap (λ place. Ok (Operator place c.args.call.now)) (sym same.place)
