use Rattle.std.proofs.Common.{◌≡◌, ℕ, IfSome, IfNone, Err, ap, subst}
use Rattle.server_durable.specs.Records.{IsAmong}
use Rattle.server_durable.proofs.Turns.{ahead_alike}
use Rattle.server_durable.proofs.room_turn.RoomTurn.complete.Goals as goal

pub returns-in-Ok-clause-held : goal.returns-in-Ok-clause-held
returns-in-Ok-clause-held g c =
    let recording = c.args.self.recording in
    subst (λ (status : ℕ). IfNone recording.shown (IfSome recording.held (λ _. status ≡ 200 → IsAmong g.T.RecordPayload.text c.in-Ok.stamp)))
    c.status.ensures c.in-Ok.ensures.held

pub returns-in-Ok-clause-ahead : goal.returns-in-Ok-clause-ahead
returns-in-Ok-clause-ahead g c =
    ahead_alike _ c.args.self.recording.shown c.args.self.note _ _ (λ e is. absurd (cc is)) c.in-Ok.ensures.ahead

pub returns-in-Err-clause-ahead : goal.returns-in-Err-clause-ahead
returns-in-Err-clause-ahead g c =
    ahead_alike _ c.args.self.recording.shown c.args.self.note _ _ (λ e is. let same : c.in-Err.fault ≡ e = cc is in ap Err same) c.in-Err.ensures.ahead
