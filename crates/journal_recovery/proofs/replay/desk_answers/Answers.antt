use Rattle.mds_request.specs.Request.{request_of}
use Rattle.mds_desk.specs.Desk.{state_of}
use Rattle.journal_recovery.proofs.Learning.{desk_did}
use Rattle.journal_recovery.proofs.replay.desk_answers.Goals as goal

pub returns : goal.returns
returns g c = λ room.
    desk_did state_of c.args.desks.now c.args.place c.index-desks-place.result c.answer.new.self (request_of c.args.request.now) c.answer.result room
    c.requires c.answer.ensures
