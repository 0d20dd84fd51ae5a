use mathlib.Core.List.{IsPrefix}
use Rattle.std.proofs.Common.{◌≡◌, sym, subst}
use Rattle.mds_request.specs.Configuration.{configuration}
use Rattle.mds_request.specs.Request.{request_of}
use Rattle.mds_world.proofs.Lasting.{fits_front}
use Rattle.mds_desk.proofs.Turning.{looked, not_looked}
use Rattle.mds_desk.proofs.desk.Desk.take_turn.Goals as goal

-- the book's index stays right for a front that has all that is known as a prefix
pub answer_at-pane-requires-clause-fits : goal.answer_at-pane-requires-clause-fits
answer_at-pane-requires-clause-fits g c = fits_front c.args.self.pane c.in-Ok.look c.args.self.book c.in-Ok.ensures c.args.self.fits

pub returns-in-Ok : goal.returns-in-Ok
returns-in-Ok g c =
    let d = c.args.self in
    let left : c.answer_at-pane.result.0 ≡ c.in-Ok.look = cc in
    looked (configuration d.context.config.value) d.context.place d.pane d.book.rows (request_of c.args.request.now) c.args.call.now c.requires.resolved c.in-Ok.look c.answer_at-pane.result.0
    c.answer_at-pane.result.1 c.answer_at-pane.new.book.rows
    (subst (IsPrefix d.pane) (sym left) c.in-Ok.ensures) (sym left) c.answer_at-pane.ensures.answer

-- there is no snapshot: the desk is unchanged
pub returns-in-Err : goal.returns-in-Err
returns-in-Err g c =
    let d = c.args.self in
    not_looked (configuration d.context.config.value) d.context.place d.pane d.book.rows (request_of c.args.request.now) c.in-Err.none.pane c.from.result c.in-Err.ensures c.from.ensures
