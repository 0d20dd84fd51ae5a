use Rattle.std.proofs.Common.{ap, sym, ◌∙◌}
use Rattle.std.specs.Prelude.{find, option_map}
use Rattle.mds_request.specs.Configuration.{operator}
use Rattle.journal_entry.specs.Heads.{share_of, unfit_at}
use Rattle.journal_entry.specs.Requests.{has_id}
use Rattle.journal_entry.proofs.Mapped.{find_map}
use Rattle.journal_entry.proofs.fitting.unfit_by.Goals as goal

pub returns : goal.returns
returns c =
    let share = c.args.share.now in
    c.unfit_at.ensures ∙ ap (unfit_at (share_of share))
    (ap (option_map operator) c.operator_of.ensures ∙ find_map (has_id share.id) operator c.operators.result.now ∙ ap (find (has_id share.id)) c.operators.ensures.all)
