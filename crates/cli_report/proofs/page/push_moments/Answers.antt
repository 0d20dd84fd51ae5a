use Rattle.std.proofs.Common.{ℕ, List, subst}
use Rattle.std.proofs.lemmas.Result.{on_ok_weaker}
use Rattle.cli_report.specs.Page.{head_view, moments_with}
use Rattle.cli_report.specs.Pieces.{IsWritten}
use Rattle.cli_report.specs.Texts.{Appends}
use Rattle.cli_report.proofs.page.push_moments.Goals as goal

pub returns : goal.returns
returns c =
    on_ok_weaker c.push_pieces.result
    (λ made. subst (λ (minutes : List ℕ). Appends (IsWritten c.args.zone.now (moments_with (head_view c.args.head.now) minutes))
    c.args.out.now.items c.push_pieces.new.out.items)
    c.minutes_text.ensures made)
    c.push_pieces.ensures
