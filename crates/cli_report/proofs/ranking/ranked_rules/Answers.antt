use Rattle.cli_report.proofs.ranking.ranked_rules.Goals as goal

pub returns : goal.returns
returns c = (c.in_ok-rules.rules.items, c.in_ok-rules.ensures, c.in_ok-rank.ensures)
