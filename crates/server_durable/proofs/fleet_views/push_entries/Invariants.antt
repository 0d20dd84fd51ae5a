use Rattle.std.proofs.Common.{◌≡◌, ◌++◌, false, length, map}
use Rattle.server_app.specs.ComplianceList.{entries_text}
use Rattle.server_app.specs.OperatorNames.{badge_view}
use Rattle.server_durable.proofs.fleet_views.push_entries.Given as goal

-- what is written, with what is left to write, is the whole
abbrev pub invariant-loop-answer : goal.invariant-loop-answer
invariant-loop-answer l =
    l.text.items ++ entries_text l.is_later (map (λ answer. answer.body) l.rest) (map badge_view l.names)
    ≡ l.fn.text.items ++ entries_text false (map (λ answer. answer.body) l.fn.answers) (map badge_view l.fn.operators)

abbrev pub decreases-loop-answer : goal.decreases-loop-answer
decreases-loop-answer l = length l.rest
