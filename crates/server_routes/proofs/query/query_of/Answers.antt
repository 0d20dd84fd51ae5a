use Rattle.std.proofs.Common.{◌≡◌, ◌+◌, ◌-◌, length, take, drop, sym, ◌∙◌, arith}
use Rattle.std.proofs.lemmas.List.{length-drop, take_all}
use Rattle.mds_script.proofs.Positions.{behind_found, behind_missing}
use Rattle.mds_request.specs.Call.{is_query_mark}
use Rattle.server_routes.proofs.query.query_of.Goals as goal

pub returns-in-Some : goal.returns-in-Some
returns-in-Some c =
    let target = c.args.target.now in
    let end = c.in-Some.end in
    let all : take (length target - (end + 1)) (drop (end + 1) target) ≡ drop (end + 1) target =
    take_all (length target - (end + 1)) (drop (end + 1) target) (omega (arith, length-drop (end + 1) target)) in
    all ∙ behind_found is_query_mark target end (sym c.in-Some.ensures.value)

pub returns-in-None : goal.returns-in-None
returns-in-None c = behind_missing is_query_mark c.args.target.now (sym c.in-None.ensures.value)
