use Rattle.std.proofs.Common.{◌∙◌, ap, sym, None, Some, arith}
use Rattle.std.proofs.lemmas.Str.Pattern.{split_once_first}
use Rattle.mds_request.specs.Call.{all_some}
use Rattle.server_responses.specs.Methods.{methods_at}
use Rattle.server_responses.proofs.Cuts.{whole, around}
use Rattle.server_responses.proofs.methods.behind_slash.Goals as goal

pub returns-in-None : goal.returns-in-None
returns-in-None c =
    let none = split_once_first 47 c.args.rest.now None c.in-None.ensures.cases (omega arith) in
    c.at_one.ensures ∙ ap (λ parts. methods_at (all_some parts)) (sym (whole c.args.rest.now none))

pub returns-in-Some : goal.returns-in-Some
returns-in-Some c =
    let cut = split_once_first 47 c.args.rest.now (Some (c.in-Some.first, c.in-Some.rest)) c.in-Some.ensures.cases (omega arith) in
    c.behind_one.ensures
    ∙ ap (λ parts. methods_at (all_some parts)) (sym (around c.args.rest.now c.in-Some.first.now c.in-Some.rest.now cut.0 cut.1 cut.2))
