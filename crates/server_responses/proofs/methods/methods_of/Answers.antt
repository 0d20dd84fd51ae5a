use Rattle.std.proofs.Common.{◌∙◌, ap, sym, None, Some, arith}
use Rattle.std.proofs.lemmas.Str.Pattern.{strip_prefix_char}
use Rattle.server_responses.specs.Methods.{methods_at}
use Rattle.server_responses.proofs.Cuts.{behind, no_path}
use Rattle.server_responses.proofs.methods.methods_of.Goals as goal

pub returns-in-Some : goal.returns-in-Some
returns-in-Some c =
    let begun = strip_prefix_char 47 c.args.path.now (Some c.in-Some.rest) c.in-Some.ensures.cases (omega arith) in
    c.behind_slash.ensures ∙ ap methods_at (sym (behind c.args.path.now c.in-Some.rest.now c.utf8.path begun))

pub returns-in-None : goal.returns-in-None
returns-in-None c =
    no_path c.args.path.now c.utf8.path (strip_prefix_char 47 c.args.path.now None c.in-None.ensures.cases (omega arith))
