use Rattle.std.proofs.Common.{◌≡◌, ◌∷◌, ap, ◌∙◌, arith}
use Rattle.json.specs.Token.{number}
use Rattle.json.specs.Json.{value}
use Rattle.json.proofs.Grammar.{value_is}
use Rattle.serde_json.specs.Read.{converted}
use Rattle.mds_json.specs.Direct.{tree_value}
use Rattle.mds_json.proofs.direct.next_scalar.Goals as goal

pub returns-in_ok-read_number-in-45-clause-ok : goal.returns-in_ok-read_number-in-45-clause-ok
returns-in_ok-read_number-in-45-clause-ok c = λ depth.
    let first : c.args.reader.now ≡ number c.next_number-number.result.now ∷ c.next_number-number.new.reader = grind arith in
    ap (converted tree_value) (ap (value depth) first ∙ value_is depth _) ∙ rw c.in_ok-read_number-in-45.ensures.value

pub returns-in-Some-clause-ok : goal.returns-in-Some-clause-ok
returns-in-Some-clause-ok c = λ depth.
    ap (converted tree_value) (ap (value depth) c.in-Some.ensures ∙ value_is depth _)
