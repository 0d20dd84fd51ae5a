use Rattle.std.proofs.Common.{◌≡◌, ◌+◌, length, position, Some, None, sym, ◌∙◌, rules}
use Rattle.std.proofs.lemmas.List.{take_rest, take_all, drop_all}
use Rattle.mds_script.specs.Input.{is_space}
use Rattle.mds_script.proofs.Positions.{word_found, behind_found, word_missing, behind_missing}
use Rattle.mds_script.proofs.cut.split_word.Goals as goal

pub returns-in-Some-clause-word : goal.returns-in-Some-clause-word
returns-in-Some-clause-word c =
    let at : position is_space c.args.bytes.now ≡ Some c.in-Some.at = sym c.position_of.ensures ∙ c.in-Some.is in
    word_found is_space c.args.bytes.now c.in-Some.at at

pub returns-in-Some-clause-behind : goal.returns-in-Some-clause-behind
returns-in-Some-clause-behind c =
    let at : position is_space c.args.bytes.now ≡ Some c.in-Some.at = sym c.position_of.ensures ∙ c.in-Some.is in
    take_rest c.args.bytes.now (c.in-Some.at + 1) ∙ behind_found is_space c.args.bytes.now c.in-Some.at at

pub returns-in-None-clause-word : goal.returns-in-None-clause-word
returns-in-None-clause-word c =
    let at : position is_space c.args.bytes.now ≡ None = sym c.position_of.ensures ∙ c.in-None.is in
    c.split_at.ensures.front ∙ (take_all _ c.args.bytes.now (search rules) ∙ word_missing is_space c.args.bytes.now at)

pub returns-in-None-clause-behind : goal.returns-in-None-clause-behind
returns-in-None-clause-behind c =
    let at : position is_space c.args.bytes.now ≡ None = sym c.position_of.ensures ∙ c.in-None.is in
    c.split_at.ensures.back ∙ (drop_all (length c.args.bytes.now) c.args.bytes.now (search rules) ∙ behind_missing is_space c.args.bytes.now at)
