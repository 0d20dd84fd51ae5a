use Rattle.std.proofs.Common.{◌≡◌, ◌+◌, ◌∷◌, position, drop, Some, None, sym, ap, ◌∙◌}
use Rattle.std.proofs.lemmas.List.{take_rest}
use Rattle.mds_script.specs.Input.{is_feed, lines}
use Rattle.server_durable.proofs.Cutting.{first_is, last_is}
use Rattle.server_durable.proofs.batch.first_line.Goals as goal

pub returns-in-Some-clause-lines : goal.returns-in-Some-clause-lines
returns-in-Some-clause-lines c =
    let text = c.args.text.now in
    let place = c.in-Some.end in
    let at : position is_feed text ≡ Some place = sym c.line_feed.ensures.place ∙ c.in-Some.is in
    first_is text place at
    ∙ ap (λ line. line ∷ lines (drop (place + 1) text)) (sym c.without_return.ensures)
    ∙ ap (λ rest. c.without_return.result.now ∷ lines rest) (sym (take_rest text (place + 1)))

pub returns-in-None-clause-lines : goal.returns-in-None-clause-lines
returns-in-None-clause-lines c =
    let at : position is_feed c.args.text.now ≡ None = sym c.line_feed.ensures.place ∙ c.in-None.is in
    last_is c.args.text.now c.requires at
