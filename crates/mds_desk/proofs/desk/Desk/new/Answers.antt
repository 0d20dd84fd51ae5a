use Rattle.std.proofs.Common.{◌<◌, Some, option_map, slice_get, length, map, arith, ap, ◌∙◌, sym}
use Rattle.std.proofs.lemmas.Option.{slice_get-map, slice_get-get_or}
use Rattle.std.proofs.lemmas.List.{length-map}
use Rattle.mds_request.specs.Configuration.{operator}
use Rattle.mds_world.specs.Lasting.{lasting_in}
use Rattle.mds_desk.proofs.desk.Desk.new.Goals as goal

-- the index of an empty book is right for whatever is published
pub invariant_of-result-clause-fits : goal.invariant_of-result-clause-fits
invariant_of-result-clause-fits g c = c.new-book.ensures.fits (lasting_in c.args.pane)

-- the book's limit is that of the operator at this place
pub invariant_of-result-clause-limit : goal.invariant_of-result-clause-limit
invariant_of-result-clause-limit g c =
    let found = c.operators.result.now in
    let place = c.args.context.place in
    let read = c.index-operators-context.result in
    let within : place < length found = omega (arith, c.args.context.within, ap length c.operators.ensures.all, ap (λ d. length (map operator d.operators.items)) c.deref.ensures, length-map found operator) in
    ap Some c.new-book.ensures.limit
    ∙ sym (ap (λ o. option_map (λ n. n.limit) (option_map operator o)) (slice_get-get_or found place read within))
    ∙ sym (ap (option_map (λ n. n.limit)) (slice_get-map operator found place))
    ∙ ap (λ all. option_map (λ n. n.limit) (slice_get all place)) c.operators.ensures.all
    ∙ ap (λ d. option_map (λ n. n.limit) (slice_get (map operator d.operators.items) place)) c.deref.ensures
