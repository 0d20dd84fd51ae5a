use Rattle.std.proofs.Common.{cond, ◌∷◌, [], subst, sym, ap, ◌∙◌, arith}
use Rattle.std.specs.List.{insert}
use Rattle.mds_catalog.specs.Listed.{Lists}
use Rattle.mds_catalog.proofs.Ordered.{inserted, lists_inserted, lists_known}
use Rattle.mds_catalog.proofs.document_index.list_spot.Goals as goal

pub returns-in-Err-clause-listed : goal.returns-in-Err-clause-listed
returns-in-Err-clause-listed c =
    let old = c.args.spots.now.items in
    let gap = rw c.deref.ensures.value at c.in-Err.ensures.gap in
    let done = inserted c.insert.result (omega (arith, c.requires.room)) c.insert.ensures.full in
    let items = c.insert.ensures.items ∙ ap (λ b. cond b (insert old c.in-Err.at c.args.spot) old) done in
    subst (λ xs. Lists (λ s. s.id) old xs (c.args.spot ∷ [])) (sym items) (lists_inserted (λ s. s.id) old c.args.spot c.in-Err.at c.requires.ascends gap)

pub returns-in_default-clause-listed : goal.returns-in_default-clause-listed
returns-in_default-clause-listed c =
    let place = rw c.deref.ensures.value at c.in_default.ensures.found in
    lists_known (λ s. s.id) _ c.args.spot _ c.requires.ascends place
