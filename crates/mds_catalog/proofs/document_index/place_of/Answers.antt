use Rattle.std.proofs.Common.{rules}
use Rattle.std.proofs.lemmas.List.Sorted.{answers_always}
use Rattle.mds_catalog.proofs.Ordered.{searched}
use Rattle.mds_catalog.proofs.document_index.place_of.Goals as goal

-- the closure gives the identifier
pub returns-clause-found : goal.returns-clause-found
returns-clause-found c =
    let facts = c.binary_search_by_key.ensures in
    (searched (λ s. s.id) _ c.args.id c.requires _ facts.bound (facts.position (λ s. s.id) (answers_always _ _ _ (λ f a r g called. search rules)))).found

pub returns-clause-gap : goal.returns-clause-gap
returns-clause-gap c =
    let facts = c.binary_search_by_key.ensures in
    (searched (λ s. s.id) _ c.args.id c.requires _ facts.bound (facts.position (λ s. s.id) (answers_always _ _ _ (λ f a r g called. search rules)))).gap
