use Rattle.std.proofs.Common.{◌≡◌, find, not, drop}
use Rattle.mds_catalog.specs.Publication.{is_policy_published, publications_in}
use Rattle.mds_catalog.proofs.catalogue.Catalogue.first_unpublished.Given as goal

-- the search in the rest finds what the one in the whole list does
abbrev pub invariant-loop-id : goal.invariant-loop-id
invariant-loop-id l =
    find (λ id. not (is_policy_published (publications_in l.self.batches.items) id)) (drop l.id-index l.ids) ≡ find (λ id. not (is_policy_published (publications_in l.self.batches.items) id)) l.ids
