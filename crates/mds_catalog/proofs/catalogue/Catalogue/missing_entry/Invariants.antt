use Rattle.std.proofs.Common.{◌≡◌, find, not, drop}
use Rattle.mds_catalog.specs.Publication.{is_geography_there, publications_in, publication_of}
use Rattle.mds_catalog.proofs.catalogue.Catalogue.missing_entry.Given as goal

-- the search in the rest finds what the one in the whole list does
abbrev pub invariant-loop-id : goal.invariant-loop-id
invariant-loop-id l =
    find (λ id. not (is_geography_there (publications_in l.self.batches.items) (publication_of l.batch) id)) (drop l.id-index l.entries) ≡ find (λ id. not (is_geography_there (publications_in l.self.batches.items) (publication_of l.batch) id)) l.entries
