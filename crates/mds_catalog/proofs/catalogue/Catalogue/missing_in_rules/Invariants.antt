use Rattle.std.proofs.Common.{◌≡◌, find, not, drop, map}
use Rattle.std.specs.List.{flat_map}
use Rattle.mds_policy.specs.Policy.{rule_document}
use Rattle.mds_catalog.specs.Publication.{is_geography_there, publications_in, publication_of}
use Rattle.mds_catalog.proofs.catalogue.Catalogue.missing_in_rules.Given as goal

-- the search in the rest finds what the one in the whole list does
abbrev pub invariant-loop-rule : goal.invariant-loop-rule
invariant-loop-rule l =
    find (λ id. not (is_geography_there (publications_in l.self.batches.items) (publication_of l.batch) id)) (flat_map (λ rule. rule.geographies) (map rule_document (drop l.rule-index l.rules)))
    ≡ find (λ id. not (is_geography_there (publications_in l.self.batches.items) (publication_of l.batch) id)) (flat_map (λ rule. rule.geographies) (map rule_document (l.rules)))
