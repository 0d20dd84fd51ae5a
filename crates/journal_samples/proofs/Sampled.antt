-- The samples of an operator's policies, one after another.
use Rattle.std.proofs.Common.{◌≡◌, ◌+◌, ◌<◌, ℕ, List, ◌∷◌, [], ◌++◌, map, take, length, get_or, sym, ap, ◌∙◌}
use Rattle.std.specs.List.{flat_map}
use Rattle.std.specs.FinMap.{values}
use Rattle.std.proofs.lemmas.List.{flat_map_more, take_more}
use Rattle.std.proofs.lemmas.List.Folds.{flat_map-map}
use Rattle.mds_policy.specs.Policy.{Policy}
use Rattle.mds_policy.specs.declared.policy.Policy as program
use Rattle.mds_match.specs.Zone.{local_of}
use Rattle.mds_verdict.specs.Verdict.{Verdict, verdicts}
use Rattle.mds_catalog.specs.Catalogue.{lent_policy}
use Rattle.mds_catalog.specs.Publication.{Published, in_force, published_area}
use Rattle.mds_catalog.specs.declared.published.Published as lent
use Rattle.journal_samples.specs.Samples.{judged, policy_samples, samples_for}
use Rattle.journal_samples.specs.Standing.{Standing}
use Rattle.journal_samples.specs.declared.sample.RuleSample.{RuleSample}

-- the samples of a policy in force
abbrev pub told_of : Standing → ℕ → Published Policy → List RuleSample
told_of s t p = policy_samples t p.document.id (judged s t p).1

-- the same of a borrowed one
abbrev pub lent_told : Standing → ℕ → lent.Published program.Policy → List RuleSample
lent_told s t p = told_of s t (lent_policy p)

pub told_is : (s : Standing) (t : ℕ) (p : Published Policy) (id : List ℕ) (found : List Verdict) → id ≡ p.document.id
    → found ≡ verdicts p.document (published_area s.publications) (values s.rows) (local_of s.configuration.zone t) t
    → policy_samples t id found ≡ told_of s t p
told_is s t p id found same are = ap (λ x. policy_samples t x found) same ∙ ap (λ xs. policy_samples t p.document.id xs) are

-- one more item of those that each give some
pub one_more : {X R : Type 0} (f : X → List R) (items : List X) (i : ℕ) (item : X) (first old new added : List R) → i < length items
    → item ≡ get_or items i item
    → old ≡ first ++ flat_map f (take i items) → new ≡ old ++ added → added ≡ f item → new ≡ first ++ flat_map f (take (i + 1) items)
one_more f items i item first old new added within is so_far made same =
    made ∙ ap (λ xs. xs ++ added) so_far ∙ ap (λ xs. (first ++ flat_map f (take i items)) ++ xs) same
    ∙ flat_map_more f first (take i items) item
    ∙ ap (λ x. first ++ flat_map f (take i items ++ x ∷ [])) is
    ∙ ap (λ xs. first ++ flat_map f xs) (sym (take_more items i item within))

-- the samples of all policies in force
pub all_told : (s : Standing) (t : ℕ) (id : List ℕ) (items : List (lent.Published program.Policy))
    → map lent_policy items ≡ in_force s.publications id t
    → flat_map (lent_told s t) items ≡ samples_for s t id
all_told s t id items are =
    sym (flat_map-map (told_of s t) lent_policy items)
    ∙ sym (flat_map-map (λ e. policy_samples t e.0.id e.1) (judged s t) (map lent_policy items))
    ∙ ap (λ ps. flat_map (λ e. policy_samples t e.0.id e.1) (map (judged s t) ps)) are
