-- The publication that drafts make, or the first reason why they make none.
use Rattle.std.specs.Prelude.{◌≡◌, ◌≢◌, ℕ, List, not, if◌then◌else◌, Option, Some, None, Result, Ok, Err, find}
use Rattle.std.specs.List.{filter_map}
use Rattle.std.specs.Option.{option_or, option_map}
use Rattle.std.specs.FinMap.{get}
use Rattle.mds_catalog.specs.Publication.{Publication, publication_of, first_published, missing_geography, missing_predecessor, first_unpublished, fits}
use Rattle.mds_catalog.specs.declared.batch.Batch.{Batch}
use Rattle.mds_drafts.specs.declared.publish.PublishFault.{PublishFault}
use Rattle.mds_drafts.specs.declared.publish.PublishFault.TheVariants.{Empty, NoDraft, Published, NoGeography, NoPredecessor, NotPublished, CatalogFull, NoMemory}
use Rattle.mds_text.specs.declared.draft_kind.DraftKind.TheVariants as kinds
use Rattle.mds_drafts.specs.Drafts.{Drafts, has_draft}
use Rattle.mds_drafts.specs.Named.{Named, names_nothing}

-- the first identifier without a draft, geographies before policies
abbrev pub first_undrafted : Drafts → Named → Option (List ℕ)
first_undrafted drafts named =
    option_or (find (λ id. not (has_draft drafts kinds.Geography id)) named.geographies)
    (find (λ id. not (has_draft drafts kinds.Policy id)) named.policies)

-- the drafts with the named identifiers, in the order of the lists, and what is withdrawn
abbrev pub publication_from : Drafts → Named → ℕ → Publication
publication_from drafts named moment =
    record {
      moment = moment;
      geographies = filter_map (get drafts.geographies) named.geographies;
      policies = filter_map (get drafts.policies) named.policies;
      withdrawn = named.withdraw;
    }

-- why a publication may not follow: the first of its identifiers that is published, the first geography of a rule,
-- predecessor and withdrawn policy that is missing, or a limit
abbrev pub first_refusal : List Publication → Publication → Option PublishFault
first_refusal publications p =
    option_or (option_map Published (first_published publications p))
    (option_or (option_map NoGeography (missing_geography publications p))
    (option_or (option_map NoPredecessor (missing_predecessor publications p))
    (option_or (option_map NotPublished (first_unpublished publications p.withdrawn))
    (if fits publications p then None else Some CatalogFull))))

-- a publication, or the reason why it may not follow
abbrev pub or_refused : {A : Type 0} → A → Option PublishFault → Result A PublishFault
or_refused p None = Ok p
or_refused p (Some fault) = Err fault

-- the publication of the named drafts, or the first fault; each fault is looked for in all lists before the next
abbrev pub batch_of : Drafts → Named → List Publication → ℕ → Result Publication PublishFault
batch_of drafts named publications moment =
    if names_nothing named then Err Empty
    else (let p = publication_from drafts named moment in
    or_refused p (option_or (option_map NoDraft (first_undrafted drafts named)) (first_refusal publications p)))

-- a result is the defined one, unless memory ran out
abbrev pub AnswersPublish : Result Batch PublishFault → Result Publication PublishFault → Type 0
AnswersPublish (Ok batch) defined = defined ≡ Ok (publication_of batch)
AnswersPublish (Err NoMemory) defined = (defined ≢ Err Empty) × ((id : List ℕ) → defined ≢ Err (NoDraft id))
AnswersPublish (Err fault) defined = defined ≡ Err fault
