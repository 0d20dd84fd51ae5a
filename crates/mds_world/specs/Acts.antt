-- The result of a call of the author.
use Rattle.std.specs.Prelude.{◌≡◌, List, [], ◌∷◌, ◌++◌, true}
use Rattle.mds_catalog.specs.Publication.{Publication, publication_of, is_lawful}
use Rattle.mds_drafts.specs.Drafts.{Drafts, taken_out}
use Rattle.mds_request.specs.Reply.{Reply}
use Rattle.mds_world.specs.declared.author.AuthorAct.{AuthorAct}
use Rattle.mds_world.specs.declared.author.AuthorAct.TheVariants.{Answer, Publish}

-- The reply, and the drafts and the publications, once the batch that is to be published is published, and its drafts
-- are removed.
abbrev pub outcome : Drafts → List Publication → AuthorAct → Reply × (Drafts × List Publication)
outcome drafts publications (Answer reply) = (reply, (drafts, publications))
outcome drafts publications (Publish batch reply) =
    (reply, (taken_out drafts (publication_of batch.value), publications ++ publication_of batch.value ∷ []))

-- A batch that is to be published is lawful, and nothing has changed yet.
abbrev pub IsOpen : Drafts → List Publication → Drafts → AuthorAct → Type 0
IsOpen old publications new (Answer reply) = Unit {0}
IsOpen old publications new (Publish batch reply) =
    (is_lawful publications (publication_of batch.value) ≡ true) × (new ≡ old)
