use Rattle.std.proofs.Common.{◌≡◌, drop}
use Rattle.mds_drafts.specs.Drafts.{draft_at}
use Rattle.mds_drafts.specs.Entries.{drafts_in}
use Rattle.mds_drafts.proofs.drafts.Drafts.get.Given as goal

-- the search in the rest finds what the one in the whole list does
abbrev pub invariant-loop-draft : goal.invariant-loop-draft
invariant-loop-draft l = draft_at (drafts_in (drop l.draft-index l.self.items.items)) l.kind l.id ≡ draft_at (drafts_in l.self.items.items) l.kind l.id
