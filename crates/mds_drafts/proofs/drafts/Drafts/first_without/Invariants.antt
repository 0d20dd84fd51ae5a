use Rattle.std.proofs.Common.{◌≡◌, find, not, drop}
use Rattle.mds_drafts.specs.Drafts.{has_draft}
use Rattle.mds_drafts.specs.Entries.{drafts_in}
use Rattle.mds_drafts.proofs.drafts.Drafts.first_without.Given as goal

-- the search in the rest finds what the one in the whole list does
abbrev pub invariant-loop-id : goal.invariant-loop-id
invariant-loop-id l =
    find (λ id. not (has_draft (drafts_in l.self.items.items) l.kind id)) (drop l.id-index l.ids)
    ≡ find (λ id. not (has_draft (drafts_in l.self.items.items) l.kind id)) l.ids
