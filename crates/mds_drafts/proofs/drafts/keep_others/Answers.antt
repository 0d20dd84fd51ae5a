use Rattle.std.proofs.Common.{not, rules, tests}
use Rattle.mds_drafts.specs.Drafts.{is_of}
use Rattle.mds_drafts.specs.Entries.{document_of}
use Rattle.mds_drafts.proofs.Kept.{filter_kept}
use Rattle.mds_drafts.proofs.drafts.keep_others.Goals as goal

pub returns : goal.returns
returns c = filter_kept _ (λ d. not (is_of (document_of d) c.args.kind c.args.id)) _ (λ x b q h. search (rules, tests)) _ _ c.retain.ensures.filtered
