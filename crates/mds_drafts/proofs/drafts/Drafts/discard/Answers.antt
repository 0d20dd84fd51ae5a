use Rattle.std.proofs.Common.{◌≡◌, is_some, false, ap, sym, ◌∙◌}
use Rattle.mds_drafts.specs.Drafts.{draft_at}
use Rattle.mds_drafts.specs.Entries.{drafts_in, document_of}
use Rattle.mds_drafts.proofs.Held.{without_absent, none_where, some_mapped}
use Rattle.mds_drafts.proofs.drafts.Drafts.discard.Goals as goal

pub returns-else-is_some : goal.returns-else-is_some
returns-else-is_some c =
    let ds = drafts_in c.args.self.now.items.items in
    let none : is_some (draft_at ds c.args.kind c.args.id) ≡ false = ap is_some (sym c.get.ensures) ∙ some_mapped (λ d. document_of d.now) c.get.result ∙ sym c.is_some.ensures ∙ c.if-is_some.false in
    sym (without_absent ds c.args.kind c.args.id (none_where _ none))
