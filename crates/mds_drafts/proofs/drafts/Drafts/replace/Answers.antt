use Rattle.std.proofs.Common.{◌≡◌, ap, sym, ◌∙◌}
use Rattle.mds_drafts.specs.Drafts.{count_of, kind_of, id_of}
use Rattle.mds_drafts.specs.Entries.{drafts_in, document_of}
use Rattle.mds_text.specs.declared.draft_kind.DraftKind.TheVariants as kinds
use Rattle.mds_drafts.proofs.Held.{replaced, held_at, count_replaced}
use Rattle.mds_drafts.proofs.drafts.Drafts.replace.Goals as goal

pub invariant_of-self : goal.invariant_of-self
invariant_of-self c =
    let now = c.args.self.now in
    let doc = document_of c.args.draft in
    let all = replaced now.items.items c.args.place c.args.draft c.requires in
    let held = held_at now.items.items c.args.place (kind_of doc) (id_of doc) c.requires in
    record {
      policies_counted = now.policies_counted ∙ sym (ap (λ ds. count_of ds kinds.Policy) all ∙ count_replaced (drafts_in now.items.items) doc kinds.Policy held);
      geographies_counted = now.geographies_counted ∙ sym (ap (λ ds. count_of ds kinds.Geography) all ∙ count_replaced (drafts_in now.items.items) doc kinds.Geography held);
    }

pub returns : goal.returns
returns c = replaced c.args.self.now.items.items c.args.place c.args.draft c.requires
