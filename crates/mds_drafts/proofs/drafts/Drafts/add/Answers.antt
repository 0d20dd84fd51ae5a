use Rattle.std.proofs.Common.{◌≡◌, is_some, ap, sym, ◌∙◌, arith}
use Rattle.mds_drafts.specs.Drafts.{kind_of, id_of, with_draft}
use Rattle.mds_drafts.specs.Entries.{drafts_in, document_of}
use Rattle.mds_text.specs.declared.draft_kind.DraftKind.TheVariants as kinds
use Rattle.mds_drafts.proofs.Held.{is_held, added, none_at_position, count_more}
use Rattle.mds_drafts.proofs.drafts.Drafts.add.Goals as goal

pub invariant_of-self-in-Policy : goal.invariant_of-self-in-Policy
invariant_of-self-in-Policy c =
    let now = c.args.self.now in
    let doc = document_of c.args.draft in
    let all = ap drafts_in c.in_ok-push.ensures.items ∙ added now.items.items c.args.draft c.requires.absent in
    let new = ap is_some (none_at_position now.items.items (kind_of doc) (id_of doc) c.requires.absent) in
    let kind : kind_of doc ≡ kinds.Policy = cc in
    record {
      policies_counted = omega (arith, now.policies_counted, count_more (drafts_in now.items.items) (drafts_in c.push.new.self.items) doc kinds.Policy kinds.Policy all new kind);
      geographies_counted = omega (arith, now.geographies_counted, count_more (drafts_in now.items.items) (drafts_in c.push.new.self.items) doc kinds.Policy kinds.Geography all new kind);
    }

pub invariant_of-self-in-Geography : goal.invariant_of-self-in-Geography
invariant_of-self-in-Geography c =
    let now = c.args.self.now in
    let doc = document_of c.args.draft in
    let all = ap drafts_in c.in_ok-push.ensures.items ∙ added now.items.items c.args.draft c.requires.absent in
    let new = ap is_some (none_at_position now.items.items (kind_of doc) (id_of doc) c.requires.absent) in
    let kind : kind_of doc ≡ kinds.Geography = cc in
    record {
      policies_counted = omega (arith, now.policies_counted, count_more (drafts_in now.items.items) (drafts_in c.push.new.self.items) doc kinds.Geography kinds.Policy all new kind);
      geographies_counted = omega (arith, now.geographies_counted, count_more (drafts_in now.items.items) (drafts_in c.push.new.self.items) doc kinds.Geography kinds.Geography all new kind);
    }

pub returns-in-Policy-clause-ok : goal.returns-in-Policy-clause-ok
returns-in-Policy-clause-ok c = ap drafts_in c.in_ok-push.ensures.items ∙ added c.args.self.now.items.items c.args.draft c.requires.absent

pub returns-in-Geography-clause-ok : goal.returns-in-Geography-clause-ok
returns-in-Geography-clause-ok c = ap drafts_in c.in_ok-push.ensures.items ∙ added c.args.self.now.items.items c.args.draft c.requires.absent
