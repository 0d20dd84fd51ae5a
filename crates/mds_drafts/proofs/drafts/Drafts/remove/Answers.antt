use Rattle.std.proofs.Common.{◌≡◌, is_some, true, ap, ◌∙◌, arith}
use Rattle.mds_drafts.specs.Drafts.{draft_at}
use Rattle.mds_drafts.specs.Entries.{drafts_in}
use Rattle.mds_text.specs.declared.draft_kind.DraftKind.TheVariants as kinds
use Rattle.mds_drafts.proofs.Held.{taken, count_less, one_if}
use Rattle.mds_drafts.proofs.drafts.Drafts.remove.Goals as goal

pub overflow_sub-self : goal.overflow_sub-self
overflow_sub-self c =
    let now = c.args.self.now in
    let ds = drafts_in now.items.items in
    let all = ap drafts_in c.keep_others.ensures ∙ taken now.items.items c.args.kind c.args.id in
    let fewer = count_less ds (drafts_in c.keep_others.new.items.items) c.args.kind c.args.id kinds.Policy all c.requires in
    omega (arith, now.policies_counted, fewer, ap (λ k. one_if k kinds.Policy) c.in-Policy.is)

pub overflow_sub-self-in-Geography : goal.overflow_sub-self-in-Geography
overflow_sub-self-in-Geography c =
    let now = c.args.self.now in
    let ds = drafts_in now.items.items in
    let all = ap drafts_in c.keep_others.ensures ∙ taken now.items.items c.args.kind c.args.id in
    let fewer = count_less ds (drafts_in c.keep_others.new.items.items) c.args.kind c.args.id kinds.Geography all c.requires in
    omega (arith, now.geographies_counted, fewer, ap (λ k. one_if k kinds.Geography) c.in-Geography.is)

pub invariant_of-self : goal.invariant_of-self
invariant_of-self c =
    let now = c.args.self.now in
    let ds = drafts_in now.items.items in
    let all = ap drafts_in c.keep_others.ensures ∙ taken now.items.items c.args.kind c.args.id in
    let new = drafts_in c.keep_others.new.items.items in
    record {
      policies_counted = omega (arith, now.policies_counted, count_less ds new c.args.kind c.args.id kinds.Policy all c.requires, ap (λ k. one_if k kinds.Policy) c.in-Policy.is);
      geographies_counted = omega (arith, now.geographies_counted, count_less ds new c.args.kind c.args.id kinds.Geography all c.requires, ap (λ k. one_if k kinds.Geography) c.in-Policy.is);
    }

pub invariant_of-self-in-Geography : goal.invariant_of-self-in-Geography
invariant_of-self-in-Geography c =
    let now = c.args.self.now in
    let ds = drafts_in now.items.items in
    let all = ap drafts_in c.keep_others.ensures ∙ taken now.items.items c.args.kind c.args.id in
    let new = drafts_in c.keep_others.new.items.items in
    record {
      policies_counted = omega (arith, now.policies_counted, count_less ds new c.args.kind c.args.id kinds.Policy all c.requires, ap (λ k. one_if k kinds.Policy) c.in-Geography.is);
      geographies_counted = omega (arith, now.geographies_counted, count_less ds new c.args.kind c.args.id kinds.Geography all c.requires, ap (λ k. one_if k kinds.Geography) c.in-Geography.is);
    }

pub returns-in-Policy : goal.returns-in-Policy
returns-in-Policy c = ap drafts_in c.keep_others.ensures ∙ taken c.args.self.now.items.items c.args.kind c.args.id

pub returns-in-Geography : goal.returns-in-Geography
returns-in-Geography c = ap drafts_in c.keep_others.ensures ∙ taken c.args.self.now.items.items c.args.kind c.args.id
