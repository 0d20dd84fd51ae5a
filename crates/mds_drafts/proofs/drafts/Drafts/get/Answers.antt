use Rattle.std.proofs.Common.{◌≡◌, ◌+◌, cond, Some, None, length, drop, ap, sym, ◌∙◌, arith}
use Rattle.std.proofs.lemmas.List.{at_drop_all}
use Rattle.mds_drafts.specs.Drafts.{draft_at}
use Rattle.mds_drafts.specs.Entries.{document_of, drafts_in}
use Rattle.mds_drafts.proofs.Held.{draft_from, draft_at_none}
use Rattle.mds_drafts.proofs.drafts.Drafts.get.Goals as goal

pub returns-then-is_of : goal.returns-then-is_of
returns-then-is_of c =
    let items = c.args.self.now.items.items in
    let i = c.loop-draft.draft-index in
    let turn = draft_from items i c.draft-item.result c.args.kind c.args.id (omega arith) (cc) in
    ap (λ b. cond b (Some (document_of c.draft-item.result)) (draft_at (drafts_in (drop (i + 1) items)) c.args.kind c.args.id)) c.if-is_of.ensures ∙ sym turn ∙ c.loop-draft.invariant

pub loop-draft-preserved : goal.loop-draft-preserved
loop-draft-preserved c =
    let items = c.args.self.now.items.items in
    let i = c.loop-draft.draft-index in
    let turn = draft_from items i c.draft-item.result c.args.kind c.args.id (omega arith) (cc) in
    ap (λ b. cond b (Some (document_of c.draft-item.result)) (draft_at (drafts_in (drop (i + 1) items)) c.args.kind c.args.id)) c.if-is_of.ensures ∙ sym turn ∙ c.loop-draft.invariant

pub returns : goal.returns
returns c =
    let items = c.args.self.now.items.items in
    sym (at_drop_all (λ ds. draft_at (drafts_in ds) c.args.kind c.args.id) items c.loop-draft.draft-index (omega (arith, ap (λ xs. length xs) c.deref-draft-items.ensures.value)) ∙ draft_at_none c.args.kind c.args.id) ∙ c.loop-draft.invariant
