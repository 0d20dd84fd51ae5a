use Rattle.std.proofs.Common.{◌≡◌, ◌+◌, ◌-◌, ℕ, List, map, drop, sym, ap, ◌∙◌, arith}
use Rattle.mds_drafts.specs.Entries.{drafts_in}
use Rattle.server_app.specs.DraftList.{ids_of}
use Rattle.server_app.proofs.Ordered.{all_placed, ids_are, ok_same, one_placed, own_ids}
use Rattle.server_app.proofs.draft_list.ids_of.Goals as goal

pub loop-left-preserved-in-Continue-1 : goal.loop-left-preserved-in-Continue-1
loop-left-preserved-in-Continue-1 c =
    let items = c.args.drafts.now in
    let kind = c.args.kind in
    let i = c.loop-left.left - 1 in
    let back : c.loop-left.left ≡ i + 1 = omega arith in
    record {
      within = omega arith;
      placed =
          one_placed kind items i c.index-drafts-left.result c.in-Some.id c.loop-left.ids.entries c.insert_id.new.ids.entries (omega arith) c.index-drafts-left.is
          (sym c.own_id.ensures ∙ c.in-Some.is) (c.loop-left.invariant.placed ∙ ap (λ (n : ℕ). all_placed (own_ids kind (drop n items))) back) c.in_ok-insert_id.ensures;
    }

pub returns : goal.returns
returns c =
    let items = c.args.drafts.now in
    let kind = c.args.kind in
    let none : c.loop-left.left ≡ 0 = omega arith in
    ok_same (λ v. v.items) c.ids_in_order.result (map (λ e. e.0) c.loop-left.ids.entries) (ids_of (drafts_in items) kind)
    (c.loop-left.invariant.placed ∙ ap (λ (n : ℕ). all_placed (own_ids kind (drop n items))) none ∙ ids_are kind items) c.ids_in_order.ensures
