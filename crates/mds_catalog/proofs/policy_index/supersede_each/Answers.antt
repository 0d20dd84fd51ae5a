use Rattle.std.proofs.Common.{ap, sym, ◌∙◌, arith}
use Rattle.std.proofs.Math.ListN.{set}
use Rattle.std.proofs.lemmas.List.Edits.{map_over_more}
use Rattle.mds_catalog.specs.Index.{after_superseding}
use Rattle.mds_catalog.proofs.policy_index.supersede_each.Goals as goal

pub loop-entry-preserved : goal.loop-entry-preserved
loop-entry-preserved c =
    let l = c.loop-entry in
    let f = after_superseding c.args.moment c.args.ids.now in
    ap (set l.entries l.entry-index) c.after_superseding.ensures ∙ ap (λ e. set l.entries l.entry-index (f e)) (sym c.entry-item.is)
    ∙ map_over_more f c.args.entries.now l.entries l.entry-index c.entry-item.result (omega arith) l.invariant c.entry-item.is
