use Rattle.std.proofs.Common.{◌≡◌, List, [], ◌∷◌, map, Ok, refl, sym, ap, ◌∙◌}
use Rattle.mds_text.specs.Fields.{list_of}
use Rattle.mds_text.proofs.Views.{entries-items_of}
use Rattle.mds_json.specs.Entries.{made_or_lent}
use Rattle.mds_json.specs.Node.{node_view, pair_view}
use Rattle.mds_json.specs.declared.node.Node.{Node}
use Rattle.mds_json.proofs.Nodes.{node-List, node-Pairs}
use Rattle.mds_json.proofs.entries.entries_of.Goals as goal

pub returns-in-List-clause-value : goal.returns-in-List-clause-value
returns-in-List-clause-value c =
    ap (list_of c.args.field) (ap node_view c.in-List.is ∙ node-List c.in-List.entries)
    ∙ ap Ok (entries-items_of (map node_view c.in-List.entries.items))
    ∙ ap (λ ns. Ok (map node_view ns)) (sym c.deref.ensures.value)
    ∙ ap (λ made. Ok (map node_view (made_or_lent made c.deref.result.now))) (sym c.new.ensures.items)

made_alone : (ns : List Node) → ns ≡ made_or_lent ns []
made_alone [] = refl
made_alone (n ∷ ns) = refl

pub returns-in_ok-nodes_of-in-Pairs-clause-value : goal.returns-in_ok-nodes_of-in-Pairs-clause-value
returns-in_ok-nodes_of-in-Pairs-clause-value c =
    let made = c.in_ok-nodes_of-in-Pairs.field-0.items in
    ap (list_of c.args.field) (ap node_view c.in-Pairs.is ∙ node-Pairs c.in-Pairs.pairs)
    ∙ ap Ok (entries-items_of (map pair_view c.in-Pairs.pairs.items))
    ∙ ap (λ ps. Ok (map pair_view ps)) (sym c.deref-in-Pairs.ensures.value)
    ∙ ap Ok (sym c.in_ok-nodes_of-in-Pairs.ensures)
    ∙ ap (λ ns. Ok (map node_view ns)) (made_alone made)
    ∙ ap (λ lent. Ok (map node_view (made_or_lent made lent))) (sym c.none-in-Pairs.ensures)
