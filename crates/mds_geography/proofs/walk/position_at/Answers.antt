use Rattle.std.proofs.Common.{◌≡◌, ℕ, List, [], ◌∷◌, map, Err, refl, sym, subst, ap, ◌∙◌}
use Rattle.std.specs.Borrow.{Bor}
use Rattle.mds_text.specs.Fault.{bad_field, Refuses}
use Rattle.mds_text.specs.declared.field.Field.TheVariants.{Coordinates}
use Rattle.mds_text.proofs.Views.{entries-items_of}
use Rattle.mds_json.specs.Node.{node_view, pair_view}
use Rattle.mds_json.proofs.Nodes.{node-Pairs}
use Rattle.mds_geography.specs.Reading.{position_of, position_at}
use Rattle.mds_geography.proofs.walk.position_at.Goals as goal

-- a list isn't a coordinate
pairs_refused : (ps : List (Bor (List ℕ) × Bor (List ℕ))) → position_of (map pair_view ps) ≡ Err (bad_field Coordinates)
pairs_refused [] = refl
pairs_refused (p ∷ []) = refl
pairs_refused (p ∷ q ∷ ps) = refl

pub returns-in-Pairs : goal.returns-in-Pairs
returns-in-Pairs c =
    let refused : position_at (node_view c.args.entry.now) ≡ Err (bad_field Coordinates) =
    ap position_at (ap node_view c.in-Pairs.is ∙ node-Pairs c.in-Pairs.field-0)
    ∙ ap position_of (entries-items_of (map pair_view c.in-Pairs.field-0.items))
    ∙ pairs_refused c.in-Pairs.field-0.items in
    subst (λ cause. Refuses cause (position_at (node_view c.args.entry.now))) (sym c.no_position.ensures) refused
