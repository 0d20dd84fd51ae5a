use Rattle.std.proofs.Common.{◌≡◌, ℕ, Bool, true}
use Rattle.std.proofs.lemmas.List.Elements.{All-contains, filter_passes}
use Rattle.mds_match.specs.Matching.{first, is_rule, caught}
use Rattle.mds_match.specs.Row.{Row}
use Rattle.mds_match.proofs.Groups.{is_rule_once}
use Rattle.mds_match.proofs.laws.caught_by_one_rule.Goals as goal

pub returns : goal.returns
returns c policy i j polygons rows local row p q =
    let test : ℕ → Row → Bool = λ n r. is_rule n (first policy polygons r local) in
    is_rule_once i j (first policy polygons row local)
    (All-contains (λ r. test i r ≡ true) (caught policy i polygons rows local) row (filter_passes (test i) rows) p)
    (All-contains (λ r. test j r ≡ true) (caught policy j polygons rows local) row (filter_passes (test j) rows) q)
