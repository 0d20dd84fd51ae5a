use Rattle.std.proofs.Common.{map, ap, sym, subst, ◌∙◌}
use Rattle.std.specs.List.Sorted.{IsStrictlySortedBy}
use Rattle.std.specs.FinMap as finite
use Rattle.std.specs.BTreeMap.{values}
use Rattle.std.proofs.lemmas.Result.{IfOk-weaker}
use Rattle.mds_match.specs.Row.{row_of}
use Rattle.mds_fleet.specs.Books.{device_cmp}
use Rattle.mds_fleet.proofs.Rows.{map_map, values_rows, keys_rows, own_keys}
use Rattle.mds_fleet.proofs.book.Book.rows.Goals as goal

pub returns-clause-whole : goal.returns-clause-whole
returns-clause-whole c = IfOk-weaker c.vehicle_refs.result _ _ (λ rows lent.
    sym (map_map (λ v. v.now) row_of rows.items)
    ∙ ap (map row_of) lent
    ∙ map_map (λ b. b.value) row_of (values c.self.inside.vehicles)
    ∙ sym (values_rows c.self.inside.vehicles c.vehicle_refs.ensures.ordered)
    ∙ ap (λ b. finite.values b.rows) c.self.view_is) c.vehicle_refs.ensures.whole

pub returns-clause-devices : goal.returns-clause-devices
returns-clause-devices c = IfOk-weaker c.vehicle_refs.result _ _ (λ rows lent.
    sym (map_map (λ v. v.now) (λ v. v.device) rows.items)
    ∙ ap (map (λ v. v.device)) lent
    ∙ map_map (λ b. b.value) (λ v. v.device) (values c.self.inside.vehicles)
    ∙ own_keys c.self.inside.vehicles c.vehicle_refs.ensures.ordered c.self.invariant.own
    ∙ sym (keys_rows c.self.inside.vehicles c.vehicle_refs.ensures.ordered)
    ∙ ap (λ b. finite.keys b.rows) c.self.view_is) c.vehicle_refs.ensures.whole

pub returns-clause-ascending : goal.returns-clause-ascending
returns-clause-ascending c = IfOk-weaker c.vehicle_refs.result _ _ (λ rows lent.
    subst (IsStrictlySortedBy device_cmp)
    (sym (own_keys c.self.inside.vehicles c.vehicle_refs.ensures.ordered c.self.invariant.own) ∙ sym (map_map (λ b. b.value) (λ v. v.device) (values c.self.inside.vehicles)) ∙ ap (map (λ v. v.device)) (sym lent) ∙ map_map (λ v. v.now) (λ v. v.device) rows.items)
    c.vehicle_refs.ensures.ordered) c.vehicle_refs.ensures.whole
