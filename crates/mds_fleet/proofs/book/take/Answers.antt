use Rattle.std.proofs.Common.{◌≡◌, ◌≢◌, ◌<◌, ◌≤◌, ℕ, Some, None, IsSome, Result, Ok, Err, false, cond, map, refl, sym, ap, subst, ◌∙◌, ◌+◌, arith}
use Rattle.std.specs.Box.{with_value}
use Rattle.std.specs.BTreeMap as tree
use Rattle.std.specs.BTreeMap.{btree_map_len, insert_entry}
use Rattle.std.specs.FinMap.{len, from_entries}
use Rattle.std.specs.Option.{is_some}
use Rattle.std.specs.Ordering.{is_gt, nat_cmp}
use Rattle.std.specs.Result.{IsErrAnd}
use Rattle.std.proofs.lemmas.Bool.Decides.{nat_tests}
use Rattle.mds_match.specs.declared.vehicle.Vehicle.{Vehicle}
use Rattle.mds_match.specs.Row.{row_of}
use Rattle.mds_fleet.specs.declared.book.Taken.{Taken}
use Rattle.mds_fleet.specs.declared.book.Taken.TheVariants.{Changed}
use Rattle.mds_fleet.specs.declared.book.BookFault.{BookFault}
use Rattle.mds_fleet.specs.declared.book.BookFault.TheVariants.{NoMemory}
use Rattle.mds_fleet.specs.Books.{device_cmp, report_document, outcome_at, row_after, row_from}
use Rattle.mds_fleet.specs.Fleet.{Vehicles, rows_of}
use Rattle.mds_fleet.proofs.Rows.{Updates, ByOutcome, never_new, entry, take_held, held_kept, take_full, take_refused, take_new, new_kept}
use Rattle.mds_fleet.proofs.Fitting.{arrived_one, changed_one}
use Rattle.mds_fleet.proofs.book.take.Goals as goal

-- a time that isn't greater
in_past : (a b : ℕ) → false ≡ is_gt (nat_cmp a b) → a ≤ b
in_past a b h = grind (arith, nat_tests)

-- the only error of a refused allocation
refused : (r : Result Taken BookFault) → IsErrAnd r (λ e. e ≡ NoMemory) → r ≡ Err NoMemory
refused (Ok taken) is = absurd is
refused (Err fault) is = ap Err is

-- ---- the device has a row

updated : (c : goal.After-vehicles-1) → Updates c.args.vehicles.now c.args.report.device (Some (with_value c.in-Some.vehicle.now c.update.new.vehicle)) (c.get_mut.follows.lender (with_value c.in-Some.vehicle.now c.update.new.vehicle))
updated c = ((c.get_mut.follows.holds (with_value c.in-Some.vehicle.now c.update.new.vehicle)).3 (subst IsSome c.in-Some.ensures.value refl)).0

by_outcome : (c : goal.After-vehicles-1) → ByOutcome c.args.vehicles.now (c.get_mut.follows.lender (with_value c.in-Some.vehicle.now c.update.new.vehicle)) (report_document c.args.report) c.in-Some.vehicle.now (with_value c.in-Some.vehicle.now c.update.new.vehicle) (sym c.in-Some.ensures.value) (updated c) c.update.result
by_outcome c =
    let held = c.deref_mut.ensures.value in
    record {
      changed = subst (λ (v : Vehicle). c.update.result ≡ Ok Changed → row_of c.update.new.vehicle ≡ row_after (Some (row_of v)) (report_document c.args.report)) held c.update.ensures.changed;
      others = subst (λ (v : Vehicle). c.update.result ≢ Ok Changed → row_of c.update.new.vehicle ≡ row_of v) held c.update.ensures.others;
    }

pub returns-in-Some-clause-taken : goal.returns-in-Some-clause-taken
returns-in-Some-clause-taken c =
    let held = len (rows_of c.args.vehicles.now) in
    take_held c.args.vehicles.now (c.get_mut.follows.lender (with_value c.in-Some.vehicle.now c.update.new.vehicle)) (report_document c.args.report) _ _ (sym c.in-Some.ensures.value) (updated c) c.args.limit c.args.moment c.update.result (in_past _ _ c.if-gt.ensures) (by_outcome c)
    (subst (λ (v : Vehicle). c.update.result ≡ outcome_at (Some (row_of v)) held c.args.limit (report_document c.args.report)) c.deref_mut.ensures.value (c.update.ensures.outcome held c.args.limit))

pub returns-in-Some-clause-kept : goal.returns-in-Some-clause-kept
returns-in-Some-clause-kept c =
    held_kept c.args.vehicles.now (c.get_mut.follows.lender (with_value c.in-Some.vehicle.now c.update.new.vehicle)) (report_document c.args.report) _ _ (sym c.in-Some.ensures.value) (updated c) c.args.limit c.update.result (by_outcome c)
    (c.get_mut.follows.holds (with_value c.in-Some.vehicle.now c.update.new.vehicle)).4 (c.get_mut.follows.holds (with_value c.in-Some.vehicle.now c.update.new.vehicle)).2 c.requires

-- it isn't new
pub returns-in-Some-clause-arrived : goal.returns-in-Some-clause-arrived
returns-in-Some-clause-arrived c is =
    absurd (never_new (row_of c.deref_mut.result.now) (len (rows_of c.args.vehicles.now)) c.args.limit (report_document c.args.report) c.update.result (c.update.ensures.outcome (len (rows_of c.args.vehicles.now)) c.args.limit) is)

-- no device came or went
pub returns-in-Some-clause-changed : goal.returns-in-Some-clause-changed
returns-in-Some-clause-changed c is =
    let after = c.get_mut.follows.lender (with_value c.in-Some.vehicle.now c.update.new.vehicle) in
    changed_one c.args.vehicles.now after c.args.report.device _ (updated c) (c.get_mut.follows.holds (with_value c.in-Some.vehicle.now c.update.new.vehicle)).1

-- ---- the device has no row

pub returns-then-len-limit-clause-taken : goal.returns-then-len-limit-clause-taken
returns-then-len-limit-clause-taken c =
    let same = c.get_mut.follows.holds-at-none in
    let full = subst (λ (m : Vehicles). c.args.limit ≤ btree_map_len m) same (omega (arith, c.if-len-limit.true, c.len.ensures.len)) in
    let t = take_full c.args.vehicles.now c.get_mut.ensures.ordered (report_document c.args.report) (sym c.in_default.ensures.value) c.args.limit c.args.moment (in_past _ _ c.if-gt.ensures) full in
    (t.0, ap rows_of same ∙ t.1)

pub returns-in_err-vehicle-clause-taken : goal.returns-in_err-vehicle-clause-taken
returns-in_err-vehicle-clause-taken c =
    let same = c.get_mut.follows.holds-at-none in
    let room = subst (λ (m : Vehicles). btree_map_len m < c.args.limit) same (omega (arith, c.if-len-limit.false, c.len.ensures.len)) in
    let t = take_refused c.args.vehicles.now c.get_mut.ensures.ordered (report_document c.args.report) (sym c.in_default.ensures.value) c.args.limit c.args.moment (in_past _ _ c.if-gt.ensures) room
    c.from_residual.result (refused _ c.from_residual.ensures.1) in
    (t.0, ap rows_of same ∙ t.1)

pub returns-in_err-insert-clause-taken : goal.returns-in_err-insert-clause-taken
returns-in_err-insert-clause-taken c =
    let same = c.get_mut.follows.holds-at-none in
    let room = subst (λ (m : Vehicles). btree_map_len m < c.args.limit) same (omega (arith, c.if-len-limit.false, c.len.ensures.len)) in
    let t = take_refused c.args.vehicles.now c.get_mut.ensures.ordered (report_document c.args.report) (sym c.in_default.ensures.value) c.args.limit c.args.moment (in_past _ _ c.if-gt.ensures) room
    c.from_residual-in_err-insert.result (refused _ c.from_residual-in_err-insert.ensures.1) in
    (t.0, ap (λ es. from_entries (map entry es)) c.in_err-insert.ensures.err ∙ ap rows_of same ∙ t.1)

-- the vehicle that was inserted has the row of the report
boxed : (c : goal.Joined-branch-3) → row_of c.in_ok-vehicle.vehicle.value ≡ row_from (report_document c.args.report) c.args.report.timestamp
boxed c = ap row_of c.in_ok-vehicle.ensures.ok ∙ c.vehicle_of.ensures

inserted : (c : goal.Joined-branch-3) → Updates c.args.vehicles.now c.args.report.device (Some c.in_ok-vehicle.vehicle) c.insert.new.self
inserted c = subst (λ (m : Vehicles). Updates m c.args.report.device (Some c.in_ok-vehicle.vehicle) c.insert.new.self) c.get_mut.follows.holds-at-none c.in_ok-insert.ensures.updates.0

pub returns-clause-taken : goal.returns-clause-taken
returns-clause-taken c =
    let room = subst (λ (m : Vehicles). btree_map_len m < c.args.limit) c.get_mut.follows.holds-at-none (omega (arith, c.if-len-limit.false, c.len.ensures.len)) in
    take_new c.args.vehicles.now c.get_mut.ensures.ordered (report_document c.args.report) (sym c.in_default.ensures.value) c.args.limit c.args.moment (in_past _ _ c.if-gt.ensures) room
    c.insert.new.self c.in_ok-vehicle.vehicle (boxed c) (inserted c)

pub returns-clause-kept : goal.returns-clause-kept
returns-clause-kept c =
    let same = c.get_mut.follows.holds-at-none in
    let room = subst (λ (m : Vehicles). btree_map_len m < c.args.limit) same (omega (arith, c.if-len-limit.false, c.len.ensures.len)) in
    let absent : c.in_ok-insert.field-0 ≡ None = c.in_ok-insert.ensures.old ∙ ap (λ m. tree.get device_cmp m c.args.report.device) same ∙ sym c.in_default.ensures.value in
    let more = c.in_ok-insert.ensures.len ∙ ap (λ found. btree_map_len c.get_mut.follows.lender-at-none + cond (is_some found) 0 1) absent ∙ ap (λ m. btree_map_len m + 1) same in
    new_kept c.args.vehicles.now c.get_mut.ensures.ordered (report_document c.args.report) (sym c.in_default.ensures.value) c.args.limit c.args.moment (in_past _ _ c.if-gt.ensures) room
    c.insert.new.self c.in_ok-vehicle.vehicle (boxed c) (inserted c) c.in_ok-insert.ensures.ordered more c.requires

pub returns-clause-arrived : goal.returns-clause-arrived
returns-clause-arrived c is =
    let entries = c.in_ok-insert.ensures.entries ∙ ap (λ (m : Vehicles). insert_entry device_cmp m.entries c.args.report.device c.in_ok-vehicle.vehicle) c.get_mut.follows.holds-at-none in
    arrived_one c.args.vehicles.now c.insert.new.self c.args.report.device c.in_ok-vehicle.vehicle (inserted c) entries
