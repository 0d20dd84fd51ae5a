-- What taking a report changes in the rows.
use Rattle.std.proofs.Common.{◌≡◌, ◌≢◌, ℕ, ◌+◌, ◌≤◌, cond, List, false, Some, None, Result, Ok, Err, refl, ap, ◌∙◌, arith}
use Rattle.std.specs.declared.cmp.Ordering.{Ordering}
use Rattle.std.specs.declared.cmp.Ordering.TheVariants.{Less, Equal, Greater}
use Rattle.std.specs.Ordering.{is_eq, eq_by_cmp}
use Rattle.std.specs.Option.{is_some}
use Rattle.std.specs.FinMap.{get, insert, len, get-insert, len-insert}
use Rattle.mds_match.specs.Row.{Row}
use Rattle.mds_fleet.specs.declared.book.Taken.{Taken}
use Rattle.mds_fleet.specs.declared.book.Taken.TheVariants.{New, Changed, Same}
use Rattle.mds_fleet.specs.declared.book.BookFault.{BookFault}
use Rattle.mds_fleet.specs.declared.book.BookFault.TheVariants.{Future, Stale, FleetFull, NoMemory}
use Rattle.mds_fleet.specs.Books.{Report, Rows, device_cmp}
use Rattle.mds_fleet.specs.Laws.{KeepsLimit, LeavesOthers}
use Rattle.mds_fleet.proofs.Cases.{Case}
use Rattle.mds_fleet.proofs.Determined.{can_be}
use Rattle.mds_fleet.proofs.Rows.{device_total, device_exact}

-- a device without a row adds one row
pub len_new : (rows : Rows) (device : List ℕ) (row : Row) → get rows device ≡ None → len (insert rows device row) ≡ len rows + 1
len_new rows device row absent = len-insert device_total rows device row ∙ ap (λ found. cond (is_some found) (len rows) (len rows + 1)) absent

-- a device with a row adds none
pub len_held : (rows : Rows) (device : List ℕ) (row old : Row) → get rows device ≡ Some old → len (insert rows device row) ≡ len rows
len_held rows device row old held = len-insert device_total rows device row ∙ ap (λ found. cond (is_some found) (len rows) (len rows + 1)) held

case_keeps_limit : (rows : Rows) (limit : ℕ) (report : Report) (moment : ℕ) (result : Result Taken BookFault) (after : Rows) → Case rows limit report moment result after → len rows ≤ limit → len after ≤ limit
case_keeps_limit rows limit report moment (Err Future) after h le = rw h.1 le
case_keeps_limit rows limit report moment (Err Stale) after h le = rw h.2 le
case_keeps_limit rows limit report moment (Err FleetFull) after h le = rw h.3 le
case_keeps_limit rows limit report moment (Err NoMemory) after h le = rw h le
case_keeps_limit rows limit report moment (Ok New) after h le =
    omega (arith, ap len h.1 ∙ len_new rows report.device _ h.0.absent, h.0.room)
case_keeps_limit rows limit report moment (Ok Changed) after h le =
    omega (arith, ap len h.3 ∙ len_held rows report.device _ h.0 h.1.held)
case_keeps_limit rows limit report moment (Ok Same) after h le = rw h.3 le

refused_same : (rows : Rows) (limit : ℕ) (report : Report) (moment : ℕ) (fault : BookFault) (after : Rows) → Case rows limit report moment (Err fault) after → after ≡ rows
refused_same rows limit report moment Future after h = h.1
refused_same rows limit report moment Stale after h = h.2
refused_same rows limit report moment FleetFull after h = h.3
refused_same rows limit report moment NoMemory after h = h

-- keys that differ don't tie
pub tie_false : (a b : List ℕ) → a ≢ b → eq_by_cmp device_cmp a b ≡ false
tie_false a b apart = by (device_cmp a b) refl
  where
    by : (r : Ordering) → device_cmp a b ≡ r → is_eq r ≡ false
    by Less e = refl
    by Equal e = absurd (apart (device_exact a b e))
    by Greater e = refl

other_row : (rows : Rows) (k q : List ℕ) (row : Row) → q ≢ k → get (insert rows k row) q ≡ get rows q
other_row rows k q row apart = get-insert device_total rows k row q ∙ ap (λ b. cond b (Some row) (get rows q)) (tie_false q k apart)

case_leaves_others : (rows : Rows) (limit : ℕ) (report : Report) (moment : ℕ) (result : Result Taken BookFault) (after : Rows) (device : List ℕ) → Case rows limit report moment result after → device ≢ report.device → get after device ≡ get rows device
case_leaves_others rows limit report moment (Err fault) after device h apart = ap (λ m. get m device) (refused_same rows limit report moment fault after h)
case_leaves_others rows limit report moment (Ok New) after device h apart = ap (λ m. get m device) h.1 ∙ other_row rows report.device device _ apart
case_leaves_others rows limit report moment (Ok Changed) after device h apart = ap (λ m. get m device) h.3 ∙ other_row rows report.device device _ apart
case_leaves_others rows limit report moment (Ok Same) after device h apart = ap (λ m. get m device) h.3

pub keeps_limit : KeepsLimit
keeps_limit rows limit report moment le = case_keeps_limit rows limit report moment _ _ (can_be rows limit report moment) le

pub leaves_others : LeavesOthers
leaves_others rows limit report moment device apart = case_leaves_others rows limit report moment _ _ device (can_be rows limit report moment) apart
