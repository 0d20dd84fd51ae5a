-- The outcome and the rows after it, case by case.
use Rattle.std.proofs.Common.{◌≡◌, ◌≢◌, ℕ, ◌<◌, ◌≤◌, nat_lt, cond, ◌&&◌, Bool, true, false, Option, Some, None, Result, Ok, Err, inl, inr, refl, sym, ap, subst, ◌∙◌, arith}
use Rattle.std.specs.Bool.{Decides}
use Rattle.std.specs.FinMap.{get, insert, len}
use Rattle.std.proofs.lemmas.Bool.{cases_lt, false≢true}
use Rattle.std.proofs.lemmas.Bool.Decides.{nat_tests, Decides-eqb, Decides-int_eq}
use Rattle.std.proofs.lemmas.Slice.Eq.{bytes_eq-Decides}
use Rattle.mds_match.specs.Row.{Row}
use Rattle.mds_fleet.specs.declared.book.Taken.{Taken}
use Rattle.mds_fleet.specs.declared.book.Taken.TheVariants.{New, Changed, Same}
use Rattle.mds_fleet.specs.declared.book.BookFault.{BookFault}
use Rattle.mds_fleet.specs.declared.book.BookFault.TheVariants.{Future, Stale, FleetFull, NoMemory}
use Rattle.mds_fleet.specs.Books.{Report, Rows, Take, is_same, outcome, outcome_at, row_after, rows_after, row_from, run_start, reported}
use Rattle.mds_fleet.proofs.Cases.{Case}
use Rattle.mds_fleet.proofs.Words.{words_decide}

both : {P Q : Type 0} (a b : Bool) → Decides a P → Decides b Q → Decides (a && b) (P × Q)
both true b p q = (λ h. (p.0 refl, q.0 h), λ h. q.1 h.1)
both false b p q = (λ h. absurd (cc), λ h. p.1 h.0)

pub same_decides : (a b : Report) → Decides (is_same a b) (a ≡ b)
same_decides a b =
    let fields = both _ _ (bytes_eq-Decides a.device b.device) (both _ _ (bytes_eq-Decides a.vehicle_type b.vehicle_type) (both _ _ (words_decide a.propulsion b.propulsion) (both _ _ (bytes_eq-Decides a.state b.state) (both _ _ (words_decide a.events b.events) (both _ _ (Decides-eqb a.timestamp b.timestamp) (both _ _ (Decides-int_eq a.position.lng b.position.lng) (Decides-int_eq a.position.lat b.position.lat))))))) in (
      λ h. let e = fields.0 h in
          λ i. record {
            device = e.0 i;
            vehicle_type = e.1.0 i;
            propulsion = e.1.1.0 i;
            state = e.1.1.1.0 i;
            events = e.1.1.1.1.0 i;
            timestamp = e.1.1.1.1.1.0 i;
            position = record { lng = e.1.1.1.1.1.1.0 i; lat = e.1.1.1.1.1.1.1 i };
          },
      λ e. fields.1 (ap (λ r. r.device) e, (ap (λ r. r.vehicle_type) e, (ap (λ r. r.propulsion) e, (ap (λ r. r.state) e, (ap (λ r. r.events) e, (ap (λ r. r.timestamp) e, (ap (λ r. r.position.lng) e, ap (λ r. r.position.lat) e))))))),
    )

pub not_less : (a b : ℕ) → b ≤ a → nat_lt a b ≡ false
not_less a b h = grind (arith, nat_tests)

pub less : (a b : ℕ) → a < b → nat_lt a b ≡ true
less a b h = grind (arith, nat_tests)

not_same : (a b : Report) → a ≢ b → is_same a b ≡ false
not_same a b apart = elim (is_same a b) as (λ t. is_same a b ≡ t → t ≡ false) [ true ↦ λ e. absurd (apart ((same_decides a b).0 e)) | false ↦ λ e. refl ] refl

module _ (rows : Rows) (limit : ℕ) (report : Report) (moment : ℕ) where
  pub future : moment < report.timestamp → Err Future ≡ outcome rows limit report moment
  future h = rw (less moment report.timestamp h) refl

  pub past : report.timestamp ≤ moment → (held : Option Row) → get rows report.device ≡ held → outcome rows limit report moment ≡ outcome_at held (len rows) limit report
  past h held is = ap (λ b. cond b (Err Future) (outcome_at (get rows report.device) (len rows) limit report)) (not_less moment report.timestamp h) ∙ ap (λ o. outcome_at o (len rows) limit report) is

  left_by : (row : Row) → get rows report.device ≡ Some row → insert rows report.device (row_from report (run_start row report)) ≡ insert rows report.device (row_after (get rows report.device) report)
  left_by row is = ap (λ o. insert rows report.device (row_after o report)) (sym is)

  case_determined : (result : Result Taken BookFault) (after : Rows) → Case rows limit report moment result after → result ≢ Err NoMemory → (result ≡ outcome rows limit report moment) × (after ≡ rows_after rows report result)
  case_determined (Err Future) after h real = (future h.0, h.1)
  case_determined (Err Stale) after h real =
      (sym (past h.0 _ h.1.1 ∙ ap (λ b. cond b (Err Stale) (cond (is_same (reported h.1.0) report) (Ok Same) (Ok Changed))) (less _ _ h.1.2)), h.2)
  case_determined (Err FleetFull) after h real = (sym (past h.0 None h.1 ∙ ap (λ b. cond b (Ok New) (Err FleetFull)) (not_less _ _ h.2)), h.3)
  case_determined (Err NoMemory) after h real = absurd (real refl)
  case_determined (Ok New) after h real = (
    sym (past h.0.past None h.0.absent ∙ ap (λ b. cond b (Ok New) (Err FleetFull)) (less _ _ h.0.room)),
    h.1 ∙ ap (λ o. insert rows report.device (row_after o report)) (sym h.0.absent),
  )
  case_determined (Ok Changed) after h real = (
    sym (past h.1.past _ h.1.held ∙ ap (λ b. cond b (Err Stale) (cond (is_same (reported h.0) report) (Ok Same) (Ok Changed))) (not_less _ _ h.1.in_order) ∙ ap (λ b. cond b (Ok Same) (Ok Changed)) (not_same _ _ h.2)),
    h.3 ∙ left_by h.0 h.1.held,
  )
  case_determined (Ok Same) after h real = (
    sym (past h.1.past _ h.1.held ∙ ap (λ b. cond b (Err Stale) (cond (is_same (reported h.0) report) (Ok Same) (Ok Changed))) (not_less _ _ h.1.in_order) ∙ ap (λ b. cond b (Ok Same) (Ok Changed)) ((same_decides _ _).1 h.2)),
    h.3,
  )

  -- a case that isn't out of memory is an outcome of `Take`
  pub take_of_case : (result : Result Taken BookFault) (after : Rows) → Case rows limit report moment result after → result ≢ Err NoMemory → Take rows limit report moment result after
  take_of_case result after h real = let d = case_determined result after h real in (inl d.0, d.1)

  -- where memory doesn't run out, taking a report does what the functions say
  pub determined : (result : Result Taken BookFault) (after : Rows) → Take rows limit report moment result after → result ≢ Err NoMemory → (result ≡ outcome rows limit report moment) × (after ≡ rows_after rows report result)
  determined result after h real = (elim h.0 [ inl is ↦ is | inr none ↦ absurd (real none.0) ], h.1)

  -- an outcome that the function gives is possible
  abbrev Can : Result Taken BookFault → Type 0
  Can result = Case rows limit report moment result (rows_after rows report result)

  can_new : report.timestamp ≤ moment → get rows report.device ≡ None → Can (outcome_at None (len rows) limit report)
  can_new is_past absent = elim (cases_lt (len rows) limit) [
    | inl room ↦ subst Can (sym (ap (λ b. cond b (Ok New) (Err FleetFull)) (less _ _ room)))
        (record { past = is_past; absent = absent; room = room }, ap (λ o. insert rows report.device (row_after o report)) absent)
    | inr full ↦ subst Can (sym (ap (λ b. cond b (Ok New) (Err FleetFull)) (not_less _ _ full))) (is_past, absent, full, refl)
  ]

  can_held : report.timestamp ≤ moment → (row : Row) → get rows report.device ≡ Some row → Can (outcome_at (Some row) (len rows) limit report)
  can_held is_past row held = elim (cases_lt report.timestamp row.timestamp) [
    | inl older ↦ subst Can (sym (ap (λ b. cond b (Err Stale) (cond (is_same (reported row) report) (Ok Same) (Ok Changed))) (less _ _ older))) (is_past, (row, held, older), refl)
    | inr in_order ↦ subst Can (sym (ap (λ b. cond b (Err Stale) (cond (is_same (reported row) report) (Ok Same) (Ok Changed))) (not_less _ _ in_order)))
        (elim (is_same (reported row) report) as (λ t. is_same (reported row) report ≡ t → Can (cond t (Ok Same) (Ok Changed))) [
          | true ↦ λ e. (row, record { past = is_past; held = held; in_order = in_order }, (same_decides _ _).0 e, refl)
          | false ↦ λ e.
              (row, record { past = is_past; held = held; in_order = in_order }, (λ same. false≢true (sym e ∙ (same_decides _ _).1 same)), sym (left_by row held))
        ] refl)
  ]

  by_held : report.timestamp ≤ moment → (held : Option Row) → get rows report.device ≡ held → Can (outcome rows limit report moment)
  by_held is_past None is = subst Can (sym (past is_past None is)) (can_new is_past is)
  by_held is_past (Some row) is = subst Can (sym (past is_past (Some row) is)) (can_held is_past row is)

  pub can_be : Case rows limit report moment (outcome rows limit report moment) (rows_after rows report (outcome rows limit report moment))
  can_be = elim (cases_lt moment report.timestamp) [
    | inl h ↦ subst Can (future h) (h, refl)
    | inr is_past ↦ by_held is_past (get rows report.device) refl
  ]

-- the outcome of a report of a device with this row
module _ (row : Row) (held limit : ℕ) (report : Report) where
  abbrev unless_stale : Bool → Result Taken BookFault
  unless_stale b = cond b (Err Stale) (cond (is_same (reported row) report) (Ok Same) (Ok Changed))

  pub at_stale : report.timestamp < row.timestamp → Err Stale ≡ outcome_at (Some row) held limit report
  at_stale older = ap unless_stale (sym (less _ _ older))

  pub at_same : row.timestamp ≤ report.timestamp → reported row ≡ report → Ok Same ≡ outcome_at (Some row) held limit report
  at_same in_order same = ap (λ b. cond b (Ok Same) (Ok Changed)) (sym ((same_decides _ _).1 same)) ∙ ap unless_stale (sym (not_less _ _ in_order))

  pub at_changed : row.timestamp ≤ report.timestamp → reported row ≢ report → Ok Changed ≡ outcome_at (Some row) held limit report
  at_changed in_order apart = ap (λ b. cond b (Ok Same) (Ok Changed)) (sym (not_same _ _ apart)) ∙ ap unless_stale (sym (not_less _ _ in_order))
