-- The rows that reports and removals result in follow from the list of these alone.
use Rattle.std.proofs.Common.{◌≡◌, ◌≢◌, ℕ, ◌<◌, ◌≤◌, nat_lt, cond, ◌&&◌, ◌||◌, ◌↔◌, List, [], ◌∷◌, Bool, true, false, Option, Some, None, Result, Ok, Err, refl, sym, ap, subst, ◌∙◌, arith}
use Rattle.std.specs.Prelude.{bytes_eq, nat_le, filter}
use Rattle.std.specs.Ordering.{eq_by_cmp}
use Rattle.std.specs.Option.{is_some, unwrap_or}
use Rattle.std.specs.List.{list_any, IsDistinct}
use Rattle.std.specs.Set.{is_member}
use Rattle.std.specs.Cmp.{IsEquivalence, eq_by_cmp_equiv}
use Rattle.std.specs.FinMap.{empty, get, insert, remove, len, keys, entries, entries_sorted, len-entries, contains_key-keys, get-empty, get-insert, get-remove, same_map}
use Rattle.std.proofs.lemmas.Bool.{false≢true}
use Rattle.std.proofs.lemmas.Bool.Decides.{nat_tests}
use Rattle.std.proofs.lemmas.List.{length-map}
use Rattle.std.proofs.lemmas.Slice.Eq.{bytes_eq-Decides}
use Rattle.std.proofs.lemmas.Map.Keys.{IsDistinct-from_sorted}
use Rattle.std.proofs.lemmas.Map.Made.{length-from_keys, is_member-filter}
use Rattle.mds_match.specs.Row.{Row}
use Rattle.mds_fleet.specs.declared.book.Taken.{Taken}
use Rattle.mds_fleet.specs.declared.book.Taken.TheVariants.{New, Changed, Same}
use Rattle.mds_fleet.specs.declared.book.BookFault.{BookFault}
use Rattle.mds_fleet.specs.declared.book.BookFault.TheVariants.{Future, Stale, FleetFull, NoMemory}
use Rattle.mds_fleet.specs.Books.{Report, Rows, device_cmp, reported, row_from, run_start, is_same, outcome, outcome_at, rows_after}
use Rattle.mds_fleet.specs.History.{Event, arrival, removal, is_held, is_accepted, reported_devices, held_count, accepted_reports, run_from, row_by}
use Rattle.mds_fleet.specs.Laws.{Follows, Leads}
use Rattle.mds_fleet.proofs.Cases.{Case}
use Rattle.mds_fleet.proofs.Determined.{can_be, less, not_less}
use Rattle.mds_fleet.proofs.Rows.{device_total, device_exact, is_true, rising_keys}
use Rattle.mds_fleet.proofs.Taking.{tie_false}

-- ---- one comparison of devices

same_test : (a b : List ℕ) → eq_by_cmp device_cmp a b ≡ bytes_eq a b
same_test a b = by (bytes_eq a b) refl
  where
    by : (t : Bool) → bytes_eq a b ≡ t → eq_by_cmp device_cmp a b ≡ t
    by true e = subst (λ x. eq_by_cmp device_cmp a x ≡ true) ((bytes_eq-Decides a b).0 e) ((eq_by_cmp_equiv device_total).refl a)
    by false e = tie_false a b (λ same. false≢true (sym e ∙ (bytes_eq-Decides a b).1 same))

tests : eq_by_cmp device_cmp ≡ bytes_eq
tests = λ i a b. same_test a b i

bytes_laws : IsEquivalence bytes_eq
bytes_laws = subst IsEquivalence tests (eq_by_cmp_equiv device_total)

after_insert : (rows : Rows) (k q : List ℕ) (row : Row) → get (insert rows k row) q ≡ cond (bytes_eq q k) (Some row) (get rows q)
after_insert rows k q row = get-insert device_total rows k row q ∙ ap (λ b. cond b (Some row) (get rows q)) (same_test q k)

after_remove : (rows : Rows) (k q : List ℕ) → get (remove rows k) q ≡ cond (bytes_eq q k) None (get rows q)
after_remove rows k q = get-remove device_total rows k q ∙ ap (λ b. cond b None (get rows q)) (same_test q k)

-- ---- accepted reports and their row

held_row : (reports : List Report) → is_some (row_by reports) ≡ is_held reports
held_row [] = refl
held_row (last ∷ earlier) = refl

none_held : (reports : List Report) → row_by reports ≡ None → reports ≡ []
none_held [] e = refl
none_held (last ∷ earlier) e = absurd (false≢true (sym (ap is_some e)))

-- a run that goes on, or begins at this time
abbrev since : Bool → List ℕ → Report → List Report → ℕ → ℕ
since goes_on state last earlier start = cond goes_on (run_from state last.timestamp earlier) start

since_same : (goes_on : Bool) (state : List ℕ) (last : Report) (earlier : List Report) (start : ℕ) → bytes_eq last.state state ≡ goes_on → since goes_on state last earlier start ≡ since goes_on last.state last earlier start
since_same true state last earlier start same = ap (λ state. since true state last earlier start) (sym ((bytes_eq-Decides _ _).0 same))
since_same false state last earlier start apart = refl

-- the row after one more report
row_of_next : (report : Report) (row : Row) (reports : List Report) → row_by reports ≡ Some row → row_by (report ∷ reports) ≡ Some (row_from report (run_start row report))
row_of_next report row [] e = absurd (false≢true (ap is_some e))
row_of_next report row (last ∷ earlier) e =
    ap (λ start. Some (row_from report start)) (since_same (bytes_eq last.state report.state) report.state last earlier report.timestamp refl)
    ∙ ap (λ (r : Option Row). Some (row_from report (run_start (unwrap_or r row) report))) e

-- ---- when a report is accepted

and_false : (a b : Bool) → b ≡ false → (a && b) ≡ false
and_false true b e = e
and_false false b e = refl

not_le : (a b : ℕ) → b < a → nat_le a b ≡ false
not_le a b h = grind (arith, nat_tests)

le : (a b : ℕ) → a ≤ b → nat_le a b ≡ true
le a b h = grind (arith, nat_tests)

module _ (limit : ℕ) (report : Report) (moment held : ℕ) where
  abbrev Accepts : List Report → Bool → Type 0
  Accepts reports t = is_accepted limit report moment reports held ≡ t

  future : moment < report.timestamp → (reports : List Report) → Accepts reports false
  future h [] = ap (λ b. b && nat_lt held limit) (not_le _ _ h)
  future h (last ∷ earlier) = ap (λ b. b && nat_le last.timestamp report.timestamp) (not_le _ _ h)

  by_row : report.timestamp ≤ moment → (row : Row) (reports : List Report) → row_by reports ≡ Some row → Accepts reports (nat_le row.timestamp report.timestamp)
  by_row h row [] e = absurd (false≢true (ap is_some e))
  by_row h row (last ∷ earlier) e = ap (λ b. b && nat_le last.timestamp report.timestamp) (le _ _ h) ∙ ap (λ (r : Option Row). nat_le (unwrap_or r row).timestamp report.timestamp) e

  by_room : report.timestamp ≤ moment → (reports : List Report) → row_by reports ≡ None → Accepts reports (nat_lt held limit)
  by_room h [] e = ap (λ b. b && nat_lt held limit) (le _ _ h)
  by_room h (last ∷ earlier) e = absurd (false≢true (sym (ap is_some e)))

-- ---- how many devices have rows

held_tail : (b : Bool) (reports : List Report) → is_held (cond b [] reports) ≡ true → is_held reports ≡ true
held_tail true reports h = absurd (false≢true h)
held_tail false reports h = h

held_next : (b t found : Bool) (report : Report) (reports : List Report) → (is_held reports ≡ true → found ≡ true) → is_held (cond (b && t) (report ∷ reports) reports) ≡ true → (b || found) ≡ true
held_next true t found report reports known h = refl
held_next false t found report reports known h = known h

held_reported : (limit : ℕ) (events : List Event) (q : List ℕ) → is_held (accepted_reports limit events q) ≡ true → list_any (bytes_eq q) (reported_devices events) ≡ true
held_reported limit [] q h = absurd (false≢true h)
held_reported limit (removal removed ∷ before) q h = held_reported limit before q (held_tail (bytes_eq q removed) _ h)
held_reported limit (arrival report moment ∷ before) q h = held_next (bytes_eq q report.device) _ _ report _ (held_reported limit before q) h

absorbed : (a t : Bool) → (t ≡ true → a ≡ true) → (a && t) ≡ t
absorbed a true h = ap (λ b. b && true) (h refl)
absorbed true false h = refl
absorbed false false h = refl

abbrev Agrees : ℕ → List Event → Rows → Type 0
Agrees limit events rows = (q : List ℕ) → get rows q ≡ row_by (accepted_reports limit events q)

module _ (limit : ℕ) (before : List Event) (rows : Rows) (agrees : Agrees limit before rows) where
  distinct : IsDistinct bytes_eq (keys rows)
  distinct = subst (λ E. IsDistinct E (keys rows)) tests (IsDistinct-from_sorted device_cmp (keys rows) (rising_keys (entries rows) (is_true _ (entries_sorted rows))))

  holds_key : (q : List ℕ) → is_member bytes_eq (keys rows) q ≡ is_held (accepted_reports limit before q)
  holds_key q =
      sym (ap (λ (E : List ℕ → List ℕ → Bool). list_any (E q) (keys rows)) tests) ∙ sym (contains_key-keys rows q) ∙ ap is_some (agrees q) ∙ held_row (accepted_reports limit before q)

  holds_device : (q : List ℕ) → is_member bytes_eq (filter (λ device. is_held (accepted_reports limit before device)) (reported_devices before)) q ≡ is_held (accepted_reports limit before q)
  holds_device q =
      is_member-filter bytes_laws (λ device. is_held (accepted_reports limit before device)) q (λ x e. ap (λ device. is_held (accepted_reports limit before device)) ((bytes_eq-Decides q x).0 e)) (reported_devices before)
      ∙ absorbed _ _ (held_reported limit before q)

  pub count_held : len rows ≡ held_count (accepted_reports limit before) (reported_devices before)
  count_held =
      len-entries rows ∙ sym (length-map (entries rows) (λ e. e.0))
      ∙ length-from_keys bytes_laws (keys rows) (filter (λ device. is_held (accepted_reports limit before device)) (reported_devices before)) distinct (λ q. holds_key q ∙ sym (holds_device q))

-- ---- one more report

module _ (limit : ℕ) (before : List Event) (old : Rows) (agrees : Agrees limit before old) (report : Report) (moment : ℕ) where
  abbrev past_reports : List Report
  past_reports = accepted_reports limit before report.device

  abbrev count : ℕ
  count = held_count (accepted_reports limit before) (reported_devices before)

  abbrev decision : Bool
  decision = is_accepted limit report moment past_reports count

  abbrev with_decision : Bool → List ℕ → List Report
  with_decision b q = cond b (report ∷ accepted_reports limit before q) (accepted_reports limit before q)

  refused : decision ≡ false → (rows : Rows) → rows ≡ old → Agrees limit (arrival report moment ∷ before) rows
  refused refuses rows same q =
      ap (λ m. get m q) same ∙ agrees q ∙ ap (λ b. row_by (with_decision b q)) (sym (and_false (bytes_eq q report.device) decision refuses))

  taken : decision ≡ true → (row : Row) → row_by (report ∷ past_reports) ≡ Some row → (rows : Rows) → ((q : List ℕ) → get rows q ≡ cond (bytes_eq q report.device) (Some row) (get old q)) → Agrees limit (arrival report moment ∷ before) rows
  taken accepts row is rows gets q = gets q ∙ by (bytes_eq q report.device) refl
    where
      by : (t : Bool) → bytes_eq q report.device ≡ t → cond t (Some row) (get old q) ≡ row_by (with_decision (t && decision) q)
      by true e = sym is ∙ ap (λ d. row_by (report ∷ accepted_reports limit before d)) (sym ((bytes_eq-Decides q report.device).0 e)) ∙ ap (λ b. row_by (with_decision b q)) (sym accepts)
      by false e = agrees q

  held_by : (row : Row) → get old report.device ≡ Some row → row_by past_reports ≡ Some row
  held_by row held = sym (agrees report.device) ∙ held

  absent_by : get old report.device ≡ None → row_by past_reports ≡ None
  absent_by absent = sym (agrees report.device) ∙ absent

  the_same : (row : Row) → reported row ≡ report → row_from report (run_start row report) ≡ row
  the_same row same =
      ap (λ r. row_from r (run_start row r)) (sym same) ∙ ap (λ b. row_from (reported row) (cond b row.since row.timestamp)) ((bytes_eq-Decides row.state row.state).1 refl)

  unchanged : (row : Row) → get old report.device ≡ Some row → (q : List ℕ) → get old q ≡ cond (bytes_eq q report.device) (Some row) (get old q)
  unchanged row held q = by (bytes_eq q report.device) refl
    where
      by : (t : Bool) → bytes_eq q report.device ≡ t → get old q ≡ cond t (Some row) (get old q)
      by true e = ap (get old) ((bytes_eq-Decides q report.device).0 e) ∙ held
      by false e = refl

  after_report : (result : Result Taken BookFault) (rows : Rows) → result ≢ Err NoMemory → Case old limit report moment result rows → Agrees limit (arrival report moment ∷ before) rows
  after_report (Err Future) rows real h = refused (future limit report moment count h.0 past_reports) rows h.1
  after_report (Err Stale) rows real h =
      refused (by_row limit report moment count h.0 h.1.0 past_reports (held_by h.1.0 h.1.1) ∙ not_le _ _ h.1.2) rows h.2
  after_report (Err FleetFull) rows real h =
      refused (by_room limit report moment count h.0 past_reports (absent_by h.1) ∙ not_less count limit (subst (λ n. limit ≤ n) (count_held limit before old agrees) h.2)) rows h.3
  after_report (Err NoMemory) rows real h = absurd (real refl)
  after_report (Ok New) rows real h =
      taken (by_room limit report moment count h.0.past past_reports (absent_by h.0.absent) ∙ less count limit (subst (λ n. n < limit) (count_held limit before old agrees) h.0.room))
      (row_from report report.timestamp) (ap (λ reports. row_by (report ∷ reports)) (none_held _ (absent_by h.0.absent))) rows
      (λ q. ap (λ m. get m q) h.1 ∙ after_insert old report.device q _)
  after_report (Ok Changed) rows real h =
      taken (by_row limit report moment count h.1.past h.0 past_reports (held_by h.0 h.1.held) ∙ le _ _ h.1.in_order)
      (row_from report (run_start h.0 report)) (row_of_next report h.0 past_reports (held_by h.0 h.1.held)) rows
      (λ q. ap (λ m. get m q) h.3 ∙ after_insert old report.device q _)
  after_report (Ok Same) rows real h =
      taken (by_row limit report moment count h.1.past h.0 past_reports (held_by h.0 h.1.held) ∙ le _ _ h.1.in_order)
      h.0 (row_of_next report h.0 past_reports (held_by h.0 h.1.held) ∙ ap Some (the_same h.0 h.2)) rows
      (λ q. ap (λ m. get m q) h.3 ∙ unchanged h.0 h.1.held q)

-- ---- one more removal

after_removal : (limit : ℕ) (before : List Event) (old : Rows) → Agrees limit before old → (removed : List ℕ) (rows : Rows) → rows ≡ remove old removed → Agrees limit (removal removed ∷ before) rows
after_removal limit before old agrees removed rows is q =
    ap (λ m. get m q) is ∙ after_remove old removed q ∙ ap (cond (bytes_eq q removed) None) (agrees q) ∙ by (bytes_eq q removed)
  where
    by : (t : Bool) → cond t None (row_by (accepted_reports limit before q)) ≡ row_by (cond t [] (accepted_reports limit before q))
    by true = refl
    by false = refl

-- ---- an outcome isn't out of memory

abbrev is_memory : Result Taken BookFault → Bool
is_memory (Ok result) = false
is_memory (Err Future) = false
is_memory (Err Stale) = false
is_memory (Err FleetFull) = false
is_memory (Err NoMemory) = true

abbrev Real : Result Taken BookFault → Type 0
Real result = is_memory result ≡ false

either : (b : Bool) (x y : Result Taken BookFault) → Real x → Real y → Real (cond b x y)
either true x y p q = p
either false x y p q = q

real_at : (row : Option Row) (held limit : ℕ) (report : Report) → Real (outcome_at row held limit report)
real_at None held limit report = either (nat_lt held limit) (Ok New) (Err FleetFull) refl refl
real_at (Some row) held limit report =
    either (nat_lt report.timestamp row.timestamp) (Err Stale) _ refl (either (is_same (reported row) report) (Ok Same) (Ok Changed) refl refl)

real : (rows : Rows) (limit : ℕ) (report : Report) (moment : ℕ) → outcome rows limit report moment ≢ Err NoMemory
real rows limit report moment e =
    false≢true (sym (either (nat_lt moment report.timestamp) (Err Future) _ refl (real_at (get rows report.device) (len rows) limit report)) ∙ ap is_memory e)

-- ---- all of them

next_agrees : (limit : ℕ) (event : Event) (before : List Event) (old rows : Rows) → Agrees limit before old → Follows limit event old rows → Agrees limit (event ∷ before) rows
next_agrees limit (arrival report moment) before old rows agrees h =
    after_report limit before old agrees report moment (outcome old limit report moment) rows (real old limit report moment)
    (subst (Case old limit report moment (outcome old limit report moment)) (sym h) (can_be old limit report moment))
next_agrees limit (removal removed) before old rows agrees h = after_removal limit before old agrees removed rows h

agrees_all : (limit : ℕ) (events : List Event) (rows : Rows) → Leads limit events rows → Agrees limit events rows
agrees_all limit [] rows h = λ q. ap (λ m. get m q) h ∙ get-empty device_cmp q
agrees_all limit (event ∷ before) rows h = next_agrees limit event before h.0 rows (agrees_all limit before h.0 h.1) h.2

pub follows_history : (limit : ℕ) (events : List Event) (rows : Rows) (device : List ℕ) → Leads limit events rows → get rows device ≡ row_by (accepted_reports limit events device)
follows_history limit events rows device h = agrees_all limit events rows h device

-- a list results in one set of rows
one_end : (limit : ℕ) (events : List Event) (rows others : Rows) → Leads limit events rows → Leads limit events others → rows ≡ others
one_end limit events rows others h k = same_map device_total device_exact rows others (λ q. agrees_all limit events rows h q ∙ sym (agrees_all limit events others k q))

pub leads_on : (limit : ℕ) (before : List Event) (event : Event) (rows after : Rows) → Leads limit before rows → (Leads limit (event ∷ before) after ↔ Follows limit event rows after)
leads_on limit before event rows after h = (
  λ on. subst (λ earlier. Follows limit event earlier after) (one_end limit before on.0 rows on.1 h) on.2,
  λ follows. (rows, h, follows),
)

-- ---- every list results in rows

-- what a report makes of the rows, by its outcome
pub follows_report : (limit : ℕ) (report : Report) (moment : ℕ) (rows : Rows) → Follows limit (arrival report moment) rows (rows_after rows report (outcome rows limit report moment))
follows_report limit report moment rows = refl

-- the removal of a device without a row changes nothing
pub follows_absent : (limit : ℕ) (device : List ℕ) (rows : Rows) → get rows device ≡ None → Follows limit (removal device) rows rows
follows_absent limit device rows absent = same_map device_total device_exact rows (remove rows device) (λ q. by q (bytes_eq q device) refl ∙ sym (after_remove rows device q))
  where
    by : (q : List ℕ) (t : Bool) → bytes_eq q device ≡ t → get rows q ≡ cond t None (get rows q)
    by q true same = ap (get rows) ((bytes_eq-Decides q device).0 same) ∙ absent
    by q false apart = refl

next : (limit : ℕ) (event : Event) (old : Rows) → (rows : Rows) × Follows limit event old rows
next limit (arrival report moment) old = (rows_after old report (outcome old limit report moment), follows_report limit report moment old)
next limit (removal removed) old = (remove old removed, refl)

pub always_leads : (limit : ℕ) (events : List Event) → (rows : Rows) × Leads limit events rows
always_leads limit [] = (empty, refl)
always_leads limit (event ∷ before) =
    let earlier = always_leads limit before in
    let on = next limit event earlier.0 in
    (on.0, (earlier.0, earlier.1, on.1))
