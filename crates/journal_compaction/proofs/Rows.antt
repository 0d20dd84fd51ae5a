-- What compaction keeps of a device's reports, and the row that they lead to.
use Rattle.std.proofs.Common.{◌≡◌, ℕ, ◌&&◌, Bool, true, false, not, cond, refl, sym, ap, subst, ◌∙◌}
use Rattle.std.proofs.Common.{List, [], ◌∷◌, ◌++◌, map, reverse, bytes_eq, Option, Some, None, Result, Ok, Err, append_assoc}
use Rattle.std.specs.Prelude.{option_map}
use Rattle.std.proofs.lemmas.Grind.{reverse_onto}
use Rattle.mds_text.specs.Fault.{Fault}
use Rattle.mds_fleet.specs.Books.{Report as Told, row_from}
use Rattle.mds_fleet.specs.History.{row_by, run_from}
use Rattle.mds_fleet.specs.Reading.{read_report}
use Rattle.journal_laws.specs.Persisted.{run_begun, ThinnedIsTheSame}
use Rattle.journal_compaction.specs.declared.kind.Device.{Device}
use Rattle.journal_compaction.specs.declared.kind.EntryKind.{EntryKind}
use Rattle.journal_compaction.specs.declared.kind.EntryKind.TheVariants.{Report, Removal, Other}
use Rattle.journal_compaction.specs.declared.kind.LaterEntries.{LaterEntries}
use Rattle.journal_compaction.specs.declared.kind.LaterEntries.TheVariants.{Run, Settled}
use Rattle.journal_compaction.specs.Staying.{is_same, state_before, begins, stays, staying, picked}
use Rattle.journal_compaction.specs.Passes.{joined, ahead_of, stays_by}
use Rattle.mds_request.specs.Call.{call_of}
use Rattle.mds_request.specs.Configuration.{Configuration}
use Rattle.mds_request.specs.declared.call.Call.{Call}
use Rattle.mds_request.specs.declared.call.Call.TheVariants.{Operator as OperatorAt}
use Rattle.mds_request.specs.declared.call.OperatorCall.TheVariants.{Report as Reports, RemoveVehicle}
use Rattle.mds_request.specs.declared.code.Code.{Code}
use Rattle.journal_entry.specs.Entries.{Entry}
use Rattle.journal_entry.specs.Requests.{actor_by, token_of, with_token}
use Rattle.journal_compaction.specs.Kinds.{as_report, kind_by, kind_asked, kind_of}
use Rattle.journal_compaction.specs.Compacting.{thinned}
use Rattle.journal_compaction.specs.Laws.{added, reports_since, RowsStay}
use Rattle.journal_compaction.proofs.Known.{stays_as_known, same_is, equal_bytes, same_bytes, apart}

-- the report that began the run of this state, where the last one has it
abbrev begun_of : List ℕ → List Told → List Told
begun_of state [] = []
begun_of state (report ∷ earlier) = cond (bytes_eq report.state state) (run_begun state report earlier ∷ []) []

-- what is kept of a device's reports, the last one first, by what comes after them
abbrev pub expected : Option LaterEntries → List Told → List Told
expected None [] = []
expected None (last ∷ earlier) = last ∷ begun_of last.state earlier
expected (Some (Run state)) reports = begun_of state reports
expected (Some Settled) reports = []

abbrev pub head_state : List Told → Option (List ℕ)
head_state [] = None
head_state (report ∷ earlier) = Some report.state

-- the body of a report reads as one of its state
abbrev pub Fits : EntryKind → Result Told Fault → Type 0
Fits (Report device state) read = (report : Told) × (read ≡ Ok report) × (report.state ≡ state)
Fits (Removal device) read = Unit {0}
Fits Other read = Unit {0}

-- a further report in a run of the same state
in_run : (r : Told) (reports : List Told)
    → cond (begins r.state (head_state reports)) (r ∷ begun_of r.state reports) (begun_of r.state reports) ≡ run_begun r.state r reports ∷ []
in_run r [] = refl
in_run r (h ∷ earlier) = by (bytes_eq h.state r.state)
  where
    by : (same : Bool) → cond (not same) (r ∷ cond same (run_begun r.state h earlier ∷ []) []) (cond same (run_begun r.state h earlier ∷ []) [])
        ≡ cond same (run_begun r.state h earlier) r ∷ []
    by true = refl
    by false = refl

-- a report of the device
reported : (r : Told) (ahead : Option LaterEntries) (reports : List Told)
    → cond (stays_by r.state (begins r.state (head_state reports)) ahead)
    (r ∷ expected (Some (joined r.state ahead)) reports) (expected (Some (joined r.state ahead)) reports)
    ≡ expected ahead (r ∷ reports)
reported r None reports = refl
reported r (Some Settled) reports = refl
reported r (Some (Run u)) reports = by (bytes_eq u r.state) refl
  where
    by : (same : Bool) → bytes_eq u r.state ≡ same
        → cond (same && begins r.state (head_state reports))
        (r ∷ expected (Some (cond same (Run r.state) Settled)) reports) (expected (Some (cond same (Run r.state) Settled)) reports)
        ≡ cond (bytes_eq r.state u) (run_begun u r reports ∷ []) []
    by true is =
        in_run r reports
        ∙ subst (λ s. run_begun r.state r reports ∷ [] ≡ cond (bytes_eq r.state s) (run_begun s r reports ∷ []) []) (sym (equal_bytes u r.state is))
        (ap (λ b. cond b (run_begun r.state r reports ∷ []) []) (sym (same_bytes r.state)))
    by false is = ap (λ b. cond b (run_begun u r reports ∷ []) []) (sym (apart u r.state is))

same_either : {A : Type 0} (b : Bool) (x : A) → cond b x x ≡ x
same_either true x = refl
same_either false x = refl

-- a report of the device, by what comes before it and after it
at_device : (device other : Device) (before behind : List EntryKind) (state : List ℕ) (r : Told) (reports kept : List Told) → r.state ≡ state → other ≡ device
    → kept ≡ expected (Some (joined state (ahead_of device behind))) reports → state_before device before ≡ head_state reports
    → cond (stays before (Report other state) behind) (r ∷ kept) kept ≡ expected (ahead_of device behind) (r ∷ reports)
at_device device other before behind state r reports kept is_state is_device is known =
    let ahead = ahead_of device behind in
    let stays_is : stays before (Report other state) behind ≡ stays_by state (begins state (head_state reports)) ahead =
    sym (stays_as_known before (Report other state) behind)
    ∙ ap (λ d. stays_by state (begins state (state_before d before)) (ahead_of d behind)) is_device
    ∙ ap (λ told. stays_by state (begins state told) ahead) known in
    ap (λ b. cond b (r ∷ kept) kept) stays_is
    ∙ ap (λ ks. cond (stays_by state (begins state (head_state reports)) ahead) (r ∷ ks) ks) is
    ∙ subst (λ s. cond (stays_by s (begins s (head_state reports)) ahead) (r ∷ expected (Some (joined s ahead)) reports) (expected (Some (joined s ahead)) reports)
    ≡ expected ahead (r ∷ reports)) is_state (reported r ahead reports)

nothing : (ahead : Option LaterEntries) → [] ≡ expected ahead []
nothing None = refl
nothing (Some (Run state)) = refl
nothing (Some Settled) = refl

-- one entry more: what is kept
kept_more : (device : Device) (before behind : List EntryKind) (kind : EntryKind) (read : Result Told Fault) (reports kept : List Told) → Fits kind read
    → kept ≡ expected (ahead_of device (kind ∷ behind)) reports → state_before device before ≡ head_state reports
    → cond (stays before kind behind) (added device kind read kept) kept ≡ expected (ahead_of device behind) (added device kind read reports)
kept_more device before behind Other read reports kept fits is known = is
kept_more device before behind (Removal other) read reports kept fits is known = by (is_same other device) is
  where
    by : (same : Bool) → kept ≡ expected (cond same (Some Settled) (ahead_of device behind)) reports
        → kept ≡ expected (ahead_of device behind) (cond same [] reports)
    by true is = is ∙ nothing (ahead_of device behind)
    by false is = is
kept_more device before behind (Report other state) read reports kept fits is known =
    subst (λ m. cond (stays before (Report other state) behind) (added device (Report other state) m kept) kept
    ≡ expected (ahead_of device behind) (added device (Report other state) m reports)) (sym fits.1) (by (is_same other device) refl is)
  where
    by : (same : Bool) → is_same other device ≡ same
        → kept ≡ expected (cond same (Some (joined state (ahead_of device behind))) (ahead_of device behind)) reports
        → cond (stays before (Report other state) behind) (cond same (fits.0 ∷ kept) kept) kept
        ≡ expected (ahead_of device behind) (cond same (fits.0 ∷ reports) reports)
    by true at is = at_device device other before behind state fits.0 reports kept fits.2 (same_is other device at) is known
    by false at is = same_either (stays before (Report other state) behind) kept ∙ is

-- and what is known of the device
known_more : (device : Device) (before : List EntryKind) (kind : EntryKind) (read : Result Told Fault) (reports : List Told) → Fits kind read
    → state_before device before ≡ head_state reports → state_before device (kind ∷ before) ≡ head_state (added device kind read reports)
known_more device before Other read reports fits known = known
known_more device before (Removal other) read reports fits known = by (is_same other device)
  where
    by : (same : Bool) → cond same None (state_before device before) ≡ head_state (cond same [] reports)
    by true = refl
    by false = known
known_more device before (Report other state) read reports fits known =
    by (is_same other device) ∙ ap (λ r. head_state (added device (Report other state) r reports)) (sym fits.1)
  where
    by : (same : Bool) → cond same (Some state) (state_before device before) ≡ head_state (cond same (fits.0 ∷ reports) reports)
    by true = ap (λ s. Some s) (sym fits.2)
    by false = known

-- what is kept of all reports leads to their row
row_of_expected : ThinnedIsTheSame → (reports : List Told) → row_by (expected None reports) ≡ row_by reports
row_of_expected law [] = refl
row_of_expected law (last ∷ []) = refl
row_of_expected law (last ∷ h ∷ earlier) = by (bytes_eq h.state last.state) refl
  where
    by : (same : Bool) → bytes_eq h.state last.state ≡ same
        → row_by (last ∷ cond same (run_begun last.state h earlier ∷ []) []) ≡ row_by (last ∷ h ∷ earlier)
    by true is = ap (λ b. row_by (last ∷ cond b (run_begun last.state h earlier) last ∷ [])) (sym is) ∙ law (last ∷ h ∷ earlier)
    by false is = ap (λ b. Some (row_from last (cond b (run_from last.state h.timestamp earlier) last.timestamp))) (sym is)

append_nil : {A : Type 0} (xs : List A) → xs ++ [] ≡ xs
append_nil [] = refl
append_nil (x ∷ xs) = ap (λ rest. x ∷ rest) (append_nil xs)

fits_read : (operator : ℕ) (read : Result Told Fault) → Fits (as_report operator read) read
fits_read operator (Ok report) = (report, refl, refl)
fits_read operator (Err fault) = tt

fits_call : (call : Result Call Code) (body : List ℕ) → Fits (kind_by call body) (read_report body)
fits_call (Ok (OperatorAt operator Reports)) body = fits_read operator (read_report body)
fits_call (Ok (OperatorAt operator (RemoveVehicle id))) body = tt
fits_call other body = tt

fits_asked : (configuration : Configuration) (e : Entry) (token : Option (List ℕ))
    → Fits (kind_asked configuration (option_map (with_token e) token)) (read_report e.body)
fits_asked configuration e None = tt
fits_asked configuration e (Some token) = fits_call (call_of configuration (with_token e token)) e.body

fits_entry : (configuration : Configuration) (e : Entry) → Fits (kind_of configuration e) (read_report e.body)
fits_entry configuration e = fits_asked configuration e (token_of configuration (actor_by configuration e.client))

module _ (configuration : Configuration) (device : Device) where
  -- a device's reports after some entries, the first one first
  abbrev pub run : List Told → List Entry → List Told
  run reports [] = reports
  run reports (e ∷ entries) = run (added device (kind_of configuration e) (read_report e.body) reports) entries

  run_onto : (entries before : List Entry) → reports_since configuration device (reverse entries ++ before) ≡ run (reports_since configuration device before) entries
  run_onto [] before = refl
  run_onto (e ∷ entries) before =
      ap (λ front. reports_since configuration device (front ++ before)) (reverse_onto entries e [])
      ∙ ap (reports_since configuration device) (append_assoc (reverse entries) (e ∷ []) before)
      ∙ run_onto entries (e ∷ before)

  pub run_all : (entries : List Entry) → reports_since configuration device (reverse entries) ≡ run [] entries
  run_all entries = ap (reports_since configuration device) (sym (append_nil (reverse entries))) ∙ run_onto entries []

  run_picked : (mark : Bool) (marks : List Bool) (e : Entry) (entries : List Entry) (reports : List Told)
      → run reports (picked (mark ∷ marks) (e ∷ entries))
      ≡ run (cond mark (added device (kind_of configuration e) (read_report e.body) reports) reports) (picked marks entries)
  run_picked true marks e entries reports = refl
  run_picked false marks e entries reports = refl

  row_stays : ThinnedIsTheSame → (entries : List Entry) (before : List EntryKind) (reports kept : List Told)
      → kept ≡ expected (ahead_of device (map (kind_of configuration) entries)) reports → state_before device before ≡ head_state reports
      → row_by (run kept (picked (staying before (map (kind_of configuration) entries)) entries)) ≡ row_by (run reports entries)
  row_stays law [] before reports kept is known = ap row_by is ∙ row_of_expected law reports
  row_stays law (e ∷ entries) before reports kept is known =
      let kind = kind_of configuration e in
      let behind = map (kind_of configuration) entries in
      let read = read_report e.body in
      ap row_by (run_picked (stays before kind behind) (staying (kind ∷ before) behind) e entries kept)
      ∙ row_stays law entries (kind ∷ before) (added device kind read reports) (cond (stays before kind behind) (added device kind read kept) kept)
      (kept_more device before behind kind read reports kept (fits_entry configuration e) is known)
      (known_more device before kind read reports (fits_entry configuration e) known)

pub rows_stay : ThinnedIsTheSame → RowsStay
rows_stay law configuration entries device =
    ap row_by (run_all configuration device (thinned configuration entries))
    ∙ row_stays configuration device law entries [] [] [] (nothing (ahead_of device (map (kind_of configuration) entries))) refl
    ∙ ap row_by (sym (run_all configuration device entries))
