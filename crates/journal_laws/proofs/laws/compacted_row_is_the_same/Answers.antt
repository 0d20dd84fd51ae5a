use Rattle.std.proofs.Common.{◌≡◌, ℕ, Bool, true, false, cond, List, [], ◌∷◌, Some, refl, ap, ◌∙◌, rules}
use Rattle.std.specs.Prelude.{bytes_eq}
use Rattle.mds_fleet.specs.Books.{Report, row_from}
use Rattle.mds_fleet.specs.History.{row_by, run_from}
use Rattle.journal_laws.specs.Persisted.{run_begun, thinned}
use Rattle.journal_laws.proofs.laws.compacted_row_is_the_same.Goals as goal

state_by : (state : List ℕ) (b : Bool) (x y : Report) → (b ≡ true → bytes_eq x.state state ≡ true) → bytes_eq y.state state ≡ true
    → bytes_eq (cond b x y).state state ≡ true
state_by state true x y h k = h refl
state_by state false x y h k = k

-- the report that began the run has its state
same_state : (state : List ℕ) (first : Report) (earlier : List Report) → bytes_eq first.state state ≡ true
    → bytes_eq (run_begun state first earlier).state state ≡ true
same_state state first [] is = is
same_state state first (report ∷ earlier) is =
    state_by state (bytes_eq report.state state) (run_begun state report earlier) first (λ same. same_state state report earlier same) is

time_by : (b : Bool) (x y : Report) (n m : ℕ) → x.timestamp ≡ n → y.timestamp ≡ m → (cond b x y).timestamp ≡ cond b n m
time_by true x y n m h k = h
time_by false x y n m h k = k

-- and its timestamp is when it began
began : (state : List ℕ) (first : Report) (earlier : List Report) → (run_begun state first earlier).timestamp ≡ run_from state first.timestamp earlier
began state first [] = refl
began state first (report ∷ earlier) =
    time_by (bytes_eq report.state state) (run_begun state report earlier) first _ _ (began state report earlier) refl

same_row : (reports : List Report) → row_by (thinned reports) ≡ row_by reports
same_row [] = refl
same_row (last ∷ earlier) =
    let first = run_begun last.state last earlier in
    let same : bytes_eq first.state last.state ≡ true = same_state last.state last earlier (search rules) in
    let one : run_from last.state last.timestamp (first ∷ []) ≡ first.timestamp = rw same refl in
    ap (λ (since : ℕ). Some (row_from last since)) (one ∙ began last.state last earlier)

pub returns : goal.returns
returns c = same_row
