-- What a report is made of: which operators, and what several journals tell of one.
use Rattle.std.specs.Prelude.{ℕ, ◌==◌, Bool, ◌||◌, List, [], ◌∷◌, ◌++◌, length, map, take, drop, bytes_eq, if◌then◌else◌}
use Rattle.std.specs.List.{enumerate_from, filter, list_any}
use Rattle.mds_request.specs.Configuration.{Operator}
use Rattle.journal_entry.specs.Entries.{Entry}
use Rattle.journal_folder.specs.Latest.{latest}
use Rattle.journal_samples.specs.Journals.{covered}
use Rattle.journal_samples.specs.Samples.{samples_by}
use Rattle.journal_samples.specs.Standing.{Standing}
use Rattle.journal_samples.specs.declared.sample.RuleSample.{RuleSample}

abbrev pub is_nothing : {A : Type 0} → List A → Bool
is_nothing xs = length xs == 0

-- an operator that is reported: of these identifiers, or any where there are none
abbrev pub is_reported : List (List ℕ) → Operator → Bool
is_reported ids o = is_nothing ids || list_any (bytes_eq o.id) ids

-- the places of the operators that are reported, in the configuration's order
abbrev pub reported_places : List (List ℕ) → List Operator → List ℕ
reported_places ids operators = map (λ e. e.0) (filter (λ e. is_reported ids e.1) (enumerate_from 0 operators))

-- how many moments a journal tells of, from the first one on: the last journal of all that are left
abbrev pub count_told : (is_last : Bool) → List Entry → List ℕ → ℕ
count_told is_last entries moments = if is_last then length moments else covered (latest entries) moments

-- the samples that journals tell, which are in the order of their latest entries
abbrev pub samples_told : Standing → List (List Entry) → List ℕ → List RuleSample
samples_told s [] moments = []
samples_told s (entries ∷ journals) moments =
    let count = count_told (is_nothing journals) entries moments in
    samples_by s entries (take count moments) ++ samples_told s journals (drop count moments)
