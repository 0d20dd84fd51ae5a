-- Cells and rows, put together.
use Rattle.std.proofs.Common.{◌≡◌, ◌<◌, ℕ, ◌+◌, List, [], ◌∷◌, ◌++◌, map, take, length, get_or, refl, sym, ap, subst, ◌∙◌, arith}
use Rattle.std.proofs.lemmas.List.{map-append, take_more}
use Rattle.csv.specs.Writing.{row_text}
use Rattle.mds_match.specs.Zone.{ZoneKind}
use Rattle.mds_policy.specs.Policy.{Policy}
use Rattle.journal_samples.specs.declared.sample.RuleSample.{RuleSample}
use Rattle.cli_report.specs.Cells.{AreFields, Cell, IsField, IsRow, IsText, cell_view}
use Rattle.cli_report.specs.Csv.{guarded, row_style}
use Rattle.cli_report.specs.Days.{IsOrdered, day_sample}
use Rattle.cli_report.specs.Names.{Label, label_of}
use Rattle.cli_report.specs.Rows.{IsDays, IsSummary, Operator, day_cells, day_row, tally_of}
use Rattle.cli_report.specs.Texts.{Appends}
use Rattle.cli_report.specs.declared.cell.CellValue as program
use Rattle.cli_report.specs.declared.days.DaySample.{DaySample}
use Rattle.cli_report.specs.declared.summary.Tally.{Tally}

pub field_made : (zone : ZoneKind) (c : Cell) (plain lent field : List ℕ) → IsText zone c plain → lent ≡ plain → field ≡ guarded lent → IsField zone c field
unfolding IsField
field_made zone c plain lent field is same made = (plain, is, made ∙ ap guarded same)

-- one cell more
fields_more : (zone : ZoneKind) (cells : List Cell) (fields : List (List ℕ)) (c : Cell) (field : List ℕ) → AreFields zone cells fields → IsField zone c field
    → AreFields zone (cells ++ c ∷ []) (fields ++ field ∷ [])
fields_more zone [] fields c field are is = (field, [], is, refl, ap (λ fs. fs ++ field ∷ []) are)
fields_more zone (x ∷ cells) fields c field are is =
    (are.0, are.1 ++ field ∷ [], are.2, fields_more zone cells are.1 c field are.3 is, ap (λ fs. fs ++ field ∷ []) are.4)

pub field_more : (zone : ZoneKind) (cells : List program.CellValue) (i : ℕ) (k : program.CellValue) (old new : List (List ℕ)) (begun lent field : List ℕ)
    → i < length cells → k ≡ get_or cells i k → AreFields zone (map cell_view (take i cells)) old → IsField zone (cell_view k) field → begun ≡ []
    → lent ≡ field → new ≡ old ++ (begun ++ lent) ∷ [] → AreFields zone (map cell_view (take (i + 1) cells)) new
field_more zone cells i k old new begun lent field within is so_far made none same grown =
    let all =
    ap (λ y. map cell_view (take i cells) ++ cell_view y ∷ []) is
    ∙ sym (map-append cell_view (take i cells) (get_or cells i k ∷ []))
    ∙ ap (map cell_view) (sym (take_more cells i k within)) in
    let fields = grown ∙ ap (λ b. old ++ (b ++ lent) ∷ []) none ∙ ap (λ f. old ++ f ∷ []) same in
    subst (λ cs. AreFields zone cs new) all
    (subst (AreFields zone (map cell_view (take i cells) ++ cell_view k ∷ [])) (sym fields)
    (fields_more zone (map cell_view (take i cells)) old (cell_view k) field so_far made))

pub row_made : (zone : ZoneKind) (cells : List Cell) (fields : List (List ℕ)) (row lent old new : List ℕ) → AreFields zone cells fields
    → row ≡ row_text row_style fields → lent ≡ row → new ≡ old ++ lent → Appends (IsRow zone cells) old new
unfolding IsRow
row_made zone cells fields row lent old new are is same made = (row, (fields, are, is), made ∙ ap (λ s. old ++ s) same)

-- the row of a day by its first sample
day_row_is : (o : Operator) (policies : List Policy) (samples : List DaySample) (s : DaySample) → 0 < length samples → s ≡ get_or samples 0 s
    → day_cells o (label_of policies s.policy s.number) s (tally_of samples) ≡ day_row o policies samples
day_row_is o policies [] s some is = absurd (omega (arith, some))
day_row_is o policies (x ∷ samples) s some is = ap (λ k. day_cells o (label_of policies k.policy k.number) k (tally_of (x ∷ samples))) is

pub day_made : (zone : ZoneKind) (o : Operator) (policies : List Policy) (samples : List DaySample) (s : DaySample)
    (label : Label) (tally : Tally) (old new : List ℕ) → 0 < length samples → s ≡ get_or samples 0 s
    → label ≡ label_of policies s.policy s.number → tally ≡ tally_of samples → Appends (IsRow zone (day_cells o label s tally)) old new
    → Appends (IsRow zone (day_row o policies samples)) old new
day_made zone o policies samples s label tally old new some is labelled tallied made =
    subst (λ cells. Appends (IsRow zone cells) old new)
    (ap (λ l. day_cells o l s tally) labelled
    ∙ ap (day_cells o (label_of policies s.policy s.number) s) tallied
    ∙ day_row_is o policies samples s some is)
    made

pub summed : (zone : ZoneKind) (o : Operator) (policies trees : List Policy) (samples : List RuleSample)
    (ordered lent : List DaySample) (old new : List ℕ) → trees ≡ policies → lent ≡ ordered → IsOrdered (map (day_sample zone) samples) ordered
    → Appends (IsDays zone o trees lent) old new → Appends (IsSummary zone o policies samples) old new
summed zone o policies trees samples ordered lent old new same_trees same_days is made =
    let rows = subst (λ ps. IsDays zone o ps lent made.0) same_trees made.1 in
    (made.0, (ordered, is, subst (λ days. IsDays zone o policies days made.0) same_days rows), made.2)
