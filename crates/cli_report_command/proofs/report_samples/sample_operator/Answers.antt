use Rattle.std.proofs.Common.{◌≡◌, ◌<◌, ◌+◌, ◌-◌, ◌++◌, ◌∷◌, ℕ, Bool, List, nat_eq, get_or, length, map, take, drop, sym, ap, ◌∙◌, append_assoc, length-drop, drop-drop, arith}
use Rattle.std.proofs.lemmas.Bool.Decides.{nat_tests}
use Rattle.std.proofs.lemmas.List.{drop_more, length-map, take_all}
use Rattle.mds_request.specs.Configuration.{configuration}
use Rattle.journal_entry.specs.Entries.{Entry, entry_of}
use Rattle.journal_samples.specs.Samples.{samples_by}
use Rattle.journal_samples.specs.Standing.{Standing, new_standing}
use Rattle.journal_samples.specs.declared.sample.RuleSample.{RuleSample}
use Rattle.cli_report_command.specs.Reports.{count_told, is_nothing, samples_told}
use Rattle.cli_report_command.specs.declared.report_samples.ReportJournal.{ReportJournal}
use Rattle.cli_report_command.proofs.report_samples.sample_operator.Goals as goal

-- none stand behind the last one
last : {X : Type 0} (f : X → List Entry) (journals : List X) (number : ℕ) → number < length journals
    → nat_eq (number + 1) (length journals) ≡ is_nothing (map f (drop (number + 1) journals))
last f journals number within =
    grind (arith, nat_tests, within, length-map (drop (number + 1) journals) f, length-drop (number + 1) journals)

-- what the journals that are left tell is what the first of them tells, and what the others do of further moments
next : {X : Type 0} (f : X → List Entry) (s : Standing) (journals : List X) (number : ℕ) (journal : X) (moments : List ℕ) (done count : ℕ)
    → number < length journals → journal ≡ get_or journals number journal
    → count ≡ count_told (nat_eq (number + 1) (length journals)) (f journal) (drop done moments)
    → samples_by s (f journal) (take count (drop done moments)) ++ samples_told s (map f (drop (number + 1) journals)) (drop (done + count) moments)
    ≡ samples_told s (map f (drop number journals)) (drop done moments)
next f s journals number journal moments done count within is counted =
    let later = map f (drop (number + 1) journals) in
    let left = drop done moments in
    let here : drop number journals ≡ journal ∷ drop (number + 1) journals =
    drop_more journals number journal within ∙ ap (λ j. j ∷ drop (number + 1) journals) (sym is) in
    let told : count ≡ count_told (is_nothing later) (f journal) left =
    counted ∙ ap (λ (is_last : Bool). count_told is_last (f journal) left) (last f journals number within) in
    ap (λ (ms : List ℕ). samples_by s (f journal) (take count left) ++ samples_told s later ms) (sym (drop-drop count done moments))
    ∙ ap (λ (n : ℕ). samples_by s (f journal) (take n left) ++ samples_told s later (drop n left)) told
    ∙ ap (λ js. samples_told s (map f js) left) (sym here)

pub loop-number-preserved : goal.loop-number-preserved
loop-number-preserved c =
    let s = new_standing (configuration c.args.config.now) c.args.place in
    let journals = c.args.journals.now in
    let moments = c.args.moments.now in
    let number = c.loop-number.number in
    let done = c.loop-number.done in
    let count = c.count_told-count.result in
    let found = c.loop-number.found.samples.items in
    let left = drop done moments in
    let entries = map entry_of c.index-journals-number.result.entries.items in
    let is_last = nat_eq (number + 1) (length journals) in
    let further = samples_told s (map (λ (j : ReportJournal). map entry_of j.entries.items) (drop (number + 1) journals)) (drop (done + count) moments) in
    let whole : take (length moments - done) left ≡ left = take_all (length moments - done) left (omega (arith, length-drop done moments)) in
    let counted : count ≡ count_told is_last entries left =
    c.count_told-count.ensures.count
    ∙ ap (λ es. count_told is_last (map entry_of es) (take (length moments - done) left)) c.deref.ensures.value
    ∙ ap (λ (ms : List ℕ). count_told is_last entries ms) whole in
    record {
      within = omega (arith, c.count_told-count.ensures.within, ap length whole, length-drop done moments, c.loop-number.invariant.within);
      told =
          ap (λ (items : List RuleSample). items ++ further) c.in_ok-append.ensures
          ∙ ap (λ (ms : List ℕ). (found ++ samples_by s entries (take count ms)) ++ further) whole
          ∙ append_assoc found (samples_by s entries (take count left)) further
          ∙ ap (λ (told : List RuleSample). found ++ told)
          (next (λ (j : ReportJournal). map entry_of j.entries.items) s journals number c.index-journals-number.result moments done count c.loop-number-test.true c.index-journals-number.is counted)
          ∙ c.loop-number.invariant.told;
    }
