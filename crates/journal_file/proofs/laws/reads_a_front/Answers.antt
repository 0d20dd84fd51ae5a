use Rattle.std.proofs.Common.{◌≡◌, ℕ, ◌<◌, ◌+◌, ◌-◌, List, [], ◌∷◌, ◌++◌, length, take, refl, sym, ap, ◌∙◌, arith, inl, inr}
use Rattle.std.specs.List.{AllByRecursion}
use Rattle.std.proofs.lemmas.Bool.{cases_lt}
use Rattle.std.proofs.lemmas.List.{length-take}
use Rattle.journal_file.specs.Laws.{IsFrontOf}
use Rattle.journal_file.specs.Sum.{sum_over}
use Rattle.journal_file.specs.Records.{Reads, Fits, written, record_of, first_at}
use Rattle.journal_file.proofs.Records.{not_none, first_again, first_cut, record_length, take_behind, short_none}
use Rattle.journal_file.proofs.Written.{first_then}
use Rattle.journal_file.proofs.laws.reads_a_front.Goals as goal

nothing : (before size : ℕ) (found : List (List ℕ)) → Reads before (take size []) found → IsFrontOf found []
nothing before size [] r = ([], refl)
nothing before size (read ∷ found) r = absurd (not_none _ _ (short_none before (take size []) (omega (arith, length-take {A = ℕ} size []))) r.1)

front : (before size : ℕ) (texts found : List (List ℕ)) → AllByRecursion Fits texts → Reads before (take size (written before texts)) found → IsFrontOf found texts
front before size [] found fits r = nothing before size found r
front before size (text ∷ texts) [] fits r = (text ∷ texts, refl)
front before size (text ∷ texts) (read ∷ found) fits r =
    let rest = written (sum_over before text) texts in
    elim (cases_lt size (12 + length text)) [
      | inl lt ↦ absurd (not_none _ _ (first_cut before size text rest fits.0 lt) r.1)
      | inr le ↦
          let left = take (size - length (record_of before text)) rest in
          let behind : take size (record_of before text ++ rest) ≡ record_of before text ++ left = take_behind size (record_of before text) rest (omega (arith, record_length before text, le)) in
          let first = ap (first_at before) behind ∙ first_again before text left fits.0 in
          let on = first_then before (take size (record_of before text ++ rest)) text left read found first r in
          let others = front (sum_over before text) (size - length (record_of before text)) texts found fits.1 on.1 in
          (others.0, ap (λ (x : List (List ℕ)). text ∷ x) others.1 ∙ ap (λ (t : List ℕ). t ∷ (found ++ others.0)) (sym on.0))
    ]

pub returns : goal.returns
returns c = λ before size texts found fits r. front before size texts found fits r
