-- What is sampled is what a compliance report has.
use Rattle.std.proofs.Common.{codes, length, sym, ap}
use Rattle.std.proofs.lemmas.Simd.{map-map}
use Rattle.mds_verdict.specs.Verdict.{reported}
use Rattle.mds_catalog.specs.Publication.{in_force}
use Rattle.mds_machine.specs.Answer.{told}
use Rattle.mds_machine.specs.Bodies.{compliance_json, list_json}
use Rattle.journal_samples.specs.Samples.{SamplesAreAnswers, judged}

pub answers : SamplesAreAnswers
answers s operator t =
    ap (λ reports. told (compliance_json t (codes "policies") (list_json reports) (length s.publications)))
    (sym (map-map (λ e. reported e.0 e.1) (judged s t) (in_force s.publications operator.id t)))
