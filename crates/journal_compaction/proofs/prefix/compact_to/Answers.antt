use Rattle.std.proofs.Common.{◌≡◌, ℕ, List, Ok, subst}
use Rattle.mds_request.specs.Configuration.{read_configuration}
use Rattle.journal_compaction.proofs.prefix.compact_to.Goals as goal

pub new-requires : goal.new-requires
new-requires g c =
    let t = c.in_ok-compact.ensures.thinned in
    let read : read_configuration g.C.ConfigName.text ≡ Ok t.configuration =
    subst (λ (text : List ℕ). read_configuration text ≡ Ok t.configuration) c.requires.named t.read in
    (t.read_back, _, t.back, (t.configuration, read, _, t.is), c.requires.sealed)
