use Rattle.std.proofs.Common.{◌≡◌, Some, None, sym, subst, ◌∷◌}
use Rattle.std.specs.BTreeMap.{get}
use Rattle.journal_compaction.specs.declared.kind.Device.{Device}
use Rattle.journal_compaction.specs.Staying.{state_before}
use Rattle.journal_compaction.specs.Passes.{device_cmp}
use Rattle.journal_compaction.proofs.Known.{updated}
use Rattle.journal_compaction.proofs.choosing.begins_run.Goals as goal

pub returns-in_ok-insert-in-Report-clause-known : goal.returns-in_ok-insert-in-Report-clause-known
returns-in_ok-insert-in-Report-clause-known c = λ before h.
    subst (λ kind. (q : Device) → get device_cmp c.insert.new.self q ≡ state_before q (kind ∷ before)) (sym c.in-Report.is)
    (updated (λ q. state_before q before) c.args.states.now c.insert.new.self c.in-Report.device (Some c.in-Report.state) c.in_ok-insert-in-Report.ensures.updates.0 h)

pub returns-in-Removal-clause-known : goal.returns-in-Removal-clause-known
returns-in-Removal-clause-known c = λ before h.
    subst (λ kind. (q : Device) → get device_cmp c.remove.new.self q ≡ state_before q (kind ∷ before)) (sym c.in-Removal.is)
    (updated (λ q. state_before q before) c.args.states.now c.remove.new.self c.in-Removal.device None c.remove.ensures.updates.0 h)
