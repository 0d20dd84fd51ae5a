use Rattle.std.proofs.Common.{◌≡◌, cond, Some, sym, ap, subst, ◌∷◌, ◌∙◌}
use Rattle.std.specs.BTreeMap.{get, is_at}
use Rattle.journal_compaction.specs.declared.kind.Device.{Device}
use Rattle.journal_compaction.specs.declared.kind.LaterEntries.TheVariants.{Settled}
use Rattle.journal_compaction.specs.Passes.{device_cmp, ahead_of, joined}
use Rattle.journal_compaction.proofs.Known.{updated, joins}
use Rattle.journal_compaction.proofs.choosing.stays.Goals as goal

pub returns-in_ok-insert-in-Report-clause-known : goal.returns-in_ok-insert-in-Report-clause-known
returns-in_ok-insert-in-Report-clause-known c = λ kinds h.
    let device = c.in-Report.device in
    let state = c.in-Report.state in
    let next = c.with_report-next.ensures ∙ ap (joined state) (c.get-ahead.ensures.value ∙ h device) in
    subst (λ kind. (q : Device) → get device_cmp c.insert.new.self q ≡ ahead_of q (kind ∷ kinds)) (sym c.in-Report.is)
    (λ q. updated (λ q. ahead_of q kinds) c.args.behind.now c.insert.new.self device (Some (joined state (ahead_of device kinds)))
    (subst (λ a. (q : Device) → get device_cmp c.insert.new.self q ≡ cond (is_at (device_cmp device) q) (Some a) (get device_cmp c.args.behind.now q)) next
    c.in_ok-insert-in-Report.ensures.updates.0) h q ∙ joins device state kinds q)

pub returns-in_ok-insert-in-Removal-clause-known :
    goal.returns-in_ok-insert-in-Removal-clause-known
returns-in_ok-insert-in-Removal-clause-known c = λ kinds h.
    subst (λ kind. (q : Device) → get device_cmp c.insert-in-Removal.new.self q ≡ ahead_of q (kind ∷ kinds)) (sym c.in-Removal.is)
    (updated (λ q. ahead_of q kinds) c.args.behind.now c.insert-in-Removal.new.self c.in-Removal.device (Some Settled) c.in_ok-insert-in-Removal.ensures.updates.0 h)
