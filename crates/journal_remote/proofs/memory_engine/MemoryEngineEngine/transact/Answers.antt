use Rattle.std.proofs.Common.{sym, subst, ◌∙◌}
use Rattle.journal_register.specs.declared.outcome.Answer.TheVariants.{Missing}
use Rattle.journal_register.specs.Register.{Message}
use Rattle.journal_remote.specs.declared.memory_register.MemoryRegister.{MemoryRegister}
use Rattle.journal_remote.specs.Memory.{register_of, is_sent, any_owner}
use Rattle.journal_remote.specs.Passing.{Exchanges}
use Rattle.journal_remote.proofs.Passing.{goes_nowhere, silence}
use Rattle.journal_remote.proofs.memory_engine.MemoryEngineEngine.transact.Goals as goal

-- without memory nothing is sent
pub returns-in_default-clause-goes : goal.returns-in_default-clause-goes
returns-in_default-clause-goes c =
    let m : Message = record { transaction = c.args.transaction.now; bytes = c.args.bytes.now } in
    let sends = is_sent c.keep.new.self.messages.items in
    let k = register_of c.args.self.now.register in
    subst (λ (r : MemoryRegister). Exchanges any_owner sends m Missing k (register_of r))
    (sym (c.keep.ensures.register ∙ c.next_delivery-delivery.ensures.register))
    (silence any_owner sends m k k (goes_nowhere any_owner sends k))
