use Rattle.std.proofs.Common.{[]}
use Rattle.journal_register.specs.Register.{Message}
use Rattle.journal_remote.specs.Memory.{register_of, is_sent}
use Rattle.journal_remote.proofs.Memory.{claim_puts, goes_one}
use Rattle.journal_remote.proofs.memory_engine.MemoryEngine.deliver_claim.Goals as goal

-- a claim isn't a message of an owner
pub returns-in-Some-clause-goes : goal.returns-in-Some-clause-goes
returns-in-Some-clause-goes c =
    let now = c.args.self.now in
    let m : Message = record { transaction = c.in-Some.claim; bytes = [] } in
    goes_one (is_sent now.messages.items) m c.receive.result (register_of now.register) (register_of c.receive.new.self) c.receive.ensures
    (λ own. absurd (claim_puts now.register.owner c.args.nonce c.in-Some.claim c.in-Some.ensures.value own.1))
