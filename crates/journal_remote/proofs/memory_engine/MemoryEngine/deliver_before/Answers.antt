use Rattle.std.proofs.Common.{ap}
use Rattle.journal_remote.specs.Memory.{register_of}
use Rattle.journal_remote.proofs.Memory.{goes_then}
use Rattle.journal_remote.proofs.memory_engine.MemoryEngine.deliver_before.Goals as goal

pub returns-in-BehindHeld-clause-goes : goal.returns-in-BehindHeld-clause-goes
returns-in-BehindHeld-clause-goes c =
    let settled = c.settle.new.self in
    let behind = c.deliver_held.new.self in
    goes_then settled.messages.items behind.messages.items (register_of c.args.self.now.register) (register_of settled.register)
    (register_of behind.register) (ap (λ messages. messages.items) c.deliver_held.ensures.messages) c.settle.ensures.goes
    c.deliver_held.ensures.goes

pub returns-in-BehindClaim-clause-goes : goal.returns-in-BehindClaim-clause-goes
returns-in-BehindClaim-clause-goes c =
    let settled = c.settle.new.self in
    let behind = c.deliver_claim.new.self in
    goes_then settled.messages.items behind.messages.items (register_of c.args.self.now.register) (register_of settled.register)
    (register_of behind.register) (ap (λ messages. messages.items) c.deliver_claim.ensures.messages) c.settle.ensures.goes
    c.deliver_claim.ensures.goes
