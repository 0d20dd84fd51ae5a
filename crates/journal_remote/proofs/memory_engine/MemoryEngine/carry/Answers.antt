use Rattle.std.proofs.Common.{◌≡◌, true, ap, ◌∙◌}
use Rattle.journal_register.specs.Register.{Message}
use Rattle.journal_remote.specs.Memory.{register_of, is_sent}
use Rattle.journal_remote.proofs.Memory.{unanswered}
use Rattle.journal_remote.proofs.memory_engine.MemoryEngine.carry.Goals as goal

-- the message came, and its answer is lost
pub returns-then-eq-clause-goes : goal.returns-then-eq-clause-goes
returns-then-eq-clause-goes c =
    let m : Message = record { transaction = c.args.transaction.now; bytes = c.args.bytes.now } in
    let before = c.deliver_before.new.self in
    let sent : is_sent before.messages.items m ≡ true =
    ap (λ messages. is_sent messages.items m) c.deliver_before.ensures.messages ∙ c.requires.sent in
    unanswered (is_sent before.messages.items) m c.receive-answer.result (register_of c.args.self.now.register)
    (register_of before.register) (register_of c.receive-answer.new.self) c.deliver_before.ensures.goes c.receive-answer.ensures sent
