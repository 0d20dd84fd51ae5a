use Rattle.std.proofs.Common.{◌≡◌, true, List, length, refl, ap, sym, subst, ◌∙◌}
use Rattle.std.specs.Prelude.{ℕ, Some, slice_get}
use Rattle.std.proofs.lemmas.Option.{slice_get_read}
use Rattle.journal_register.specs.Register.{Message}
use Rattle.journal_remote.specs.declared.memory_engine.MemoryMessage.{MemoryMessage}
use Rattle.journal_remote.specs.Memory.{message_of, register_of, is_sent}
use Rattle.journal_remote.proofs.Memory.{goes_one, sent_at}
use Rattle.journal_remote.proofs.memory_engine.MemoryEngine.deliver_late.Goals as goal

pub returns-clause-goes : goal.returns-clause-goes
returns-clause-goes c =
    let now = c.args.self.now in
    let xs = now.messages.items in
    let x : MemoryMessage = c.in-Some-get.message.now in
    let m : Message = record { transaction = x.transaction; bytes = c.deref-2.result.now } in
    let same : message_of x ≡ m = ap (λ (bytes : List ℕ). record { transaction = x.transaction; bytes = bytes }) (sym c.deref-2.ensures.value) in
    let ys = c.deref.result.now in
    let lookup = c.in-Some-get.ensures.lookup in
    let there = slice_get_read ys (length ys) c.in-Some.index x refl lookup.3.0 lookup.1 in
    let found : slice_get xs c.in-Some.index ≡ Some x =
    ap (λ (zs : List MemoryMessage). slice_get zs c.in-Some.index) (sym c.deref.ensures.value) ∙ there in
    let sent : is_sent xs m ≡ true = subst (λ (n : Message). is_sent xs n ≡ true) same (sent_at xs c.in-Some.index x found) in
    goes_one (is_sent xs) m c.receive.result (register_of now.register) (register_of c.receive.new.self) c.receive.ensures (λ own. sent)
