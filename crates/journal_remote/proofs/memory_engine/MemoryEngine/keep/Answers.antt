use Rattle.std.proofs.Common.{◌≡◌, true, List, [], ◌∷◌, ◌++◌, inl, inr, sym, ap, subst, ◌∙◌}
use Rattle.journal_register.specs.Register.{Message}
use Rattle.journal_remote.specs.declared.memory_engine.MemoryMessage.{MemoryMessage}
use Rattle.journal_remote.specs.Memory.{is_sent, message_of}
use Rattle.journal_remote.proofs.Memory.{sent_one, sent_still, sent_last}
use Rattle.journal_remote.proofs.memory_engine.MemoryEngine.keep.Goals as goal

pub returns-clause-sent : goal.returns-clause-sent
returns-clause-sent c m is =
    let old = c.args.self.now.messages.items in
    let x : MemoryMessage = record { transaction = c.args.transaction.now; bytes = c.in-Ok.bytes } in
    let items : c.push.new.self.items ≡ old ++ x ∷ [] = c.in-Ok-push.ensures.items in
    let same = ap (λ bytes. record { transaction = c.args.transaction.now; bytes = bytes }) c.in-Ok.ensures.items in
    elim (sent_one old x m (subst (λ (xs : List MemoryMessage). is_sent xs m ≡ true) items is)) [
      | inl one ↦ inl (one ∙ same)
      | inr before ↦ inr before
    ]

pub returns-clause-kept : goal.returns-clause-kept
returns-clause-kept c m is =
    let old = c.args.self.now.messages.items in
    let x : MemoryMessage = record { transaction = c.args.transaction.now; bytes = c.in-Ok.bytes } in
    let items : c.push.new.self.items ≡ old ++ x ∷ [] = c.in-Ok-push.ensures.items in
    subst (λ (xs : List MemoryMessage). is_sent xs m ≡ true) (sym items) (sent_still old x m is)

pub returns-clause-last : goal.returns-clause-last
returns-clause-last c some =
    let old = c.args.self.now.messages.items in
    let x : MemoryMessage = record { transaction = c.args.transaction.now; bytes = c.in-Ok.bytes } in
    let items : c.push.new.self.items ≡ old ++ x ∷ [] = c.in-Ok-push.ensures.items in
    let one : Message = record { transaction = c.args.transaction.now; bytes = c.args.bytes.now } in
    let same : message_of x ≡ one = ap (λ bytes. record { transaction = c.args.transaction.now; bytes = bytes }) c.in-Ok.ensures.items in
    subst (λ (xs : List MemoryMessage). is_sent xs one ≡ true) (sym items)
    (subst (λ (m : Message). is_sent (old ++ x ∷ []) m ≡ true) same (sent_last old x))
