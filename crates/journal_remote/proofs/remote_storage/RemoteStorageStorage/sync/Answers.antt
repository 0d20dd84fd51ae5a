use Rattle.std.proofs.Common.{◌≡◌, Bool, true, sym, subst, ◌∙◌}
use Rattle.std.proofs.lemmas.Bool.{true≢false}
use Rattle.journal_register.specs.declared.owner.Owner.{Owner}
use Rattle.journal_register.specs.Register.{Message}
use Rattle.journal_remote.specs.Kept.{AreSettled}
use Rattle.journal_register.proofs.Orders.{same_owner}
use Rattle.journal_remote.proofs.Known.{are_current_on, keeps_on}
use Rattle.journal_remote.proofs.remote_storage.RemoteStorageStorage.sync.Goals as goal

pub returns-then-self-2-clause-synced : goal.returns-then-self-2-clause-synced
returns-then-self-2-clause-synced g c = λ k e.
    sym (same_owner c.args.self.now.tenure.owner k.owner (c.args.self.now.confirmed c.if-self-2.true k e))

pub invariant_of-self-in_default : goal.invariant_of-self-in_default
invariant_of-self-in_default g c =
    let s = c.args.self.now in
    let owner = s.tenure.owner in
    let head = s.tenure.head in
    let is_own = g.E.Engine.is_own s.engine in
    let sends = g.E.Engine.sends c.look.new.engine in
    let settled : AreSettled sends owner head = subst (λ (f : Message → Bool). AreSettled f owner head) (sym c.look.ensures.sent) (s.settled c.if-self.false) in
    record {
      own = subst (λ (f : Owner → Bool). f owner ≡ true) (sym c.look.ensures.own) s.own;
      settled = λ _. settled;
      current = λ _. are_current_on owner head is_own sends (g.E.Engine.register s.engine) (g.E.Engine.register c.look.new.engine) c.look.ensures.goes s.own settled (s.current c.if-self.false);
      confirmed = λ e. absurd (true≢false (sym e ∙ c.if-self-2.false));
    }

pub invariant_of-self-else-not-confirms : goal.invariant_of-self-else-not-confirms
invariant_of-self-else-not-confirms g c =
    let s = c.args.self.now in
    let owner = s.tenure.owner in
    let head = s.tenure.head in
    let is_own = g.E.Engine.is_own s.engine in
    let sends = g.E.Engine.sends c.look.new.engine in
    let settled : AreSettled sends owner head = subst (λ (f : Message → Bool). AreSettled f owner head) (sym c.look.ensures.sent) (s.settled c.if-self.false) in
    record {
      own = subst (λ (f : Owner → Bool). f owner ≡ true) (sym c.look.ensures.own) s.own;
      settled = λ _. settled;
      current = λ _. are_current_on owner head is_own sends (g.E.Engine.register s.engine) (g.E.Engine.register c.look.new.engine) c.look.ensures.goes s.own settled (s.current c.if-self.false);
      confirmed = λ e. absurd (true≢false (sym e ∙ c.if-self-2.false));
    }

pub returns-in_default-clause-unchanged : goal.returns-in_default-clause-unchanged
returns-in_default-clause-unchanged g c = λ bytes keeps.
    let s = c.args.self.now in
    let owner = s.tenure.owner in
    let head = s.tenure.head in
    let is_own = g.E.Engine.is_own s.engine in
    let sends = g.E.Engine.sends c.look.new.engine in
    let settled : AreSettled sends owner head = subst (λ (f : Message → Bool). AreSettled f owner head) (sym c.look.ensures.sent) (s.settled c.if-self.false) in
    keeps_on owner head is_own sends (g.E.Engine.register s.engine) (g.E.Engine.register c.look.new.engine) bytes c.look.ensures.goes s.own settled (s.current c.if-self.false) keeps

pub returns-clause-unchanged : goal.returns-clause-unchanged
returns-clause-unchanged g c = λ bytes keeps.
    let s = c.args.self.now in
    let owner = s.tenure.owner in
    let head = s.tenure.head in
    let is_own = g.E.Engine.is_own s.engine in
    let sends = g.E.Engine.sends c.look.new.engine in
    let settled : AreSettled sends owner head = subst (λ (f : Message → Bool). AreSettled f owner head) (sym c.look.ensures.sent) (s.settled c.if-self.false) in
    keeps_on owner head is_own sends (g.E.Engine.register s.engine) (g.E.Engine.register c.look.new.engine) bytes c.look.ensures.goes s.own settled (s.current c.if-self.false) keeps
