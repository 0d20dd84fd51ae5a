use Rattle.std.proofs.Common.{◌≡◌, Bool, true, refl, sym, subst, ◌∙◌}
use Rattle.std.proofs.lemmas.Bool.{true≢false}
use Rattle.journal_register.specs.declared.owner.Owner.{Owner}
use Rattle.journal_register.specs.Register.{Message}
use Rattle.journal_remote.specs.Kept.{AreSettled}
use Rattle.journal_remote.proofs.Known.{are_current_on, keeps_on}
use Rattle.journal_remote.proofs.remote_storage.RemoteStorageStorage.read.Goals as goal

pub invariant_of-self : goal.invariant_of-self
invariant_of-self g c =
    let s = c.args.self.now in
    let owner = s.tenure.owner in
    let head = s.tenure.head in
    let is_own = g.E.Engine.is_own s.engine in
    let sends = g.E.Engine.sends c.fetch.new.engine in
    let settled : AreSettled sends owner head = subst (λ (f : Message → Bool). AreSettled f owner head) (sym c.fetch.ensures.sent) (s.settled c.if-self.false) in
    record {
      own = subst (λ (f : Owner → Bool). f owner ≡ true) (sym c.fetch.ensures.own) s.own;
      settled = λ _. settled;
      current = λ _. are_current_on owner head is_own sends (g.E.Engine.register s.engine) (g.E.Engine.register c.fetch.new.engine) c.fetch.ensures.goes s.own settled (s.current c.if-self.false);
      confirmed = λ e. absurd (true≢false (sym e ∙ refl));
    }

pub returns-clause-unchanged : goal.returns-clause-unchanged
returns-clause-unchanged g c = λ bytes keeps.
    let s = c.args.self.now in
    let owner = s.tenure.owner in
    let head = s.tenure.head in
    let is_own = g.E.Engine.is_own s.engine in
    let sends = g.E.Engine.sends c.fetch.new.engine in
    let settled : AreSettled sends owner head = subst (λ (f : Message → Bool). AreSettled f owner head) (sym c.fetch.ensures.sent) (s.settled c.if-self.false) in
    keeps_on owner head is_own sends (g.E.Engine.register s.engine) (g.E.Engine.register c.fetch.new.engine) bytes c.fetch.ensures.goes s.own settled (s.current c.if-self.false) keeps
