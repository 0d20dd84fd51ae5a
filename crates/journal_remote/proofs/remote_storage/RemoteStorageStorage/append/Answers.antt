use Rattle.std.proofs.Common.{◌≡◌, Bool, true, inr, sym, subst}
use Rattle.journal_file.specs.declared.log_end.LogEnd.{LogEnd}
use Rattle.journal_register.specs.declared.owner.Owner.{Owner}
use Rattle.journal_remote.specs.Ends.{EndsBehind}
use Rattle.journal_remote.proofs.Carried.{current_when, owner_tests}
use Rattle.journal_remote.proofs.Known.{keeps_more, current_next}
use Rattle.journal_remote.proofs.remote_storage.RemoteStorageStorage.append.Goals as goal

pub invariant_of-self-2 : goal.invariant_of-self-2
invariant_of-self-2 g c =
    let s = c.args.self.now in
    let owner = s.tenure.owner in
    let next = c.in_ok-head.head in
    let moved = current_next owner s.tenure.head next (g.E.Engine.register s.engine) (g.E.Engine.register c.put_group.new.engine) c.args.bytes.now
    c.in_ok-head.ensures.appended (s.current c.if-self.false) in
    record {
      own = subst (λ (f : Owner → Bool). f owner ≡ true) (sym c.put_group.ensures.own) s.own;
      settled = λ _. c.in_ok-head.ensures.settled;
      current = λ _ n e. current_when owner next n (inr (moved n e));
      confirmed = λ _ n e. owner_tests owner n.owner (moved n e).0;
    }

pub returns : goal.returns
returns g c = λ before keeps.
    let s = c.args.self.now in
    keeps_more s.tenure.owner s.tenure.head c.in_ok-head.head (g.E.Engine.register s.engine) (g.E.Engine.register c.put_group.new.engine) before c.args.bytes.now
    c.in_ok-head.ensures.appended (s.current c.if-self.false)
    (subst (λ (e : LogEnd). EndsBehind s.tenure.head.extent.end c.args.bytes.now e) (sym c.in_ok-head.ensures.end) c.in_ok-end.ensures) keeps
