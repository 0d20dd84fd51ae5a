use Rattle.std.proofs.Common.{◌≡◌, ℕ, ◌+◌, Bool, true, List, ◌++◌, inr, refl, sym, subst, ◌∙◌, arith}
use Rattle.journal_register.specs.declared.owner.Owner.{Owner}
use Rattle.journal_register.specs.Register.{Message}
use Rattle.journal_remote.specs.Joined.{JoinsFrom}
use Rattle.journal_remote.specs.Kept.{AreSettled, is_current}
use Rattle.journal_remote.specs.Passing.{Between, Goes}
use Rattle.journal_remote.proofs.Passing.{between_itself, between_on, between_with, goes_nowhere, same_sends, then_goes}
use Rattle.journal_remote.proofs.Carried.{alike_itself}
use Rattle.journal_remote.proofs.Known.{Read, read_more, fetched, shown_owner}
use Rattle.journal_remote.proofs.fetch.fetch.Goals as goal

pub chunks-init : goal.chunks-init
chunks-init g c =
    let owner = c.args.tenure.owner in
    let head = c.args.tenure.head in
    let is_own = g.E.Engine.is_own c.args.engine.now in
    let sends = g.E.Engine.sends c.args.engine.now in
    record {
      goes = between_itself (g.E.Engine.register c.args.engine.now) (Goes is_own sends) (λ k. goes_nowhere is_own sends k);
      chunks = between_itself (g.E.Engine.register c.args.engine.now) (λ k m. is_current owner head k ≡ true → Read owner head 0 c.new-bytes.result.items k m)
          (λ k _. inr (alike_itself k, c.new-bytes.ensures.items));
      sent = refl;
      own = refl;
      within = omega arith;
    }

pub chunks-preserved : goal.chunks-preserved
chunks-preserved g c =
    let owner = c.args.tenure.owner in
    let head = c.args.tenure.head in
    let r = g.E.Engine.register in
    let sends = g.E.Engine.sends in
    let is_own = g.E.Engine.is_own in
    let first = c.args.engine.now in
    let old = c.chunks.engine in
    let new = c.read_chunks.new.self in
    let more = c.in_ok-count.ensures.read in
    let settled : AreSettled (sends new) owner head = subst (λ (f : Message → Bool). AreSettled f owner head)
    (sym (c.read_chunks.ensures.sent ∙ c.chunks.invariant.sent)) c.requires.settled in
    let goes : Between (r old) (r new) (Goes (is_own first) (sends new)) = subst (λ (f : Owner → Bool). Between (r old) (r new) (Goes f (sends new)))
    c.chunks.invariant.own c.read_chunks.ensures.goes in
    record {
      goes = then_goes (is_own first) (is_own old) (sends old) (sends new) (r first) (r old) (r new) c.chunks.invariant.own
          (same_sends (sends old) (sends new) c.read_chunks.ensures.sent) c.chunks.invariant.goes c.read_chunks.ensures.goes;
      chunks = subst (λ (b : List ℕ). Between (r first) (r new) (λ k m. is_current owner head k ≡ true → Read owner head (c.chunks.index + c.in_ok-count.count) b k m))
          (sym more.1)
          (between_on (r first) (r old) (r new)
          (λ k l. is_current owner head k ≡ true → Read owner head c.chunks.index c.chunks.bytes.items k l)
          (λ l m. Goes (is_own first) (sends new) l m × JoinsFrom (m.chunk head.extent.generation) c.chunks.index c.in_ok-count.count more.0)
          (λ k m. is_current owner head k ≡ true → Read owner head (c.chunks.index + c.in_ok-count.count) (c.chunks.bytes.items ++ more.0) k m)
          c.chunks.invariant.chunks
          (between_with (r old) (r new) (Goes (is_own first) (sends new))
          (λ l m. Goes (is_own first) (sends new) l m × JoinsFrom (m.chunk head.extent.generation) c.chunks.index c.in_ok-count.count more.0)
          goes (λ l m _ is x. (x, more.2 m is)))
          (λ k l m one two current. read_more owner head (is_own first) (sends new) k l m c.chunks.index c.in_ok-count.count c.chunks.bytes.items more.0
          two.0 c.requires.own settled current (one current) two.1));
      sent = c.read_chunks.ensures.sent ∙ c.chunks.invariant.sent;
      own = c.read_chunks.ensures.own ∙ c.chunks.invariant.own;
      within = omega (arith, c.in_ok-count.ensures.most, c.chunks.invariant.within);
    }

pub returns-in_err-count-clause-goes : goal.returns-in_err-count-clause-goes
returns-in_err-count-clause-goes g c =
    let r = g.E.Engine.register in
    let sends = g.E.Engine.sends in
    let is_own = g.E.Engine.is_own in
    then_goes (is_own c.args.engine.now) (is_own c.chunks.engine) (sends c.chunks.engine) (sends c.read_chunks.new.self)
    (r c.args.engine.now) (r c.chunks.engine) (r c.read_chunks.new.self) c.chunks.invariant.own
    (same_sends (sends c.chunks.engine) (sends c.read_chunks.new.self) c.read_chunks.ensures.sent) c.chunks.invariant.goes c.read_chunks.ensures.goes

pub returns-in_default-clause-goes : goal.returns-in_default-clause-goes
returns-in_default-clause-goes g c =
    let r = g.E.Engine.register in
    let sends = g.E.Engine.sends in
    let is_own = g.E.Engine.is_own in
    then_goes (is_own c.args.engine.now) (is_own c.chunks.engine) (sends c.chunks.engine) (sends c.look.new.engine)
    (r c.args.engine.now) (r c.chunks.engine) (r c.look.new.engine) c.chunks.invariant.own
    (same_sends (sends c.chunks.engine) (sends c.look.new.engine) c.look.ensures.sent) c.chunks.invariant.goes c.look.ensures.goes

pub returns-then-not-is_shown-clause-goes : goal.returns-then-not-is_shown-clause-goes
returns-then-not-is_shown-clause-goes g c =
    let r = g.E.Engine.register in
    let sends = g.E.Engine.sends in
    let is_own = g.E.Engine.is_own in
    then_goes (is_own c.args.engine.now) (is_own c.chunks.engine) (sends c.chunks.engine) (sends c.look.new.engine)
    (r c.args.engine.now) (r c.chunks.engine) (r c.look.new.engine) c.chunks.invariant.own
    (same_sends (sends c.chunks.engine) (sends c.look.new.engine) c.look.ensures.sent) c.chunks.invariant.goes c.look.ensures.goes

pub returns-in_err-check_end-clause-goes : goal.returns-in_err-check_end-clause-goes
returns-in_err-check_end-clause-goes g c =
    let r = g.E.Engine.register in
    let sends = g.E.Engine.sends in
    let is_own = g.E.Engine.is_own in
    then_goes (is_own c.args.engine.now) (is_own c.chunks.engine) (sends c.chunks.engine) (sends c.look.new.engine)
    (r c.args.engine.now) (r c.chunks.engine) (r c.look.new.engine) c.chunks.invariant.own
    (same_sends (sends c.chunks.engine) (sends c.look.new.engine) c.look.ensures.sent) c.chunks.invariant.goes c.look.ensures.goes

pub returns-clause-goes : goal.returns-clause-goes
returns-clause-goes g c =
    let r = g.E.Engine.register in
    let sends = g.E.Engine.sends in
    let is_own = g.E.Engine.is_own in
    then_goes (is_own c.args.engine.now) (is_own c.chunks.engine) (sends c.chunks.engine) (sends c.look.new.engine)
    (r c.args.engine.now) (r c.chunks.engine) (r c.look.new.engine) c.chunks.invariant.own
    (same_sends (sends c.chunks.engine) (sends c.look.new.engine) c.look.ensures.sent) c.chunks.invariant.goes c.look.ensures.goes

pub returns-clause-joined : goal.returns-clause-joined
returns-clause-joined g c =
    let owner = c.args.tenure.owner in
    let head = c.args.tenure.head in
    let r = g.E.Engine.register in
    let first = c.args.engine.now in
    let old = c.chunks.engine in
    let new = c.look.new.engine in
    let sends = g.E.Engine.sends new in
    let is_own = g.E.Engine.is_own first in
    let settled : AreSettled sends owner head = subst (λ (f : Message → Bool). AreSettled f owner head)
    (sym (c.look.ensures.sent ∙ c.chunks.invariant.sent)) c.requires.settled in
    let goes : Between (r old) (r new) (Goes is_own sends) = subst (λ (f : Owner → Bool). Between (r old) (r new) (Goes f sends))
    c.chunks.invariant.own c.look.ensures.goes in
    let all : c.chunks.index ≡ head.extent.chunks = omega (arith, c.chunks-test.false, c.chunks.invariant.within) in
    (fetched owner head is_own sends (r first) (r old) (r new) c.chunks.index c.chunks.bytes.items c.chunks.invariant.chunks goes c.requires.own settled c.requires.current
    (λ m e. shown_owner owner head c.in-Some.seen m (c.in-Some.ensures.shows m e) (sym c.is_shown.ensures ∙ c.if-not-is_shown.false)) all).0

pub returns-clause-joins : goal.returns-clause-joins
returns-clause-joins g c =
    let owner = c.args.tenure.owner in
    let head = c.args.tenure.head in
    let r = g.E.Engine.register in
    let first = c.args.engine.now in
    let old = c.chunks.engine in
    let new = c.look.new.engine in
    let sends = g.E.Engine.sends new in
    let is_own = g.E.Engine.is_own first in
    let settled : AreSettled sends owner head = subst (λ (f : Message → Bool). AreSettled f owner head)
    (sym (c.look.ensures.sent ∙ c.chunks.invariant.sent)) c.requires.settled in
    let goes : Between (r old) (r new) (Goes is_own sends) = subst (λ (f : Owner → Bool). Between (r old) (r new) (Goes f sends))
    c.chunks.invariant.own c.look.ensures.goes in
    let all : c.chunks.index ≡ head.extent.chunks = omega (arith, c.chunks-test.false, c.chunks.invariant.within) in
    (fetched owner head is_own sends (r first) (r old) (r new) c.chunks.index c.chunks.bytes.items c.chunks.invariant.chunks goes c.requires.own settled c.requires.current
    (λ m e. shown_owner owner head c.in-Some.seen m (c.in-Some.ensures.shows m e) (sym c.is_shown.ensures ∙ c.if-not-is_shown.false)) all).1
