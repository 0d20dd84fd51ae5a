use Rattle.std.proofs.Common.{◌≡◌, ℕ, ◌+◌, true, List, [], ◌++◌, take, append_assoc, Bool, inl, refl, sym, ap, subst, ◌∙◌, arith}
use Rattle.std.proofs.lemmas.List.{take-append-drop}
use Rattle.std.proofs.lemmas.Result.{IfOk-weaker}
use Rattle.journal_register.specs.declared.head.Head.{Head}
use Rattle.journal_register.specs.declared.owner.Owner.{Owner}
use Rattle.journal_register.specs.Register.{Register}
use Rattle.journal_remote.specs.Kept.{is_current}
use Rattle.journal_remote.specs.Laid.{Lays, Appended}
use Rattle.journal_remote.specs.Passing.{Between}
use Rattle.journal_remote.proofs.Passing.{between_itself, between_on}
use Rattle.journal_remote.proofs.Laying.{lays_none}
use Rattle.journal_remote.proofs.group.put_group.Goals as goal

pub chunks-init : goal.chunks-init
chunks-init g c =
    let owner = c.args.tenure.owner in
    let head = c.args.tenure.head in
    let sends = g.E.Engine.sends c.args.engine.now in
    record {
      laid = (
        [],
        refl,
        between_itself (g.E.Engine.register c.args.engine.now) (λ k m. is_current owner head k ≡ true → Lays owner head 0 [] sends k m)
            (λ k current. lays_none owner head sends k c.requires.settled current),
      );
      no_later = λ m is of. inl (c.requires.settled m is of);
      own = refl;
      few = omega arith;
    }

pub put_behind-requires-clause-own : goal.put_behind-requires-clause-own
put_behind-requires-clause-own g c = subst (λ (f : Owner → Bool). f c.args.tenure.owner ≡ true) (sym c.chunks.invariant.own) c.requires.own

pub chunks-preserved : goal.chunks-preserved
chunks-preserved g c =
    let owner = c.args.tenure.owner in
    let head = c.args.tenure.head in
    let place = c.chunks.place in
    let laid = c.chunks.invariant.laid in
    let done = laid.0 in
    let chunk = c.split_at.result.0.now in
    let behind = c.split_at.result.1.now in
    let sends = g.E.Engine.sends c.chunks.engine in
    let more = g.E.Engine.sends c.put_behind.new.engine in
    let r = g.E.Engine.register in
    let halves : chunk ++ behind ≡ c.chunks.rest.now = ap (λ (x : List ℕ). x ++ behind) c.split_at.ensures.front
    ∙ (ap (λ (x : List ℕ). take 262144 c.chunks.rest.now ++ x) c.split_at.ensures.back ∙ take-append-drop 262144 c.chunks.rest.now) in
    record {
      laid = (
        done ++ chunk,
        append_assoc done chunk behind ∙ (ap (λ (x : List ℕ). done ++ x) halves ∙ laid.1),
        between_on (r c.args.engine.now) (r c.chunks.engine) (r c.put_behind.new.engine)
            (λ k m. is_current owner head k ≡ true → Lays owner head place done sends k m)
            (λ l m. (k : Register) (front : List ℕ) → Lays owner head place front sends k l → Lays owner head (place + 1) (front ++ chunk) more k m)
            (λ k m. is_current owner head k ≡ true → Lays owner head (place + 1) (done ++ chunk) more k m)
            laid.2 c.in_ok-put_behind.ensures.laid
            (λ k l m one two current. two k done (one current)),
      );
      no_later = c.put_behind.ensures.no_later;
      own = c.put_behind.ensures.own ∙ c.chunks.invariant.own;
      few = omega (arith, c.chunks.invariant.few, c.split_at.ensures.back_len, c.chunks-test.true);
    }

pub put_last-requires-clause-own : goal.put_last-requires-clause-own
put_last-requires-clause-own g c = subst (λ (f : Owner → Bool). f c.args.tenure.owner ≡ true) (sym c.chunks.invariant.own) c.requires.own

pub returns-clause-end : goal.returns-clause-end
returns-clause-end g c =
    IfOk-weaker c.put_last.result _ _ (λ next h. ap (λ (x : Head). x.extent.end) h) c.put_last.ensures.head

pub returns-clause-appended : goal.returns-clause-appended
returns-clause-appended g c =
    let owner = c.args.tenure.owner in
    let head = c.args.tenure.head in
    let place = c.chunks.place in
    let laid = c.chunks.invariant.laid in
    let done = laid.0 in
    let rest = c.chunks.rest.now in
    let sends = g.E.Engine.sends c.chunks.engine in
    let r = g.E.Engine.register in
    let tails : Head → Register → Register → Type 0 = λ next l m. (k : Register) (front : List ℕ) → Lays owner head place front sends k l → Appended owner head next (front ++ rest) k m in
    IfOk-weaker c.put_last.result (λ next. Between (r c.chunks.engine) (r c.put_last.new.engine) (tails next)) _
    (λ next h. between_on (r c.args.engine.now) (r c.chunks.engine) (r c.put_last.new.engine)
    (λ k m. is_current owner head k ≡ true → Lays owner head place done sends k m) (tails next)
    (λ k m. is_current owner head k ≡ true → Appended owner head next c.args.bytes.now k m)
    laid.2 h
    (λ k l m one two current. subst (λ (b : List ℕ). Appended owner head next b k m) laid.1 (two k done (one current))))
    c.put_last.ensures.appended

pub returns-clause-own : goal.returns-clause-own
returns-clause-own g c = c.put_last.ensures.own ∙ c.chunks.invariant.own
