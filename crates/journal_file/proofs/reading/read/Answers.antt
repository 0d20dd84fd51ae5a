use Rattle.std.proofs.Common.{◌≡◌, ℕ, ◌+◌, ◌-◌, List, [], ◌∷◌, ◌++◌, length, map, refl, sym, ap, subst, ◌∙◌, append_assoc, arith}
use Rattle.std.proofs.lemmas.List.{append-nil}
use Rattle.journal_file.specs.Sum.{sum_over, sums_over}
use Rattle.journal_file.specs.Records.{Reads, extent, offsets_from}
use Rattle.journal_file.proofs.Records.{first_extent}
use Rattle.journal_file.proofs.Found.{extent_more, sums_more, offsets_more, mapped_more}
use Rattle.journal_file.proofs.reading.read.Goals as goal

pub loop-text-smaller : goal.loop-text-smaller
loop-text-smaller c =
    omega (arith, first_extent c.loop-text.sum c.loop-text.rest.now c.in-Some.text.now c.in-Some.behind.now (sym c.in-Some.ensures))

pub loop-text-preserved : goal.loop-text-preserved
loop-text-preserved c =
    let old = c.loop-text.records.items in
    let text = c.in-Some.text.now in
    let behind = c.in-Some.behind.now in
    let found = map (λ x. x.text.now) old in
    let took = first_extent c.loop-text.sum c.loop-text.rest.now text behind (sym c.in-Some.ensures) in
    let texts-are : map (λ x. x.text.now) c.push.new.self.items ≡ found ++ text ∷ [] = mapped_more (λ x. x.text.now) old c.push.new.self.items _ c.in_ok-push.ensures.items in
    let offset-is : length c.args.bytes.now - length c.loop-text.rest.now + 12 ≡ 0 + extent found + 12 = omega (arith, c.loop-text.invariant.whole) in
    let offsets-are : map (λ x. x.offset) c.push.new.self.items ≡ map (λ x. x.offset) old ++ (0 + extent found + 12) ∷ [] =
    mapped_more (λ x. x.offset) old c.push.new.self.items _ c.in_ok-push.ensures.items ∙ ap (λ (n : ℕ). map (λ x. x.offset) old ++ n ∷ []) offset-is in
    record {
      texts = λ more r.
          let next : Reads c.loop-text.sum c.loop-text.rest.now (text ∷ more) = (behind, sym c.in-Some.ensures, subst (λ (n : ℕ). Reads n behind more) c.sum_over-sum.ensures r) in
          subst (Reads c.args.before c.args.bytes.now) (sym (append_assoc found (text ∷ []) more) ∙ ap (λ (x : List (List ℕ)). x ++ more) (sym texts-are)) (c.loop-text.invariant.texts (text ∷ more) next);
      offsets = rw (texts-are, offsets-are, c.loop-text.invariant.offsets, offsets_more 0 found text) refl;
      whole = rw (texts-are, extent_more found text) (omega (arith, c.loop-text.invariant.whole, took));
      sum = rw (texts-are, sums_more c.args.before found text, ← c.loop-text.invariant.sum) c.sum_over-sum.ensures;
    }

pub returns-clause-texts : goal.returns-clause-texts
returns-clause-texts c = subst (Reads c.args.before c.args.bytes.now) (append-nil _) (c.loop-text.invariant.texts [] (sym c.in_default.ensures))
