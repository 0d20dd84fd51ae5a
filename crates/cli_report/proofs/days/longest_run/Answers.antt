use Rattle.std.proofs.Common.{◌≡◌, ◌≤◌, ◌<◌, ◌+◌, ◌-◌, ℕ, take, drop, length, sym, ap, subst, ◌∙◌, arith}
use Rattle.std.proofs.lemmas.List.{drop_all}
use Rattle.cli_report.specs.Days.{leading, longest}
use Rattle.cli_report.proofs.Longest.{is_longest, led, stays_longest}
use Rattle.cli_report.proofs.days.longest_run.Goals as goal

pub loop-left-init : goal.loop-left-init
loop-left-init c =
    let xs = c.args.samples.now in
    let none = drop_all (length xs) xs (omega arith) in
    record { within = omega arith; fits = omega arith; inside = omega arith; begun = ap leading (sym none); found = ap longest (sym none) }

pub loop-left-preserved-then-count-leading : goal.loop-left-preserved-then-count-leading
loop-left-preserved-then-count-leading c =
    let xs = c.args.samples.now in
    let l = c.loop-left in
    let i = l.left - 1 in
    let x = c.index-samples-left.result in
    let back : l.left ≡ i + 1 = omega arith in
    let within : i < length xs = omega (arith, l.invariant.within) in
    let fits : i + 1 + l.leading ≤ length xs = omega (arith, l.invariant.fits) in
    let h = led xs i l.leading c.run_with-run.result x within c.index-samples-left.is c.run_with-run.ensures fits
    (subst (λ (n : ℕ). take l.leading (drop n xs) ≡ leading (drop n xs)) back l.invariant.begun) in
    record {
      within = omega arith;
      fits = h.0;
      inside = h.0;
      begun = h.1;
      found =
          is_longest xs i c.run_with-run.result l.first l.count x within c.index-samples-left.is h.0 l.invariant.inside h.1
          (l.invariant.found ∙ ap (λ (n : ℕ). longest (drop n xs)) back) (omega arith);
    }

pub loop-left-preserved : goal.loop-left-preserved
loop-left-preserved c =
    let xs = c.args.samples.now in
    let l = c.loop-left in
    let i = l.left - 1 in
    let x = c.index-samples-left.result in
    let back : l.left ≡ i + 1 = omega arith in
    let within : i < length xs = omega (arith, l.invariant.within) in
    let fits : i + 1 + l.leading ≤ length xs = omega (arith, l.invariant.fits) in
    let h = led xs i l.leading c.run_with-run.result x within c.index-samples-left.is c.run_with-run.ensures fits
    (subst (λ (n : ℕ). take l.leading (drop n xs) ≡ leading (drop n xs)) back l.invariant.begun) in
    record {
      within = omega arith;
      fits = h.0;
      inside = l.invariant.inside;
      begun = h.1;
      found =
          stays_longest xs i c.run_with-run.result l.first l.count x within c.index-samples-left.is h.0 l.invariant.inside h.1
          (l.invariant.found ∙ ap (λ (n : ℕ). longest (drop n xs)) back) (omega arith);
    }
