use Rattle.std.proofs.Common.{◌≡◌, ◌∷◌, ◌++◌, ◌-◌, length, take, drop, ap, sym, ◌∙◌, length-append, arith}
use Rattle.std.proofs.lemmas.List.{length-take}
use Rattle.mds_script.proofs.Reading.{ahead_behind}
use Rattle.mds_script.proofs.lines.LineReader.take_line.Goals as goal

pub returns-in-Some-clause-takes : goal.returns-in-Some-clause-takes
returns-in-Some-clause-takes c =
    let s = c.args.self.now in
    let h = c.in-Some.ensures.gathers in
    let whole : take (s.end - s.start) (drop s.start s.chunk.items) ≡ h.0 ++ 10 ∷ h.1 = ap (λ xs. take (s.end - s.start) (drop s.start xs)) (sym c.deref.ensures.value) ∙ h.2 in
    let rest = ahead_behind s.chunk.items s.start s.end c.in-Some.count h.0 h.1 whole h.4 in (
      h.0,
      whole ∙ ap (λ xs. h.0 ++ 10 ∷ xs) (sym rest),
      h.3,
      h.5,
      omega (arith, h.4, s.counted, ap length whole, length-append h.0 (10 ∷ h.1), length-take (s.end - s.start) (drop s.start s.chunk.items)),
    )
