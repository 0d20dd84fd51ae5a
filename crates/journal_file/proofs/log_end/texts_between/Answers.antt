use Rattle.std.proofs.Common.{◌≡◌, ◌+◌, ◌++◌, ℕ, List, length, map, sym, ap, subst, ◌∙◌, arith}
use Rattle.std.proofs.lemmas.List.{length-map}
use Rattle.journal_file.specs.Sum.{sums_over}
use Rattle.journal_file.specs.Records.{extent}
use Rattle.journal_file.specs.Groups.{listed}
use Rattle.journal_file.specs.LogEnds.{IsSealed}
use Rattle.journal_file.proofs.Seals.{sealed_behind}
use Rattle.journal_file.proofs.log_end.texts_between.Goals as goal

pub returns : goal.returns
returns c = λ list s.
    let from = c.args.from in
    let to = c.args.to in
    let texts = map (λ x. x.text.now) c.in_ok-found.found.records.items in
    let plain : map (λ v. v.items) c.in_ok-texts.texts.items ≡ listed texts = c.in_ok-texts.ensures ∙ ap (λ rs. listed (map (λ x. x.text.now) rs)) c.deref.ensures.value in
    let many : length (listed texts) ≡ length c.in_ok-texts.texts.items = ap (λ (ts : List (List ℕ)). length ts) (sym plain) ∙ length-map c.in_ok-texts.texts.items _ in
    let summed : to.sum ≡ sums_over from.sum texts = sym c.if-found-to-2.false ∙ c.in_ok-found.ensures.sum in
    let ends : to.position ≡ from.position + extent texts = omega (arith, c.if-found-to.false, c.in_ok-found.ensures.whole, c.if-to-from.false) in
    let counted : to.count ≡ from.count + length (listed texts) = omega (arith, c.if-len-to.false, c.len.ensures, c.in_ok-texts.texts.ok.0, many, c.if-to-from-2.false) in
    subst (λ (l : List (List ℕ)). IsSealed to (list ++ l)) (sym plain) (sealed_behind from to list texts s summed ends counted)
