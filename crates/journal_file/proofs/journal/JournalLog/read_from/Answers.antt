use Rattle.std.proofs.Common.{◌≡◌, ℕ, List, length, drop, map, sym, ap, subst, ◌∙◌, arith}
use Rattle.std.proofs.lemmas.List.{length-map, drop-map}
use Rattle.journal_file.specs.Sum.{sums_over}
use Rattle.journal_file.specs.Records.{Reads, extent}
use Rattle.journal_file.specs.Groups.{listed}
use Rattle.journal_file.proofs.Listed.{may_be_read}
use Rattle.journal_file.proofs.journal.JournalLog.read_from.Goals as goal

pub returns-clause-texts : goal.returns-clause-texts
returns-clause-texts g c =
    let j = c.args.self.now in
    let texts = map (λ x. x.text.now) c.in_ok-found.found.records.items in
    let bytes = c.in_ok-bytes.bytes in
    let whole : length bytes.items ≡ extent texts = grind (arith, bytes.ok.0, c.in_ok-found.ensures.whole, c.if-found-len.false) in
    let plain : map (λ v. v.items) c.in_ok-texts.texts.items ≡ listed texts = c.in_ok-texts.ensures ∙ ap (λ rs. listed (map (λ x. x.text.now) rs)) c.deref-2.ensures.value in
    let reads : Reads 0 bytes.items texts = subst (λ (b : List ℕ). Reads 0 b texts) c.deref.ensures.value c.in_ok-found.ensures.texts in
    let ends : j.position ≡ extent texts = sym c.if-found-self.false ∙ c.in_ok-found.ensures.whole in
    let summed : j.sum ≡ sums_over 0 texts = sym c.if-found-self-2.false ∙ c.in_ok-found.ensures.sum in
    let many : length (listed texts) ≡ length c.in_ok-texts.texts.items = ap (λ (ts : List (List ℕ)). length ts) (sym plain) ∙ length-map c.in_ok-texts.texts.items _ in (
      listed texts,
      may_be_read j.is_broken j.position j.sum j.count bytes.items texts c.in_ok-bytes.ensures.bytes reads whole ends summed (omega (arith, c.if-len-self.false, c.len-else-found-self-2.ensures, c.in_ok-texts.texts.ok.0, many)),
      ap (map (λ v. v.items)) c.in_ok-split_off.ensures.tail ∙ sym (drop-map _ c.args.position c.in_ok-texts.texts.items) ∙ ap (drop c.args.position) plain,
    )
