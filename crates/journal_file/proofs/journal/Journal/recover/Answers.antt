use Rattle.std.proofs.Common.{◌≡◌, true, ℕ, List, take, drop, sym, subst, ◌∙◌}
use Rattle.std.specs.Prelude.{Option}
use Rattle.journal_file.specs.Records.{Reads, extent}
use Rattle.journal_file.specs.Endings.{ending_of, is_opened, IsCut}
use Rattle.journal_file.specs.declared.ending.CutTail.{CutTail}
use Rattle.journal_file.proofs.Endings.{opened_unless}
use Rattle.journal_file.proofs.Listed.{may_be_cut}
use Rattle.journal_file.proofs.journal.Journal.recover.Goals as goal

pub returns-clause-list : goal.returns-clause-list
returns-clause-list g c =
    let bytes = c.in_ok-bytes.bytes.items in
    let whole = c.in_ok-front.front.whole in
    let f = c.in_ok-front.ensures in
    let texts = f.0 in
    let reads : Reads 0 bytes texts = subst (λ (b : List ℕ). Reads 0 b texts) c.deref.ensures.value f.1 in
    let cut = subst (λ (n : ℕ). g.M.Storage.holds c.cut_tail.new.medium (take n bytes)) f.2 (subst (λ (b : List ℕ). g.M.Storage.holds c.cut_tail.new.medium (take whole b)) c.deref-2.ensures.value c.in_ok-cut.ensures.cut) in
    let held = subst (λ m. g.M.Storage.holds m (take (extent texts) bytes)) (sym c.of.ensures.medium) (c.in_ok-sync.ensures.unchanged (take (extent texts) bytes) cut) in
    let opened = subst (λ (n : ℕ). is_opened (ending_of n (drop n bytes)) ≡ true) f.2 (subst (λ (b : List ℕ). is_opened (ending_of whole (drop whole b)) ≡ true) c.deref-2.ensures.value (opened_unless _ c.in_ok-cut.ensures.opened)) in
    let told = subst (λ (n : ℕ). IsCut (g.A.TailStore.has_kept c.cut_tail.new.aside) c.in_ok-cut.cut n (drop n bytes)) f.2 (subst (λ (b : List ℕ). IsCut (g.A.TailStore.has_kept c.cut_tail.new.aside) c.in_ok-cut.cut whole (drop whole b)) c.deref-2.ensures.value c.in_ok-cut.ensures.told) in
    let j = c.of.result in (
      bytes,
      texts,
      c.in_ok-bytes.ensures.before,
      reads,
      opened,
      subst (λ (o : Option CutTail). IsCut (g.A.TailStore.has_kept c.cut_tail.new.aside) o (extent texts) (drop (extent texts) bytes)) (sym c.of.ensures.cut) told,
      may_be_cut j.is_broken j.position j.sum j.count bytes texts held reads (c.of.ensures.front.0 ∙ f.2) (c.of.ensures.front.1 ∙ f.3) (c.of.ensures.front.2 ∙ f.4),
    )
