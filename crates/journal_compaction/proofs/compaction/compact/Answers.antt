use Rattle.std.proofs.Common.{◌≡◌, ◌∷◌, List, ℕ, length, map, ap, subst, sym, ◌∙◌}
use Rattle.std.proofs.lemmas.List.{length-map}
use Rattle.mds_request.specs.Configuration.{configuration}
use Rattle.journal_entry.specs.Entries.{entry_of, entry_text}
use Rattle.journal_compaction.specs.Questions.{questions}
use Rattle.journal_compaction.specs.Compacting.{thinned}
use Rattle.journal_compaction.specs.Compaction.{AreAlike}
use Rattle.journal_compaction.proofs.Journals.{map_map}
use Rattle.journal_compaction.proofs.compaction.compact.Goals as goal

pub returns-clause-thinned : goal.returns-clause-thinned
returns-clause-thinned g c =
    let k = configuration c.in-Ok.config in
    let head = c.in-Ok-parts.found.0.now in
    let entries = c.in-Ok-parts.found.1.items in
    let texts = map (λ t. t.items) c.in_ok-texts.texts.items in
    let kept : map entry_of c.in_ok-kept.kept.items ≡ thinned k (map entry_of entries) =
    c.in_ok-kept.ensures ∙ ap (λ es. thinned k (map entry_of es)) c.deref.ensures.value in
    let asked : map entry_of c.deref-4.result.now ≡ questions k c.args.old.now.at (map entry_of entries) =
    ap (map entry_of) c.deref-4.ensures.value ∙ c.in_ok-questions.ensures
    ∙ ap (λ es. questions k c.args.old.now.at (map entry_of es)) c.deref-3.ensures.value in
    let written : map (λ e. entry_text (entry_of e)) c.deref-2.result.now ≡ map entry_text (thinned k (map entry_of entries)) =
    ap (map (λ e. entry_text (entry_of e))) c.deref-2.ensures.value ∙ sym (map_map entry_of entry_text c.in_ok-kept.kept.items) ∙ ap (map entry_text) kept in
    record {
      configuration = k;
      read = c.in-Ok.ensures;
      read_back = texts;
      back = c.in_ok-texts.ensures.back;
      is = record {
        head = head;
        entries = map entry_of entries;
        journal = c.in-Ok-parts.ensures.journal;
        each = c.in-Ok-parts.ensures.each;
        kept = c.in_ok-texts.ensures.same ∙ ap (λ (rest : List (List ℕ)). head ∷ rest) written;
        alike = subst (λ qs. AreAlike k (map entry_of entries) texts qs) asked
            (subst (λ ts. AreAlike k (map entry_of entries) (map (λ t. t.items) ts) (map entry_of c.deref-4.result.now)) c.deref-6.ensures.value
            (subst (λ es. AreAlike k (map entry_of es) (map (λ t. t.items) c.deref-6.result.now) (map entry_of c.deref-4.result.now)) c.deref-5.ensures.value
            c.in_ok-are_alike.ensures));
      };
      before = c.len.ensures ∙ c.in-Ok-parts.found.1.ok.0 ∙ sym (length-map entries entry_of);
      after = c.len-2.ensures ∙ c.in_ok-kept.kept.ok.0 ∙ sym (length-map c.in_ok-kept.kept.items entry_of) ∙ ap length kept;
    }
