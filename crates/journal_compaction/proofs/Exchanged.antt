-- What a journal's file has that was exchanged for compacted ones.
use Rattle.std.proofs.Common.{◌≡◌, ℕ, Bool, true, false, List, [], ◌∷◌, ◌++◌, map, Result, Ok, refl, sym, ap, subst, ◌∙◌, append_assoc}
use Rattle.std.proofs.lemmas.List.{append-nil}
use Rattle.std.specs.List.{AllByRecursion}
use Rattle.mds_request.specs.Configuration.{Configuration, read_configuration}
use Rattle.journal_entry.specs.Entries.{Entry, IsEntry, entry_text, fields_text}
use Rattle.journal_entry.specs.declared.entry.TheConstants.{ENTRY}
use Rattle.journal_entry.proofs.Spelled.{same_entry, same_fields, same_head}
use Rattle.journal_recovery.specs.Laws.{IsOneServerFrom, new_server}
use Rattle.journal_recovery.specs.Recovery.{AreAnswered}
use Rattle.journal_swap.proofs.Steps.{IsFound, comes, compacted_by}
use Rattle.journal_compaction.specs.Alike.{IsCompactedBy}
use Rattle.journal_compaction.specs.Changes.{JournalChange, append, compact, appended_entries, journal_after}
use Rattle.journal_compaction.specs.Compacting.{thinned}
use Rattle.journal_compaction.specs.Exchanged.{ExchangedAreCompacted, GoesOnFromExchanged}
use Rattle.journal_compaction.specs.Kinds.{kind_of}
use Rattle.journal_compaction.specs.Restarts.{GoesOnFromThinned}
use Rattle.journal_compaction.specs.Staying.{picked, staying}

-- ---- entries within their limits

-- a text is that of one entry
same_text : (a b : Entry) → IsEntry a → IsEntry b → entry_text a ≡ entry_text b → a ≡ b
same_text a b own other e =
    same_entry a b (same_fields a b own.client own.at own.short.target other (same_head ENTRY ENTRY (fields_text a) (fields_text b) e).1)

list_parts : {A : Type 0} (a b : A) (r s : List A) → a ∷ r ≡ b ∷ s → (a ≡ b) × (r ≡ s)
list_parts a b r s e = (cc, cc)

same_texts : (entries others : List Entry) → AllByRecursion IsEntry entries → AllByRecursion IsEntry others → map entry_text entries ≡ map entry_text others → entries ≡ others
same_texts [] [] own other e = refl
same_texts [] (b ∷ others) own other e = absurd cc
same_texts (a ∷ entries) [] own other e = absurd cc
same_texts (a ∷ entries) (b ∷ others) own other e =
    let p = list_parts (entry_text a) (entry_text b) (map entry_text entries) (map entry_text others) e in
    ap (λ (x : Entry). x ∷ entries) (same_text a b own.0 other.0 p.0) ∙ ap (λ (rest : List Entry). b ∷ rest) (same_texts entries others own.1 other.1 p.1)

each_picked : (marks : List Bool) (entries : List Entry) → AllByRecursion IsEntry entries → AllByRecursion IsEntry (picked marks entries)
each_picked [] entries all = tt
each_picked (mark ∷ marks) [] all = tt
each_picked (true ∷ marks) (e ∷ entries) all = (all.0, each_picked marks entries all.1)
each_picked (false ∷ marks) (e ∷ entries) all = each_picked marks entries all.1

each_thinned : (c : Configuration) (entries : List Entry) → AllByRecursion IsEntry entries → AllByRecursion IsEntry (thinned c entries)
each_thinned c entries all = each_picked (staying [] (map (kind_of c) entries)) entries all

-- ---- changes, one after another

after_both : (c : Configuration) (first then : List JournalChange) (entries : List Entry)
    → journal_after c entries (first ++ then) ≡ journal_after c (journal_after c entries first) then
after_both c [] then entries = refl
after_both c (append e ∷ first) then entries = after_both c first then (entries ++ e ∷ [])
after_both c (compact n ∷ first) then entries = after_both c first then _

after_appends : (c : Configuration) (more entries : List Entry) → journal_after c entries (map append more) ≡ entries ++ more
after_appends c [] entries = sym (append-nil entries)
after_appends c (e ∷ more) entries = after_appends c more (entries ++ e ∷ []) ∙ append_assoc entries (e ∷ []) more

appended_of_both : (first then : List JournalChange) → appended_entries (first ++ then) ≡ appended_entries first ++ appended_entries then
appended_of_both [] then = refl
appended_of_both (append e ∷ first) then = ap (λ (rest : List Entry). e ∷ rest) (appended_of_both first then)
appended_of_both (compact n ∷ first) then = appended_of_both first then

appended_of_appends : (more : List Entry) → appended_entries (map append more) ≡ more
appended_of_appends [] = refl
appended_of_appends (e ∷ more) = ap (λ (rest : List Entry). e ∷ rest) (appended_of_appends more)

-- the first so many entries are compacted, one after another
after_compactions : (c : Configuration) (counts : List ℕ) (entries : List Entry)
    → journal_after c entries (map compact counts) ≡ compacted_by entry_text (thinned c) IsEntry counts entries
after_compactions c [] entries = refl
after_compactions c (n ∷ counts) entries = after_compactions c counts _

appended_of_compactions : (counts : List ℕ) → appended_entries (map compact counts) ≡ []
appended_of_compactions [] = refl
appended_of_compactions (n ∷ counts) = appended_of_compactions counts

-- ---- what the file has

ok_parts : {X E : Type 0} (a b : X) → Path (Result X E) (Ok a) (Ok b) → a ≡ b
ok_parts a b e = cc

module _ (text : List ℕ) (c : Configuration) (is : read_configuration text ≡ Ok c) where
  found_by : (one other : List (List ℕ)) → IsCompactedBy text one other → IsFound entry_text (thinned c) IsEntry one other
  found_by one other f =
      let it = f.3 in
      let own : f.0 ≡ c = ok_parts f.0 c (sym f.1 ∙ is) in
      record { head = it.head; items = it.entries; each = it.each; is_other = it.journal; is_one = subst (λ (k : Configuration). one ≡ it.head ∷ map entry_text (thinned k it.entries)) own it.kept }

pub exchanged_are_compacted : ExchangedAreCompacted
exchanged_are_compacted text c held head changes more is each to =
    let before = journal_after c [] changes in
    let last = head ∷ map entry_text (before ++ more) in
    let came = comes entry_text (thinned c) IsEntry same_text (each_thinned c) (IsCompactedBy text) (found_by text c is) held last to.leads to.apart head (before ++ more) each refl in
    let then = map compact came.counts in
    let appended : appended_entries (map append more ++ then) ≡ more =
    appended_of_both (map append more) then
    ∙ ap (λ (es : List Entry). es ++ appended_entries then) (appended_of_appends more)
    ∙ ap (λ (es : List Entry). more ++ es) (appended_of_compactions came.counts)
    ∙ append-nil more in
    let left : compacted_by entry_text (thinned c) IsEntry came.counts (before ++ more) ≡ journal_after c [] (changes ++ (map append more ++ then)) =
    sym (after_both c changes (map append more ++ then) []
    ∙ after_both c (map append more) then before
    ∙ ap (λ (es : List Entry). journal_after c es then) (after_appends c more before)
    ∙ after_compactions c came.counts (before ++ more)) in (
      changes ++ (map append more ++ then),
      appended_of_both changes (map append more ++ then) ∙ ap (λ (es : List Entry). appended_entries changes ++ es) appended,
      came.is ∙ ap (λ (es : List Entry). head ∷ map entry_text es) left,
      subst (AllByRecursion IsEntry) left came.each,
    )

pub goes_on_from_exchanged : ExchangedAreCompacted → GoesOnFromThinned → GoesOnFromExchanged
goes_on_from_exchanged exchanged goes_on text c held head changes more read s is unlike each to journal all are =
    let ex = exchanged text c held head changes more is each to in
    let left = journal_after c [] ex.0 in
    let texts = (list_parts head head (map entry_text read) (map entry_text left) (sym journal ∙ ex.2)).1 in
    let found : read ≡ left = same_texts read left all ex.3 texts in
    subst (λ (es : List Entry). IsOneServerFrom c es s) ex.1
    (goes_on c ex.0 s unlike (subst (λ (es : List Entry). AreAnswered c es (new_server c) s) found are))
