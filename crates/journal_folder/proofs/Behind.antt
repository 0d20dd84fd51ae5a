-- The entries behind a journal's head.
use Rattle.std.proofs.Common.{◌≡◌, ℕ, List, ◌∷◌, Bor, map, drop, Result, Ok, Err, IfOk, sym, ap, ◌∙◌}
use Rattle.std.proofs.lemmas.Simd.{map-map}
use Rattle.journal_entry.specs.Entries.{entry_of, entry_text}
use Rattle.journal_entry.specs.declared.entry.JournalEntry.{JournalEntry}
use Rattle.journal_folder.specs.Startable.{ArePayloads, HasEntries}

-- what was read of the payloads behind the first one
pub behind_head : {V E : Type 0} (items : V → List JournalEntry) (bytes : List ℕ) (texts : List (Bor (List ℕ))) (head : Bor (List ℕ)) (rest : List (Bor (List ℕ)))
    (read : Result V E) → ArePayloads bytes (map (λ t. t.now) texts) → texts ≡ head ∷ rest
    → IfOk read (λ v. map (λ e. entry_text (entry_of e)) (items v) ≡ map (λ t. t.now) rest)
    → IfOk read (λ v. HasEntries bytes (map entry_of (items v)))
behind_head items bytes texts head rest (Ok v) payloads is found =
    record {
      texts = map (λ t. t.now) texts;
      payloads = payloads;
      behind_head = map-map entry_text entry_of (items v) ∙ found ∙ ap (λ ts. drop 1 (map (λ t. t.now) ts)) (sym is);
    }
behind_head items bytes texts head rest (Err e) payloads is found = tt
