-- A server that replays a journal's entries is started from the journal's payloads.
use Rattle.std.proofs.Common.{◌≡◌, ℕ, List, [], ◌∷◌, map, refl, sym, ap, subst, Result, Ok, Err, IfOk}
use Rattle.std.specs.List.{AllByRecursion}
use Rattle.mds_request.specs.Configuration.{Configuration}
use Rattle.journal_entry.specs.Entries.{Entry, IsEntry, entry_of, entry_text}
use Rattle.journal_entry.specs.declared.entry.JournalEntry.{JournalEntry as Lent}
use Rattle.journal_folder.specs.Choosing.{without}
use Rattle.journal_recovery.specs.Laws.{IsStartedAgain}
use Rattle.journal_recovery.specs.Recovery.{Server}
use Rattle.server_journal.specs.Starting.{HasHead, IsStartedFrom}

-- a weaker property of a result holds where a stronger one does
pub if_ok : {X E : Type 0} (P Q : X → Type 0) (r : Result X E) → ((x : X) → P x → Q x) → IfOk r P → IfOk r Q
if_ok P Q (Ok x) more holds = more x holds
if_ok P Q (Err e) more holds = tt

pub texts_of : (entries : List Lent)
    → map entry_text (map entry_of entries) ≡ map (λ e. entry_text (entry_of e)) entries
texts_of [] = refl
texts_of (e ∷ entries) = ap (λ texts. entry_text (entry_of e) ∷ texts) (texts_of entries)

pub started_from : (configuration : Configuration) (dropped : List (List ℕ)) (texts rest : List (List ℕ))
    (all kept : List Entry) (s : Server)
    → HasHead configuration dropped texts rest → map entry_text all ≡ rest → AllByRecursion IsEntry all → kept ≡ without dropped all
    → IsStartedAgain configuration kept s
    → IsStartedFrom configuration dropped texts s
started_from configuration dropped texts rest all kept s head are each left again = record {
  entries = all;
  head = subst (HasHead configuration dropped texts) (sym are) head;
  each = each;
  started = subst (λ entries. IsStartedAgain configuration entries s) left again;
}
