use Rattle.std.proofs.Common.{◌≡◌, List, ℕ, [], ◌∷◌, ◌++◌, map, sym, ap, subst, ◌∙◌}
use Rattle.std.proofs.lemmas.List.{map-append}
use Rattle.journal_compaction.specs.Changes.{appended_entries, journal_after}
use Rattle.journal_compaction.specs.Exchanged.{LeadsTo}
use Rattle.journal_entry.specs.Entries.{Entry, IsEntry, entry_text}
use Rattle.journal_swap.proofs.Steps.{each_of_both}
use Rattle.server_durable.specs.Journals.{IsJournalOfOneServer}
use Rattle.server_durable.specs.Logged.{exchanges_in}
use Rattle.server_durable.proofs.laws.stopped_servers_leave_compacted_journals.Goals as goal

pub returns : goal.returns
returns c = λ text configuration changes told publications turns s texts held head is each done started ends to.
    let tells = c.read_configurations_tell_clients.ensures text configuration is in
    let on = c.ended_halls_go_on.ensures configuration s texts tells.0 started.placed ends in
    let more = on.0 in
    let later = on.1 in
    let before = journal_after configuration [] changes in
    let last : (head ∷ map entry_text before) ++ texts ≡ head ∷ map entry_text (before ++ more) =
    ap (λ (ts : List (List ℕ)). head ∷ (map entry_text before ++ ts)) on.2.spelled ∙ ap (λ (ts : List (List ℕ)). head ∷ ts) (sym (map-append entry_text before more)) in
    let left = c.exchanged_are_compacted.ensures text configuration held head changes more is (each_of_both IsEntry before more each on.2.each)
    (subst (λ (l : List (List ℕ)). LeadsTo text held l) last to) in
    let one = c.goes_on_from_thinned.ensures configuration changes s tells.1 started.answered in
    let served = one told (exchanges_in ends.room) publications ends.r.publications turns later done.served done.journal on.4 in
    let journal = c.journals_go_on.ensures configuration (appended_entries changes) more told (exchanges_in ends.room) turns later done.journal on.5 in (
      left.0,
      later,
      on.3,
      left.2,
      left.3,
      subst (λ (es : List Entry). IsJournalOfOneServer configuration es (told ++ exchanges_in ends.room) ends.r.publications (λ place. turns place ++ later place)) (sym left.1)
          (record { served = served; journal = journal }),
    )
