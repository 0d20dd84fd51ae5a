-- The payloads from which a room and desks are started.
use Rattle.std.specs.Prelude.{◌≡◌, ℕ, Bool, true, false, List, ◌∷◌, map, None}
use Rattle.std.specs.List.{AllByRecursion}
use Rattle.mds_request.specs.Configuration.{Configuration}
use Rattle.mds_request.specs.declared.request.Verb.{Verb}
use Rattle.mds_request.specs.declared.request.Verb.TheVariants.{Post}
use Rattle.journal_entry.specs.declared.entry.EntryClient.{EntryClient}
use Rattle.journal_entry.specs.declared.entry.EntryClient.TheVariants.{Author}
use Rattle.journal_entry.specs.Entries.{Entry, IsEntry, entry_text}
use Rattle.journal_entry.specs.Heads.{Share, AreShares, head_text, unfit}
use Rattle.journal_recovery.specs.Laws.{IsStartedAgain}
use Rattle.journal_recovery.specs.Recovery.{Server}
use Rattle.journal_folder.specs.Choosing.{needed, without}

-- The first payload is a head, for whose operators the configuration has room, but for those that are left out; behind
-- it stand these.
pub record HasHead (configuration : Configuration) (dropped : List (List ℕ)) (texts rest : List (List ℕ)) : Type 0 where
  pub shares : List Share
  pub are_shares : AreShares shares
  pub whole : texts ≡ head_text shares ∷ rest
  pub fits : unfit configuration (needed dropped shares) ≡ None

-- The payloads are a head, for whose operators the configuration has room, and those of entries within their limits; the
-- room and desks are started from these, but for those of the operators that are left out.
pub record IsStartedFrom (configuration : Configuration) (dropped texts : List (List ℕ)) (s : Server) : Type 0 where
  pub entries : List Entry
  pub head : HasHead configuration dropped texts (map entry_text entries)
  pub each : AllByRecursion IsEntry entries
  pub started : IsStartedAgain configuration (without dropped entries) s

-- whether a client's request with this verb publishes: to publish is the author's only POST
abbrev pub publishes : EntryClient → Verb → Bool
publishes Author Post = true
publishes client verb = false

abbrev pub is_publication : Entry → Bool
is_publication e = publishes e.client e.verb
