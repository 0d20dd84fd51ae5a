-- What follows for a register of the messages that come, in whatever order, late, more than once, or not at all.
use Rattle.std.specs.Prelude.{◌≡◌, ◌⊎◌, ℕ, ◌<◌, ◌≤◌, ◌&&◌, nat_le, Bool, true, false, not, List, ◌∷◌, ◌++◌}
use Rattle.std.specs.Prelude.{Some, None, filter}
use Rattle.std.specs.List.{AllByRecursion}
use Rattle.journal_register.specs.declared.owner.Owner.{Owner}
use Rattle.journal_register.specs.declared.head.Generation.{Generation}
use Rattle.journal_register.specs.declared.head.Head.{Head}
use Rattle.journal_register.specs.declared.look.Look.{Look}
use Rattle.journal_register.specs.declared.outcome.Outcome.TheVariants.{Applied, Overtaken}
use Rattle.journal_register.specs.declared.transaction.Transaction.{Transaction}
use Rattle.journal_register.specs.Lawful.{AreLawful}
use Rattle.journal_register.specs.Order.{is_owner, is_earlier, is_before}
use Rattle.journal_register.specs.Outcomes.{shows, outcome_of, answer_of, may_precede}
use Rattle.journal_register.specs.Register.{Register, Message, holds, is_at, is_of, after_all}

-- Epochs of owners go up: the owner stays, or one of a later epoch comes.
abbrev pub OwnersGoUp : Type 0
OwnersGoUp =
    (k : Register) (sent : List Message) → AreLawful sent
    → ((after_all k sent).owner ≡ k.owner) ⊎ (k.owner.epoch < (after_all k sent).owner.epoch)

-- Heads go up, so none comes back.
abbrev pub HeadsGoUp : Type 0
HeadsGoUp =
    (k : Register) (sent : List Message) → AreLawful sent
    → ((after_all k sent).head ≡ k.head) ⊎ (is_before k.head (after_all k sent).head ≡ true)

-- Revisions go up, and at one revision there is one register.
abbrev pub RevisionsGoUp : Type 0
RevisionsGoUp =
    (k : Register) (sent : List Message)
    → (after_all k sent ≡ k) ⊎ (k.revision < (after_all k sent).revision)

abbrev pub look_at : ℕ → Register → Look
look_at cluster k = record { cluster = cluster; revision = k.revision; owner = k.owner; head = k.head }

-- No look is taken for one that went back.
abbrev pub LaterLooksFollow : Type 0
LaterLooksFollow =
    (cluster : ℕ) (k : Register) (sent : List Message) → AreLawful sent
    → may_precede (look_at cluster k) (look_at cluster (after_all k sent)) ≡ true

-- the transaction compares another owner than this one, and none of a later epoch
abbrev pub is_overtaken : Owner → Transaction → Bool
is_overtaken owner t = not (is_owner t.owner owner) && nat_le t.owner.epoch owner.epoch

-- Who was overtaken is so for good: it is as if nothing of an owner before this one came any more, however late.
abbrev pub OvertakenForGood : Type 0
OvertakenForGood =
    (k : Register) (sent : List Message) → AreLawful sent
    → after_all k sent ≡ after_all k (filter (λ m. not (is_overtaken k.owner m.transaction)) sent)

-- What a confirmed round shows: while the owner is the same, it is as if only what compares this owner had come. So all
-- that was done since then is this owner's own.
abbrev pub OnlyTheOwnerWrites : Type 0
OnlyTheOwnerWrites =
    (k : Register) (sent : List Message) → AreLawful sent → (after_all k sent).owner ≡ k.owner
    → after_all k sent ≡ after_all k (filter (λ m. is_owner m.transaction.owner k.owner) sent)

-- the message came, when all that it compares held
abbrev pub HasCome : Register → Message → List Message → Type 0
HasCome k m sent =
    (before : List Message) × (rest : List Message) × (sent ≡ before ++ m ∷ rest)
    × (holds (after_all k before) m.transaction ≡ true)

-- Of a message that puts an owner or a head: both put the same owner, or under the same owner the same head.
abbrev pub PutsAlike : Transaction → Transaction → Type 0
PutsAlike t other =
    ((next : Owner) × (t.new_owner ≡ Some next) × (other.new_owner ≡ Some next))
    ⊎ ((next : Head) × (t.new_owner ≡ None) × (t.new_head ≡ Some next) × (other.owner ≡ t.owner)
    × (other.new_head ≡ Some next))

abbrev pub IsOnlyOne : Message → List Message → Type 0
IsOnlyOne m sent = AllByRecursion (λ other. PutsAlike m.transaction other.transaction → other ≡ m) sent

-- Where a register has what a message puts, and hadn't before, that message came.
abbrev pub WhatShowsCame : Type 0
WhatShowsCame =
    (k : Register) (m : Message) (sent : List Message) → AreLawful sent → IsOnlyOne m sent
    → k.owner ≡ m.transaction.owner
    → shows m.transaction k.owner k.head ≡ false
    → shows m.transaction (after_all k sent).owner (after_all k sent).head ≡ true
    → HasCome k m sent

-- An answer means what it is taken for: the message came, before or now; or it is never done any more, whatever comes.
abbrev pub OutcomesAreRight : Type 0
OutcomesAreRight =
    (k : Register) (m : Message) (sent more : List Message) → AreLawful sent → AreLawful more → IsOnlyOne m sent
    → k.owner ≡ m.transaction.owner
    → shows m.transaction k.owner k.head ≡ false
    → (outcome_of m.transaction (answer_of (after_all k sent) m.transaction) ≡ Applied
    → HasCome k m sent ⊎ (holds (after_all k sent) m.transaction ≡ true))
    × (outcome_of m.transaction (answer_of (after_all k sent) m.transaction) ≡ Overtaken
    → holds (after_all (after_all k sent) more) m.transaction ≡ false)

-- of those that put this chunk without comparing a head, each puts these bytes
abbrev pub StagesOnly : Generation → ℕ → List ℕ → List Message → Type 0
StagesOnly generation index bytes sent =
    AllByRecursion (λ m. m.transaction.head ≡ None → is_at m.transaction.chunk generation index ≡ true
    → m.bytes ≡ bytes) sent

-- The list of chunks only grows. What stands below the head's end stays while the head has that generation; behind a
-- switch it stays too, or is deleted, and never is another.
abbrev pub BelowTheHeadStands : Type 0
BelowTheHeadStands =
    (k : Register) (sent : List Message) (index : ℕ) (bytes : List ℕ) → AreLawful sent
    → index < k.head.extent.chunks
    → k.chunk k.head.extent.generation index ≡ Some bytes
    → StagesOnly k.head.extent.generation index bytes sent
    → ((after_all k sent).chunk k.head.extent.generation index ≡ Some bytes)
    ⊎ ((is_earlier k.head.extent.generation (after_all k sent).head.extent.generation ≡ true)
    × ((after_all k sent).chunk k.head.extent.generation index ≡ None))

-- whoever puts this chunk puts these bytes, and nobody deletes its generation
abbrev pub KeepsChunk : Generation → ℕ → List ℕ → List Message → Type 0
KeepsChunk generation index bytes sent =
    AllByRecursion (λ m.
    (is_at m.transaction.chunk generation index ≡ true → m.bytes ≡ bytes)
    × (is_of m.transaction.deleted generation ≡ false)) sent

-- What was staged stands until it is deleted: so it is there when the head comes to its generation.
abbrev pub StagedStands : Type 0
StagedStands =
    (k : Register) (sent : List Message) (generation : Generation) (index : ℕ) (bytes : List ℕ)
    → KeepsChunk generation index bytes sent
    → k.chunk generation index ≡ Some bytes
    → (after_all k sent).chunk generation index ≡ Some bytes

-- The head's generation is never of an owner to come. So what an owner names next by its own and the head's is new.
abbrev pub GenerationsAreOfOwners : Type 0
GenerationsAreOfOwners =
    (k : Register) (sent : List Message) → AreLawful sent
    → k.head.extent.generation.epoch ≤ k.owner.epoch
    → (after_all k sent).head.extent.generation.epoch ≤ (after_all k sent).owner.epoch
