-- What becomes of a register between two answers to one who sends to it.
use Rattle.std.specs.Prelude.{◌≡◌, ◌⊎◌, ⊤, Bool, true, List, Option, Some, None}
use Rattle.std.specs.List.{AllByRecursion}
use Rattle.journal_register.specs.declared.owner.Owner.{Owner}
use Rattle.journal_register.specs.declared.outcome.Answer.{Answer}
use Rattle.journal_register.specs.declared.outcome.Answer.TheVariants.{Missing}
use Rattle.journal_register.specs.declared.transaction.Transaction.{Transaction}
use Rattle.journal_register.specs.Register.{Register, Message, after, after_all}
use Rattle.journal_register.specs.Lawful.{AreLawful}
use Rattle.journal_register.specs.Outcomes.{answer_of}

-- Of a register that is known at two moments: how it went from the one to the other. Where it isn't known at the one,
-- it isn't at the other.
abbrev pub Between : Option Register → Option Register → (Register → Register → Type 0) → Type 0
Between None None goes = ⊤
Between None (Some l) goes = ⊥
Between (Some k) None goes = ⊥
Between (Some k) (Some l) goes = goes k l

-- a transaction of one of the sender's own owners, and no claim
abbrev pub IsOwn : (Owner → Bool) → Transaction → Type 0
IsOwn is_own t = (is_own t.owner ≡ true) × (t.new_owner ≡ None)

-- The messages of all who send came in between, late, more than once or not at all. They keep to the protocol; and
-- those of the sender's own owners were sent by it, but for the claims by which others follow.
pub record Goes (is_own : Owner → Bool) (sends : Message → Bool) (k l : Register) : Type 0 where
  pub came : List Message
  pub lawful : AreLawful came
  pub own : AllByRecursion (λ m. IsOwn is_own m.transaction → sends m ≡ true) came
  pub reached : l ≡ after_all k came

-- A message was sent and this is what came back: what the register answered when the message came to it; or nothing
-- that decides, and then it may have come, or come yet.
pub record Exchanges (is_own : Owner → Bool) (sends : Message → Bool) (m : Message) (answer : Answer)
    (k l : Register) : Type 0 where
  pub at : Register
  pub goes : Goes is_own sends k at
  pub answered : ((answer ≡ Missing) × (l ≡ at)) ⊎ ((answer ≡ answer_of at m.transaction) × (l ≡ after at m))
