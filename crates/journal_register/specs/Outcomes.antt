-- What an answer to a transaction means, and which look may come after another.
use Rattle.std.specs.Prelude.{◌==◌, ◌&&◌, ◌||◌, nat_lt, nat_le, Bool, false, if◌then◌else◌, Option, Some, None}
use Rattle.journal_register.specs.declared.owner.Owner.{Owner}
use Rattle.journal_register.specs.declared.head.Head.{Head}
use Rattle.journal_register.specs.declared.look.Look.{Look}
use Rattle.journal_register.specs.declared.outcome.Answer.{Answer}
use Rattle.journal_register.specs.declared.outcome.Answer.TheVariants.{Succeeded, Failed, Missing}
use Rattle.journal_register.specs.declared.outcome.Outcome.{Outcome}
use Rattle.journal_register.specs.declared.outcome.Outcome.TheVariants.{Applied, Overtaken, Elsewhere, Unknown}
use Rattle.journal_register.specs.declared.transaction.Transaction.{Transaction}
use Rattle.journal_register.specs.Order.{is_owner, is_head, is_before}
use Rattle.journal_register.specs.Register.{Register, holds}

-- by what an owner puts, a register has the owner that is put; or, where none is, that owner and the head that is put
abbrev pub shows_put : Owner → Option Owner → Option Head → Owner → Head → Bool
shows_put sender (Some next) new_head owner head = is_owner next owner
shows_put sender None (Some next) owner head = is_owner sender owner && is_head next head
shows_put sender None None owner head = false

abbrev pub shows : Transaction → Owner → Head → Bool
shows t owner head = shows_put t.owner t.new_owner t.new_head owner head

abbrev pub outcome_of : Transaction → Answer → Outcome
outcome_of t Succeeded = Applied
outcome_of t (Failed owner head) =
    if shows t owner head then Applied else if is_owner t.owner owner then Elsewhere else Overtaken
outcome_of t Missing = Unknown

-- what a register answers to a transaction
abbrev pub answer_of : Register → Transaction → Answer
answer_of k t = if holds k t then Succeeded else Failed k.owner k.head

-- a later look at the same register may show that one: nothing has gone back
abbrev pub may_precede : Look → Look → Bool
may_precede look later =
    (look.cluster == later.cluster) && nat_le look.revision later.revision
    && (is_owner look.owner later.owner || nat_lt look.owner.epoch later.owner.epoch)
    && (is_head look.head later.head || is_before look.head later.head)
