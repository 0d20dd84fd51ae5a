-- What a look behind a claim tells.
use Rattle.std.proofs.Common.{◌≡◌, Bool, true, false, inr, refl, sym, ap, ◌∙◌}
use Rattle.std.specs.Prelude.{if◌then◌else◌, Option, Some, None, IfSome}
use Rattle.journal_register.specs.declared.owner.Owner.{Owner}
use Rattle.journal_register.specs.declared.look.Look.{Look}
use Rattle.journal_register.specs.Laws.{look_at}
use Rattle.journal_register.specs.Order.{is_owner}
use Rattle.journal_register.specs.Register.{Register}
use Rattle.journal_register.proofs.Orders.{same_owner}
use Rattle.journal_remote.specs.declared.tenure.Tenure.{Tenure}
use Rattle.journal_remote.specs.Kept.{is_current}
use Rattle.journal_remote.specs.Watch.{held_by}
use Rattle.journal_remote.proofs.Carried.{current_when}

abbrev pub ShowsCurrent : Look → Option Tenure → Type 0
ShowsCurrent seen held =
    IfSome held (λ tenure. (k : Register) → seen ≡ look_at seen.cluster k → is_current tenure.owner tenure.head k ≡ true)

pub held_current : (owner : Option Owner) (seen : Look) → ShowsCurrent seen (held_by owner seen)
held_current None seen = tt
held_current (Some next) seen = by (is_owner next seen.owner) refl
  where
    by : (b : Bool) → is_owner next seen.owner ≡ b
        → ShowsCurrent seen (if b then Some (record { owner = next; head = seen.head }) else None)
    by true is = λ k e.
        current_when next seen.head k
        (inr (
          sym (same_owner next seen.owner is ∙ ap (λ (look : Look). look.owner) e),
          sym (ap (λ (look : Look). look.head) e),
        ))
    by false is = tt
