-- What an outcome tells of the register.
use Rattle.std.proofs.Common.{◌≡◌, Bool, true, false, cond, inl, inr, refl, sym, ap, subst, ◌∙◌}
use Rattle.std.specs.Prelude.{◌⊎◌}
use Rattle.journal_register.specs.declared.owner.Owner.{Owner}
use Rattle.journal_register.specs.declared.outcome.Answer.{Answer}
use Rattle.journal_register.specs.declared.outcome.Answer.TheVariants.{Succeeded, Failed, Missing}
use Rattle.journal_register.specs.declared.outcome.Outcome.TheVariants.{Applied, Overtaken, Elsewhere, Unknown}
use Rattle.journal_register.specs.Order.{is_owner}
use Rattle.journal_register.specs.Outcomes.{shows, outcome_of, answer_of}
use Rattle.journal_register.specs.Register.{Register, Message, holds, with_writes, after}
use Rattle.journal_remote.specs.Passing.{Goes, Exchanges}

applied_shows : (a b : Bool) → cond a Applied (cond b Elsewhere Overtaken) ≡ Applied → a ≡ true
applied_shows true b e = refl
applied_shows false true e = cc
applied_shows false false e = cc

unknown_is_not : Unknown ≡ Applied → ⊥
unknown_is_not e = cc

-- the message was done at a register; or the register shows that it came before
abbrev pub Did : Message → Register → Register → Type 0
Did sent at l =
    ((holds at sent.transaction ≡ true) × (l ≡ with_writes at sent))
    ⊎ ((shows sent.transaction l.owner l.head ≡ true) × (l ≡ at))

did : (sent : Message) (answer : Answer) (at l : Register) (b : Bool) → holds at sent.transaction ≡ b
    → answer ≡ cond b Succeeded (Failed at.owner at.head) → l ≡ cond b (with_writes at sent) at
    → outcome_of sent.transaction answer ≡ Applied → Did sent at l
did sent answer at l true held is ends applied = inl (held, ends)
did sent answer at l false held is ends applied =
    let shown = applied_shows (shows sent.transaction at.owner at.head) (is_owner sent.transaction.owner at.owner)
    (sym (ap (outcome_of sent.transaction) is) ∙ applied) in
    inr (subst (λ (r : Register). shows sent.transaction r.owner r.head ≡ true) (sym ends) shown, ends)

pub applied : (is_own : Owner → Bool) (sends : Message → Bool) (sent : Message) (answer : Answer) (k l : Register)
    → Exchanges is_own sends sent answer k l → outcome_of sent.transaction answer ≡ Applied
    → (at : Register) × Goes is_own sends k at × Did sent at l
applied is_own sends sent answer k l x e = (x.at, x.goes, by x.answered)
  where
    by : ((answer ≡ Missing) × (l ≡ x.at)) ⊎ ((answer ≡ answer_of x.at sent.transaction) × (l ≡ after x.at sent))
        → Did sent x.at l
    by (inl none) = absurd (unknown_is_not (sym (ap (outcome_of sent.transaction) none.0) ∙ e))
    by (inr some) = did sent answer x.at l (holds x.at sent.transaction) refl some.0 some.1 e
