use Rattle.std.proofs.Common.{ℕ, Option, sym, ap, subst}
use Rattle.journal_etcd.specs.Reading.{Gives, number_at, number_before}
use Rattle.journal_etcd.proofs.numbers.number_at.Goals as goal

pub returns-in-Some : goal.returns-in-Some
unfolding number_at
returns-in-Some c =
    subst (λ (o : Option ℕ). Gives (λ r. (r.0, r.1.now)) c.number_before.result (number_before o c.args.text.now)) c.in-Some.ensures.value c.number_before.ensures

pub returns-in-None : goal.returns-in-None
unfolding number_at
returns-in-None c = ap (λ (o : Option ℕ). number_before o c.args.text.now) (sym c.in-None.ensures.value)
