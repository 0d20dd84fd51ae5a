use Rattle.std.proofs.Common.{◌≡◌, Option, Some, None, refl}
use Rattle.std.proofs.lemmas.Bool.{false≢true}
use Rattle.mds_text.proofs.id.Id.read.Goals as goal

-- an option that is no `Some` is `None`
none_of : {A : Type 0} (o : Option A) → ((u : A) × (o ≡ Some u) → ⊥) → None ≡ o
none_of None h = refl
none_of (Some u) h = absurd (h (u, refl))

pub returns-in-Err : goal.returns-in-Err
returns-in-Err c = none_of _ (λ found. false≢true (c.in-Err.ensures.ok.1 found))
