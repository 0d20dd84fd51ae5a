-- What each transaction of the protocol keeps to, whoever sends it.
use Rattle.std.specs.Prelude.{◌≡◌, ◌⊎◌, suc, ◌≤◌, true, false, List, unwrap_or, IfSome, IsSomeAnd}
use Rattle.std.specs.List.{AllByRecursion}
use Rattle.journal_register.specs.declared.transaction.Transaction.{Transaction}
use Rattle.journal_register.specs.Order.{is_generation, is_before}
use Rattle.journal_register.specs.Register.{Message}

pub record IsLawful (t : Transaction) : Type 0 where
  -- a claim puts an owner of the next epoch
  pub claims : IfSome t.new_owner (λ next. next.epoch ≡ suc t.owner.epoch)
  -- who puts a head has compared the one before, which comes before it
  pub moves : IfSome t.new_head (λ next. IsSomeAnd t.head (λ head. is_before head next ≡ true))
  -- it has the same generation, or one that isn't of a later owner
  pub names : IfSome t.new_head (λ next.
      IsSomeAnd t.head (λ head. next.extent.generation ≡ head.extent.generation)
      ⊎ (next.extent.generation.epoch ≤ (unwrap_or t.new_owner t.owner).epoch))
  -- a chunk is put behind the head that is compared; or none is compared
  pub puts : IfSome t.chunk (λ key. IfSome t.head (λ head.
      (key.generation ≡ head.extent.generation) × (head.extent.chunks ≤ key.index)))
  -- a generation is deleted where the head that is compared has another
  pub deletes : IfSome t.deleted (λ generation. IsSomeAnd t.head (λ head.
      is_generation generation head.extent.generation ≡ false))

abbrev pub AreLawful : List Message → Type 0
AreLawful sent = AllByRecursion (λ m. IsLawful m.transaction) sent
