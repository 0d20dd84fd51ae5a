use Rattle.std.proofs.Common.{arith, ◌≡◌, replicate}
use Rattle.journal_commit.proofs.Sharing.{nobody_shared, nobody}
use Rattle.journal_commit.proofs.client_shares.ClientShares.new.Goals as goal

pub invariant_of-result : goal.invariant_of-result
invariant_of-result c =
    let is : c.in_ok-vec.field-0.items ≡ replicate c.min.result nobody = c.in_ok-vec.ensures.items_if_clones_equal (λ y same. same) in
    record { shared = rw is ((nobody_shared c.min.result (omega arith)).0) }
