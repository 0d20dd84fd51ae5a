-- The members of an object as a list.
use Rattle.std.proofs.Common.{◌≡◌, ℕ, List, [], ◌∷◌, refl, ap}
use Rattle.mds_text.specs.Tree.{Json, members_of}
use Rattle.server_public.specs.Withdrawal.{listed}

pub listed_is : (ms : List (List ℕ × Json)) → listed (members_of ms) ≡ ms
listed_is [] = refl
listed_is (m ∷ ms) = ap (λ rest. m ∷ rest) (listed_is ms)
