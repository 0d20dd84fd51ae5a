-- A text that isn't empty is a segment exactly where it has no slash.
use Rattle.std.proofs.Common.{◌≡◌, ℕ, Bool, not, List, ◌∷◌, ap, sym, subst}
use Rattle.std.specs.List.{list_any}
use Rattle.mds_request.specs.Call.{is_slash}
use Rattle.server_routes.specs.App.{is_segment}

pub of_filled : (text rest : List ℕ) (first : ℕ) (found : Bool) → text ≡ first ∷ rest → found ≡ list_any is_slash text → not found ≡ is_segment text
of_filled text rest first found is has =
    subst (λ (t : List ℕ). found ≡ list_any is_slash t → not found ≡ is_segment t) (sym is) (λ h. ap not h) has
