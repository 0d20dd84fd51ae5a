-- A vehicle in columns, and its row.
use Rattle.std.proofs.Common.{◌≡◌, ℕ, ◌<◌, List, [], ◌∷◌, length, get_or, refl, sym, ap, ◌∙◌, arith}
use Rattle.std.proofs.lemmas.List.{get_or-map}
use Rattle.mds_geometry.specs.declared.position.Position.{Position}
use Rattle.mds_policy.specs.Policy.{Policy}
use Rattle.mds_policy.specs.declared.rule.Bounds.{Bounds}
use Rattle.mds_policy.specs.declared.rule.Kind.{Kind}
use Rattle.mds_policy.specs.declared.rule.Kind.TheVariants.{Count, Time, Other}
use Rattle.mds_match.specs.Row.{Row}
use Rattle.mds_verdict.specs.Verdict.{adds}
use Rattle.mds_bitmaps.specs.Columns.{AreOf, adds_since}

-- whether a row counts towards a measure depends on the beginning of its state alone
pub adds_by_since : (kind : Kind) (bounds : Bounds) (t since : ℕ) (row : Row) → row.since ≡ since → adds_since kind bounds t since ≡ adds kind bounds t row
adds_by_since Count bounds t since row is = refl
adds_by_since (Time unit) bounds t since row is = ap (adds_since (Time unit) bounds t) (sym is)
adds_by_since Other bounds t since row is = refl

-- an element of a list that isn't empty
pub some_in : {X : Type 0} (xs : List X) (n : ℕ) → n < length xs → X
some_in [] n h = absurd (omega arith)
some_in (x ∷ xs) n h = x

module _ (policy : Policy) (polygons : List ℕ → List (List (List Position))) (rows : List Row) (devices : List (List ℕ)) (sinces masks : List ℕ) (are : AreOf policy polygons rows devices sinces masks) (k : ℕ) (row : Row) (short : k < length rows) where
  pub device_at : (d : List ℕ) → get_or devices k d ≡ (get_or rows k row).device
  device_at d = ap (λ ds. get_or ds k d) are.named ∙ get_or-map (λ (r : Row). r.device) rows k row d short

  pub since_at : (d : ℕ) → get_or sinces k d ≡ (get_or rows k row).since
  since_at d = ap (λ ts. get_or ts k d) are.since ∙ get_or-map (λ (r : Row). r.since) rows k row d short
