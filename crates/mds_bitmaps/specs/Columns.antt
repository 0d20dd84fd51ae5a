-- Columns of an operator's rows, in the order of device ids.
use Rattle.std.specs.Prelude.{◌≡◌, ℕ, ◌-◌, ◌<◌, List, Bool, true, false, not, length, get_or, map}
use Rattle.mds_geometry.specs.declared.position.Position.{Position}
use Rattle.mds_policy.specs.Policy.{Policy}
use Rattle.mds_policy.specs.declared.rule.Bounds.{Bounds}
use Rattle.mds_policy.specs.declared.rule.Kind.{Kind}
use Rattle.mds_policy.specs.declared.rule.Kind.TheVariants.{Count, Time, Other}
use Rattle.mds_match.specs.Row.{Row}
use Rattle.mds_verdict.specs.Verdict.{millis, within}
use Rattle.mds_bitmaps.specs.Masks.{IsMask}

-- Whether a vehicle that a rule catches counts towards its measure, where the run of its state began at this
-- millisecond: each one does for a count rule, and for a time rule each one whose time in its state is outside the
-- bounds.
abbrev pub adds_since : Kind → Bounds → ℕ → ℕ → Bool
adds_since Count bounds t since = true
adds_since (Time unit) bounds t since = not (within bounds (millis unit) (t - since))
adds_since Other bounds t since = false

-- the columns of these rows: device ids, beginnings of states, and bitmaps of a policy's rules
pub record AreOf (policy : Policy) (polygons : List ℕ → List (List (List Position))) (rows : List Row) (devices : List (List ℕ))
    (sinces masks : List ℕ) : Type 0 where
  pub named : devices ≡ map (λ row. row.device) rows
  pub since : sinces ≡ map (λ row. row.since) rows
  pub long : length masks ≡ length rows
  pub each : (k : ℕ) (row : Row) → k < length rows → IsMask policy polygons (get_or rows k row) (get_or masks k 0)

-- these are the columns of some rows
abbrev pub AreOfSome : Policy → List (List ℕ) → List ℕ → List ℕ → Type 0
AreOfSome policy devices sinces masks =
    (polygons : List ℕ → List (List (List Position))) × (rows : List Row) × AreOf policy polygons rows devices sinces masks
