-- Which part of a match the vehicle's row decides and which the time decides, and bitmaps of a policy's rules (MDS 2.0
-- Policy, rules, and order of operations).
use Rattle.std.specs.Prelude.{◌≡◌, ℕ, ◌<◌, List, Bool, false, ◌&&◌, if◌then◌else◌, get_or, map}
use Rattle.std.specs.Int.{bit_at}
use Rattle.mds_geometry.specs.declared.position.Position.{Position}
use Rattle.mds_policy.specs.Policy.{Rule, Policy}
use Rattle.mds_match.specs.declared.local.Local.{Local}
use Rattle.mds_match.specs.Matching.{is_evaluated, is_open, in_place}
use Rattle.mds_match.specs.Resolved.{is_meant}
use Rattle.mds_match.specs.Row.{Row}

-- what the row decides: the rule is evaluated, and type, propulsion, state, events and position match
abbrev pub matches : (List ℕ → List (List (List Position))) → Row → Rule → Bool
matches polygons row rule = is_evaluated rule.kind && in_place rule.geographies polygons row.position && is_meant rule row

-- what the time decides
abbrev pub is_open_at : Local → Rule → Bool
is_open_at local rule = is_open rule.window local

-- bit i of a word is 1 where the i-th of these is true, and 0 where it is false or there is none
abbrev pub HasBits : List Bool → ℕ → Type 0
HasBits bits word = (i : ℕ) → i < 64 → bit_at word i ≡ (if get_or bits i false then 1 else 0)

-- the bitmap of the rules that a row matches
abbrev pub IsMask : Policy → (List ℕ → List (List (List Position))) → Row → ℕ → Type 0
IsMask policy polygons row word = HasBits (map (matches polygons row) policy.rules) word

-- the bitmap of the rules that are open at a local time
abbrev pub IsOpenMask : Policy → Local → ℕ → Type 0
IsOpenMask policy local word = HasBits (map (is_open_at local) policy.rules) word
