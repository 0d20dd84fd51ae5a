use Rattle.std.proofs.Common.{◌≡◌, ◌∙◌, ◌≤ℤ◌, ℕ, ℤ, pos, negsuc, arith, refl, subst}
use Rattle.std.proofs.lemmas.Int.{ints}
use Rattle.jiff_tz.specs.PosixRule.{offset_at}
use Rattle.jiff_tz.specs.declared.posix.TimeZone.{TimeZone}
use Rattle.mds_match.specs.ValidZone.{zone_kind, IsKept}
use Rattle.mds_match.specs.Zone.{ZoneKind, instant_of, offset_in}
use Rattle.mds_match.specs.declared.zone.ZoneForm.{ZoneForm}
use Rattle.mds_match.specs.declared.zone.ZoneForm.TheVariants.{Fixed, Rule}
use Rattle.mds_match.proofs.Offsets.{offset_in-is}
use Rattle.mds_match.proofs.zone.Zone.offset_at.Goals as goal

-- the stored offset is that of the zone
of_fixed : (offset : ℤ) (kind : ZoneForm) (zone : ZoneKind) (moment : ℕ) → kind ≡ Fixed offset → zone_kind kind ≡ zone → offset ≡ offset_in zone moment
unfolding offset_in
of_fixed offset kind zone moment is view_is = rw (← view_is, is) refl

-- and so is the offset of the stored rule
of_rule : (rule : TimeZone) (kind : ZoneForm) (zone : ZoneKind) (moment : ℕ) → kind ≡ Rule rule → zone_kind kind ≡ zone → (offset_at rule (instant_of moment)).seconds ≡ offset_in zone moment
of_rule rule kind zone moment is view_is = rw (← view_is, is) (offset_in-is rule moment)

pub returns-in-Fixed-clause-value : goal.returns-in-Fixed-clause-value
returns-in-Fixed-clause-value c =
    let kept : (negsuc 53939 ≤ℤ c.in-Fixed.offset) × (c.in-Fixed.offset ≤ℤ pos 53940) = subst IsKept c.in-Fixed.is c.self.invariant in
    omega (arith, ints) ∙ of_fixed c.in-Fixed.offset c.self.inside.kind c.args.self.now c.args.at c.in-Fixed.is c.self.view_is

pub returns-in-Rule-clause-value : goal.returns-in-Rule-clause-value
returns-in-Rule-clause-value c =
    omega (arith, ints) ∙ c.rule_offset.ensures.value ∙ of_rule c.in-Rule.rule c.self.inside.kind c.args.self.now c.args.at c.in-Rule.is c.self.view_is
