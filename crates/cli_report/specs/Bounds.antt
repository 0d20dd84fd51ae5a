-- A rule's bounds in words.
use Rattle.std.specs.Prelude.{ℕ, ◌==◌, List, ◌++◌, Bool, true, false, codes, Option, Some, None}
use Rattle.std.specs.Fmt.{decimal}
use Rattle.mds_policy.specs.declared.rule.Bounds.{Bounds}
use Rattle.mds_policy.specs.declared.rule.Kind.{Kind}
use Rattle.mds_policy.specs.declared.rule.Kind.TheVariants.{Count, Time, Other}
use Rattle.mds_policy.specs.declared.rule.TimeUnit.TheVariants.{Seconds, Minutes, Hours, Days}

-- the words for a bound, whether or not it is within itself
abbrev pub least_text : Bool → ℕ → List ℕ
least_text true n = codes "at least " ++ decimal n
least_text false n = codes "more than " ++ decimal n

abbrev pub most_text : Bool → ℕ → List ℕ
most_text true n = codes "at most " ++ decimal n
most_text false n = codes "fewer than " ++ decimal n

abbrev pub limits_text : Bounds → Option ℕ → Option ℕ → List ℕ
limits_text b None None = codes "any number of"
limits_text b (Some least) None = least_text b.inclusive_minimum least
limits_text b None (Some most) = most_text b.inclusive_maximum most
limits_text b (Some least) (Some most) =
    least_text b.inclusive_minimum least ++ codes " and " ++ most_text b.inclusive_maximum most

-- whether the last number of these words is one, so that what is counted stands in the singular
abbrev pub ends_with_one : (least most : Option ℕ) → Bool
ends_with_one None None = false
ends_with_one (Some least) None = least == 1
ends_with_one None (Some most) = most == 1
ends_with_one (Some least) (Some most) = most == 1

-- what is counted: of one, or of any other number
abbrev pub unit_text : Kind → (one : Bool) → List ℕ
unit_text Count true = codes " vehicle"
unit_text Count false = codes " vehicles"
unit_text (Time Seconds) true = codes " second in one state"
unit_text (Time Seconds) false = codes " seconds in one state"
unit_text (Time Minutes) true = codes " minute in one state"
unit_text (Time Minutes) false = codes " minutes in one state"
unit_text (Time Hours) true = codes " hour in one state"
unit_text (Time Hours) false = codes " hours in one state"
unit_text (Time Days) true = codes " day in one state"
unit_text (Time Days) false = codes " days in one state"
unit_text Other one = codes " (not evaluated)"

abbrev pub bounds_text : Kind → Bounds → List ℕ
bounds_text kind b = limits_text b b.minimum b.maximum ++ unit_text kind (ends_with_one b.minimum b.maximum)
