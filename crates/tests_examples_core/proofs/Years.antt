-- The offsets of two rules in the year 2023. The definitions count the years and their days from the year -10000 on, so
-- the year of a moment isn't computed: it is the one in whose days the moment lies.
use Rattle.std.proofs.Common.{◌≡◌, ℕ, pos, neg_ℤ, true, nat_le, nat_lt, arith, refl}
use Rattle.std.proofs.lemmas.Bool.Decides.{nat_tests}
use Rattle.jiff_core.specs.Calendar.{days_of_years, days_of_months, day_count, days_from_civil, weekday_number}
use Rattle.jiff_tz.proofs.YearLemmas.{years_within_is}
use Rattle.jiff_tz.specs.PosixRule.{rule_day}
use Rattle.jiff_tz.specs.Year.{years_within, year_of_nanos}
use Rattle.mds_match.specs.Zone.{summer, rule_offset, offset_in, ruled, instant_of}
use Rattle.tests_examples_core.specs.Zones.{pacific_summer, pacific, sydney_summer, sydney}

-- 12023 years lie from the year -10000 to 2022
year_is : (count : ℕ) → nat_le (days_of_years 12023) count ≡ true → nat_lt count (days_of_years 12024) ≡ true → years_within 20000 count ≡ 12023
year_is count low high = years_within_is 20000 12023 count (omega arith) (grind (arith, nat_tests)) (grind (arith, nat_tests))

pacific_2023 : summer pacific_summer (pos 2023) (neg_ℤ (pos 28800)) ≡ (pos 1678615200000000000, pos 1699174800000000000)
unfolding summer rule_day days_from_civil day_count days_of_years days_of_months weekday_number
pacific_2023 = refl

-- from Sunday 1 October, and to Sunday 2 April, at 02:00 standard time, which is 16:00 of the day before in UTC
sydney_2023 : summer sydney_summer (pos 2023) (pos 36000) ≡ (pos 1696089600000000000, pos 1680364800000000000)
unfolding summer rule_day days_from_civil day_count days_of_years days_of_months weekday_number
sydney_2023 = refl

pub before_the_gap : offset_in (ruled pacific) 1678615199999 ≡ neg_ℤ (pos 28800)
unfolding offset_in rule_offset days_of_years
before_the_gap =
    let year : year_of_nanos (instant_of 1678615199999) ≡ pos 2023 = rw (year_is _ refl refl) refl in
    rw (year, pacific_2023) refl

pub after_the_gap : offset_in (ruled pacific) 1678615200000 ≡ neg_ℤ (pos 25200)
unfolding offset_in rule_offset days_of_years
after_the_gap =
    let year : year_of_nanos (instant_of 1678615200000) ≡ pos 2023 = rw (year_is _ refl refl) refl in
    rw (year, pacific_2023) refl

pub first_time : offset_in (ruled pacific) 1699174799999 ≡ neg_ℤ (pos 25200)
unfolding offset_in rule_offset days_of_years
first_time =
    let year : year_of_nanos (instant_of 1699174799999) ≡ pos 2023 = rw (year_is _ refl refl) refl in
    rw (year, pacific_2023) refl

pub second_time : offset_in (ruled pacific) 1699174800000 ≡ neg_ℤ (pos 28800)
unfolding offset_in rule_offset days_of_years
second_time =
    let year : year_of_nanos (instant_of 1699174800000) ≡ pos 2023 = rw (year_is _ refl refl) refl in
    rw (year, pacific_2023) refl

pub january : offset_in (ruled sydney) 1672531200000 ≡ pos 39600
unfolding offset_in rule_offset days_of_years
january =
    let year : year_of_nanos (instant_of 1672531200000) ≡ pos 2023 = rw (year_is _ refl refl) refl in
    rw (year, sydney_2023) refl

pub july : offset_in (ruled sydney) 1688169600000 ≡ pos 36000
unfolding offset_in rule_offset days_of_years
july =
    let year : year_of_nanos (instant_of 1688169600000) ≡ pos 2023 = rw (year_is _ refl refl) refl in
    rw (year, sydney_2023) refl
