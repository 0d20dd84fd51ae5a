-- The definitions that are unfolded to compute the examples, by subject.
use Rattle.std.specs.Prelude.{⊤}
use Rattle.std.specs.Float.Numeral.{scan_numeral}
use Rattle.std.specs.Fmt as fmt
use Rattle.std.specs.Str.{chars, is_utf8}
use Rattle.json.specs.Json as json
use Rattle.json.specs.Lex.{lex, punctuate}
use Rattle.json.specs.Text.{code_unit, short_escape, content}
use Rattle.json.specs.Word.{after_number, word}
use Rattle.jiff_tz.specs.PosixReader.{read_byte, read_digit, read_exactly_two, read_up_to_two, read_up_to_three, read_sixty, read_minutes, read_sign, read_offset, read_rule_time, read_weekday_of_month, read_julian_one, read_julian_zero, read_day, read_day_time, read_unquoted, read_quoted, read_abbreviation, read_dst, read_tz, read_whole}
use Rattle.serde_json.specs.Read as serde
use Rattle.uuid.specs.Text.{by_index}
use Rattle.mds_geometry.specs.Inside.{holds}
use Rattle.mds_match.specs.Zone.{offset_in}
use Rattle.mds_policy.specs.Reading as policy
use Rattle.mds_fleet.specs.Reading as fleet
use Rattle.mds_text.specs.Numbers.{number_of, size_of, units_of}
use Rattle.mds_text.specs.Printed.{decimals}
use Rattle.mds_text.specs.Quoting.{pieces_behind}
use lib.Utf8.{encode}

-- the units that a number's text stands for, and units as they are printed
unfoldable pub numbers : ⊤
unfolding number_of size_of units_of decimals fmt.digits
numbers = tt

-- what is read of a text
unfoldable pub texts : ⊤
unfolding numbers pieces_behind encode chars is_utf8 lex punctuate json.value json.items json.members after_number word code_unit short_escape content scan_numeral serde.number_of
texts = tt

-- what is read of a document, and how it is served
unfoldable pub documents : ⊤
unfolding texts by_index fleet.report_of policy.read_policy policy.policy_of policy.rule_of policy.window_of policy.bounds_of
documents = tt

-- what an area holds
unfoldable pub places : ⊤
unfolding holds
places = tt

-- the local time in a zone, but for the year of a moment
unfoldable pub zones : ⊤
unfolding offset_in read_byte read_digit read_exactly_two read_up_to_two read_up_to_three read_sixty read_minutes read_sign read_offset read_rule_time read_weekday_of_month read_julian_one read_julian_zero read_day read_day_time read_unquoted read_quoted read_abbreviation read_dst read_tz read_whole
zones = tt
