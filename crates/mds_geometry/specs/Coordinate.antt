-- A coordinate of a document: degrees, stored in units of 10^-7 degree (RFC 7946, section 3.1.1).
use Rattle.std.specs.Prelude.{ℕ, ℤ, pos, neg_ℤ, ◌*◌, ◌*ℤ◌, ◌&&◌, int_le, if◌then◌else◌, Result, Ok, Err}
use Rattle.mds_text.specs.Tree.{Json, int, text}
use Rattle.mds_text.specs.Fault.{Fault, bad_field, out_of_range, ◌>>=◌}
use Rattle.mds_text.specs.Numbers.{units_of}
use Rattle.mds_text.specs.declared.field.Field.{Field}

-- units in a degree
abbrev pub units_of_degree : ℕ
units_of_degree = 10000000

-- the greatest longitude and the greatest latitude, in degrees
abbrev pub most_longitude : ℕ
most_longitude = 180

abbrev pub most_latitude : ℕ
most_latitude = 90

-- at most so many degrees from zero, in either direction
abbrev pub within : ℕ → ℤ → Result ℤ Fault
within most units =
    if int_le (neg_ℤ (pos (most * units_of_degree))) units && int_le units (pos (most * units_of_degree)) then Ok units else Err out_of_range

-- a number of degrees, in units: a plain whole number, or a number's text (RFC 8259, section 6)
abbrev pub units_at : Field → Json → Result ℤ Fault
units_at field (int whole) = Ok (whole *ℤ pos units_of_degree)
units_at field (text s) = units_of s
units_at field value = Err (bad_field field)

-- a coordinate at most so many degrees from zero, once it is rounded to units
abbrev pub coordinate_of : ℕ → Field → Json → Result ℤ Fault
coordinate_of most field value = units_at field value >>= within most
