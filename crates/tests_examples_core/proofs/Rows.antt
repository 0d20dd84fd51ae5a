-- What the rows of the examples are, and how many.
use Rattle.std.proofs.Common.{◌≡◌, [], ◌∷◌, length, Some, None, refl, sym, ap, ◌∙◌}
use Rattle.std.specs.Cmp.Lexicographic.{nat_list_cmp_total}
use Rattle.std.specs.FinMap.{empty, remove, get, len, len-remove, put, entries, from_sorted, get-empty, get-insert, len-empty, len-insert, len-entries, empty_of_len, entries-from_sorted, entries-insert}
use Rattle.mds_fleet.specs.Books.{Rows, device_cmp}
use Rattle.mds_match.specs.Row.{Row}
use Rattle.tests_examples_core.specs.Vehicles.{first_device, second_device, third_device, first_vehicle, second_inside, one_row, two_rows}

abbrev pub no_rows : Rows
no_rows = empty

-- the entries of rows, in the order of their devices
pub no_entries : entries no_rows ≡ []
no_entries =
    let sorted : entries (from_sorted {X = Row} {R = device_cmp} []) ≡ [] = entries-from_sorted device_cmp [] tt in
    ap entries (sym (empty_of_len (from_sorted []) (len-entries _ ∙ ap length sorted))) ∙ sorted

pub one_entry : entries one_row ≡ (first_device, first_vehicle) ∷ []
one_entry = entries-insert nat_list_cmp_total no_rows first_device first_vehicle ∙ ap (put device_cmp first_device first_vehicle) no_entries

pub two_entries : entries two_rows ≡ (first_device, first_vehicle) ∷ (second_device, second_inside) ∷ []
two_entries = entries-insert nat_list_cmp_total one_row second_device second_inside ∙ ap (put device_cmp second_device second_inside) one_entry

pub none_first : get no_rows first_device ≡ None
none_first = get-empty device_cmp first_device

pub none_count : len no_rows ≡ 0
none_count = len-empty device_cmp Row

pub one_first : get one_row first_device ≡ Some first_vehicle
one_first = get-insert nat_list_cmp_total no_rows first_device first_vehicle first_device

pub one_count : len one_row ≡ 1
one_count = len-insert nat_list_cmp_total no_rows first_device first_vehicle ∙ rw (none_first, none_count) refl

pub one_second : get one_row second_device ≡ None
one_second = get-insert nat_list_cmp_total no_rows first_device first_vehicle second_device ∙ get-empty device_cmp second_device

one_third : get one_row third_device ≡ None
one_third = get-insert nat_list_cmp_total no_rows first_device first_vehicle third_device ∙ get-empty device_cmp third_device

pub two_first : get two_rows first_device ≡ Some first_vehicle
two_first = get-insert nat_list_cmp_total one_row second_device second_inside first_device ∙ one_first

pub two_third : get two_rows third_device ≡ None
two_third = get-insert nat_list_cmp_total one_row second_device second_inside third_device ∙ one_third

pub two_count : len two_rows ≡ 2
two_count = len-insert nat_list_cmp_total one_row second_device second_inside ∙ rw (one_second, one_count) refl

-- nothing is left once what was reported is removed
pub first_out : remove one_row first_device ≡ no_rows
first_out = empty_of_len _ (len-remove nat_list_cmp_total one_row first_device ∙ rw (one_first, one_count) refl)
