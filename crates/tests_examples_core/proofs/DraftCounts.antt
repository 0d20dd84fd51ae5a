-- What the drafts of the examples are, and how many.
use Rattle.std.proofs.Common.{◌≡◌, Some, None, refl, ◌∙◌}
use Rattle.std.specs.Cmp.Lexicographic.{nat_list_cmp_total}
use Rattle.std.specs.FinMap.{FinMap, empty, insert, remove, get, len, get-empty, get-insert, len-empty, len-insert, len-remove, empty_of_len}
use Rattle.mds_drafts.specs.Drafts.{id_cmp}
use Rattle.mds_geography.specs.Geography.{Geography}
use Rattle.mds_policy.specs.Policy.{Policy}
use Rattle.tests_examples_core.specs.Geographies.{square_document}
use Rattle.tests_examples_core.specs.Ids.{square_id, cap_id}
use Rattle.tests_examples_core.specs.Policies.{cap}

abbrev no_geographies : FinMap id_cmp Geography
no_geographies = empty

abbrev one_geography : FinMap id_cmp Geography
one_geography = insert empty square_id square_document

abbrev no_policies : FinMap id_cmp Policy
no_policies = empty

abbrev one_policy : FinMap id_cmp Policy
one_policy = insert empty cap_id cap

pub no_square : get no_geographies square_id ≡ None
no_square = get-empty id_cmp square_id

pub geography_count : len no_geographies ≡ 0
geography_count = len-empty id_cmp Geography

pub no_cap : get no_policies cap_id ≡ None
no_cap = get-empty id_cmp cap_id

pub policy_count : len no_policies ≡ 0
policy_count = len-empty id_cmp Policy

pub the_square : get one_geography square_id ≡ Some square_document
the_square = get-insert nat_list_cmp_total no_geographies square_id square_document square_id

pub the_cap : get one_policy cap_id ≡ Some cap
the_cap = get-insert nat_list_cmp_total no_policies cap_id cap cap_id

-- counts, by which nothing is left once what was put is taken out
one_square : len one_geography ≡ 1
one_square = len-insert nat_list_cmp_total no_geographies square_id square_document ∙ rw (no_square, geography_count) refl

one_cap : len one_policy ≡ 1
one_cap = len-insert nat_list_cmp_total no_policies cap_id cap ∙ rw (no_cap, policy_count) refl

pub square_out : remove one_geography square_id ≡ no_geographies
square_out = empty_of_len _ (len-remove nat_list_cmp_total one_geography square_id ∙ rw (the_square, one_square) refl)

pub cap_out : remove one_policy cap_id ≡ no_policies
cap_out = empty_of_len _ (len-remove nat_list_cmp_total one_policy cap_id ∙ rw (the_cap, one_cap) refl)
