-- The tree of a value of json's grammar (RFC 8259): numbers that aren't plain become strings, names are in byte order,
-- and of equal names the last is kept.
use Rattle.std.specs.Prelude.{ℕ, ℤ, ◌+◌, List, [], ◌∷◌, if◌then◌else◌, Option, Some, None, option_map, option_and_then, Result, Ok, Err}
use Rattle.std.specs.Ordering.{nat_cmp, match_ordering}
use Rattle.std.specs.Cmp.Lexicographic.{slice_cmp}
use Rattle.json.specs.Json as json
use Rattle.json.specs.Token.{Token}
use Rattle.serde_json.specs.Read.{number_of}
use Rattle.mds_text.specs.Fault.{Fault}
use Rattle.mds_text.specs.Quoting.{is_quoted}
use Rattle.mds_text.specs.Reading.{plain_int}
use Rattle.mds_text.specs.Tree.{Json, null, boolean, int, text, list, object, Items, no_items, item, Members, no_members, member}

abbrev pub ok_of : {A : Type 0} → Result A Fault → Option A
ok_of (Ok a) = Some a
ok_of (Err e) = None

-- a plain whole number
abbrev pub whole_number : List ℕ → Option ℤ
whole_number s = option_and_then (λ n. ok_of (plain_int n)) (number_of s)

-- a number; one that isn't plain becomes a string
abbrev pub tree_number : List ℕ → Option Json
tree_number s = if is_quoted s then Some (text s) else option_map int (whole_number s)

-- a member put among members that ascend by name: in place of the one of its name, or at its own place
abbrev pub put : List ℕ → Json → Members → Members
put k t no_members = member k t no_members
put k t (member l u ms) = match_ordering (slice_cmp nat_cmp k l) (member k t (member l u ms)) (member l t ms) (member l u (put k t ms))

abbrev mutual
  pub tree_value : json.Json → Option Json
  tree_value json.null = Some null
  tree_value (json.boolean b) = Some (boolean b)
  tree_value (json.number s) = tree_number s
  tree_value (json.string s) = Some (text s)
  tree_value (json.array js) = option_map list (tree_items js)
  tree_value (json.object ms) = option_map object (tree_members ms no_members)

  pub tree_items : json.Items → Option Items
  tree_items json.no_items = Some no_items
  tree_items (json.item j js) = option_and_then (λ t. option_map (item t) (tree_items js)) (tree_value j)

  pub tree_members : json.Members → Members → Option Members
  tree_members json.no_members found = Some found
  tree_members (json.member k j ms) found = option_and_then (λ t. tree_members ms (put k t found)) (tree_value j)

-- how many numbers among the tokens aren't plain
abbrev pub quoted_one : Token → ℕ
quoted_one (Token.number s) = if is_quoted s then 1 else 0
quoted_one other = 0

abbrev pub quoted_in : List Token → ℕ
quoted_in [] = 0
quoted_in (t ∷ ts) = quoted_one t + quoted_in ts
