-- A policy as it is served: the author's document, with the moment of its publication where it has one.
use Rattle.std.specs.Prelude.{ℕ, pos, List, codes, Option, Some, None}
use Rattle.std.specs.Cmp.Lexicographic.{slice_cmp}
use Rattle.std.specs.Ordering.{nat_cmp, match_ordering}
use Rattle.mds_text.specs.Tree.{Json, int, object, Members, no_members, member}
use Rattle.mds_policy.specs.Policy.{Policy}

-- a member put among members that ascend by name: in place of the one of its name, or at its own place
abbrev pub with_member : List ℕ → Json → Members → Members
with_member name value no_members = member name value no_members
with_member name value (member key old rest) =
    match_ordering (slice_cmp nat_cmp name key) (member name value (member key old rest)) (member name value rest) (member key old (with_member name value rest))

-- a document with the moment of its publication
abbrev pub dated : ℕ → Json → Json
dated moment (object ms) = object (with_member (codes "published_date") (int (pos moment)) ms)
dated moment value = value

abbrev pub served : Policy → Option ℕ → Json
served policy None = policy.tree
served policy (Some moment) = dated moment policy.tree
