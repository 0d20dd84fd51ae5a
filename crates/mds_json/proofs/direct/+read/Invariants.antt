use Rattle.std.proofs.Common.{◌≡◌, ℕ, ◌+◌, ◌*◌, ◌≤◌, length, map}
use Rattle.json.specs.Json.{items, members, value, parse_map}
use Rattle.serde_json.specs.Read.{converted}
use Rattle.mds_text.specs.Tree.{members_of, no_members}
use Rattle.mds_json.specs.Gathered.{items_before}
use Rattle.mds_json.specs.Node.{node_view, node_member_view, pair_view}
use Rattle.mds_json.specs.Direct.{tree_items, tree_members, quoted_in}
use Rattle.mds_json.proofs.direct.+read.Given as goal

abbrev pub decreases-read : goal.decreases-read
decreases-read l = 4 * l.depth

abbrev pub decreases-read_list : goal.decreases-read_list
decreases-read_list l = 4 * l.depth + 3

abbrev pub decreases-read_pairs : goal.decreases-read_pairs
decreases-read_pairs l = 4 * l.depth + 2

abbrev pub decreases-read_entry : goal.decreases-read_entry
decreases-read_entry l = 4 * l.depth + 1

abbrev pub decreases-read_items : goal.decreases-read_items
decreases-read_items l = 4 * l.depth + 1

abbrev pub decreases-read_members : goal.decreases-read_members
decreases-read_members l = 4 * l.depth + 1

abbrev pub invariant-read_pairs-pairs : goal.invariant-read_pairs-pairs
invariant-read_pairs-pairs l =
    (n : ℕ) × (length l.reader ≤ n)
    × (converted tree_items (items (value l.depth) (length l.initial.reader) l.initial.reader) ≡ parse_map (items_before (map pair_view l.pairs.items)) (converted tree_items (items (value l.depth) n l.reader)))
    × (length l.reader ≤ length l.initial.reader)
    × (l.quoted + quoted_in l.reader ≡ l.initial.quoted + quoted_in l.initial.reader)

abbrev pub decreases-read_pairs-pairs : goal.decreases-read_pairs-pairs
decreases-read_pairs-pairs l = length l.reader

abbrev pub invariant-read_items-items : goal.invariant-read_items-items
invariant-read_items-items l =
    ((m : ℕ) → length l.initial.reader ≤ m → (n : ℕ) × (length l.reader ≤ n)
    × (parse_map (items_before (map node_view l.fn.found.items)) (converted tree_items (items (value l.depth) m l.initial.reader)) ≡ parse_map (items_before (map node_view l.found.items)) (converted tree_items (items (value l.depth) n l.reader))))
    × (length l.reader ≤ length l.initial.reader)
    × (l.quoted + quoted_in l.reader ≡ l.initial.quoted + quoted_in l.initial.reader)

abbrev pub decreases-read_items-items : goal.decreases-read_items-items
decreases-read_items-items l = length l.reader

abbrev pub invariant-read_members-members : goal.invariant-read_members-members
invariant-read_members-members l =
    (n : ℕ) × (length l.reader ≤ n)
    × (converted (λ ms. tree_members ms no_members) (members (value l.depth) (length l.initial.reader) l.initial.reader)
    ≡ converted (λ ms. tree_members ms (members_of (map node_member_view l.found.items))) (members (value l.depth) n l.reader))
    × (length l.reader ≤ length l.initial.reader)
    × (l.quoted + quoted_in l.reader ≡ l.initial.quoted + quoted_in l.initial.reader)

abbrev pub decreases-read_members-members : goal.decreases-read_members-members
decreases-read_members-members l = length l.reader
