-- When a withdrawn policy ends, and its document then. Withdrawal is this server's own; MDS 2.0 Policy has an end,
-- `end_date`.
use Rattle.std.specs.Prelude.{ℕ, pos, List, [], ◌∷◌, ◌++◌, filter, min, Bool, not, bytes_eq, codes, Option, Some, None, if◌then◌else◌}
use Rattle.std.specs.Option.{option_map_or}
use Rattle.mds_text.specs.Tree.{Json, int, object, Members, no_members, member, members_of}
use Rattle.mds_policy.specs.Policy.{Policy}
use Rattle.mds_policy.specs.Served as policy
use Rattle.mds_catalog.specs.Publication.{Publication, Published, is_among}

-- the earlier of a moment and another, if there is one
abbrev pub earlier : ℕ → Option ℕ → ℕ
earlier moment known = option_map_or (min moment) known moment

-- the first moment at which a publication withdraws the policy of this identifier
abbrev pub withdrawn_from : List Publication → List ℕ → Option ℕ
withdrawn_from [] id = None
withdrawn_from (p ∷ ps) id =
    if is_among p.withdrawn id then Some (earlier p.moment (withdrawn_from ps id)) else withdrawn_from ps id

-- when a policy ends that may be withdrawn: at its own end, and if it is withdrawn, then at the latest
abbrev pub ends : Option ℕ → Option ℕ → Option ℕ
ends None end = end
ends (Some moment) end = Some (earlier moment end)

-- when a published policy ends
abbrev pub end_of : List Publication → Published Policy → Option ℕ
end_of publications p = ends (withdrawn_from publications p.document.id) p.document.end

-- the members of an object, as a list
abbrev pub listed : Members → List (List ℕ × Json)
listed no_members = []
listed (member name value rest) = (name, value) ∷ listed rest

-- a member that isn't the end
abbrev pub is_not_end : List ℕ × Json → Bool
is_not_end m = not (bytes_eq m.0 (codes "end_date"))

-- a document whose end is this moment
abbrev pub ended : ℕ → Json → Json
ended moment (object ms) = object (members_of (filter is_not_end (listed ms) ++ (codes "end_date", int (pos moment)) ∷ []))
ended moment value = value

-- a document with its own end, which may be withdrawn
abbrev pub ended_at : Option ℕ → Option ℕ → Json → Json
ended_at None end document = document
ended_at (Some moment) end document = ended (earlier moment end) document

-- a published policy as a public document: if it is withdrawn, with the end of that
abbrev pub policy_json : List Publication → Published Policy → Json
policy_json publications p =
    ended_at (withdrawn_from publications p.document.id) p.document.end (policy.served p.document (Some p.moment))
