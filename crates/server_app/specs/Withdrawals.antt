-- Which policies are withdrawn, and from which moment on.
use Rattle.std.specs.Prelude.{ℕ, min, List, [], ◌∷◌, codes, if◌then◌else◌, Option, Some, None, option_map}
use Rattle.std.specs.List.{filter_map}
use Rattle.std.specs.Option.{option_map_or}
use Rattle.mds_text.specs.Tree.{Json, object, members_of}
use Rattle.mds_verdict.specs.Verdict.{printed_id}
use Rattle.mds_catalog.specs.Publication.{Publication, Published, is_among, policies_for}
use Rattle.mds_policy.specs.Policy.{Policy}
use Rattle.mds_request.specs.Reply.{Reply}
use Rattle.mds_machine.specs.Answer.{told}
use Rattle.mds_machine.specs.Bodies.{list_json, number_json}

-- the earlier of a moment and of another, where there is one
abbrev pub earlier : ℕ → Option ℕ → ℕ
earlier moment other = option_map_or (min moment) other moment

-- from when on a policy of this identifier is withdrawn: the first moment of a publication that withdraws it, where there is one
abbrev pub withdrawn_from : List Publication → List ℕ → Option ℕ
withdrawn_from [] id = None
withdrawn_from (p ∷ ps) id =
    if is_among p.withdrawn id then Some (earlier p.moment (withdrawn_from ps id)) else withdrawn_from ps id

-- a withdrawn policy, with that moment
abbrev pub withdrawal_json : List ℕ → ℕ → Json
withdrawal_json id moment = object (members_of ((codes "policy_id", printed_id id) ∷ (codes "withdrawn", number_json moment) ∷ []))

-- the withdrawal of a policy: none, where it isn't withdrawn
abbrev pub withdrawal_of : List Publication → Published Policy → Option Json
withdrawal_of publications p = option_map (withdrawal_json p.document.id) (withdrawn_from publications p.document.id)

-- those that are withdrawn of the policies that the reader sees, in order of publication; a reader is an operator's
-- identifier, or none for the author
abbrev pub withdrawals : List Publication → Option (List ℕ) → List Json
withdrawals publications reader = filter_map (withdrawal_of publications) (policies_for publications reader)

abbrev pub withdrawals_reply : List Publication → Option (List ℕ) → Reply
withdrawals_reply publications reader = told (object (members_of ((codes "withdrawals", list_json (withdrawals publications reader)) ∷ [])))
