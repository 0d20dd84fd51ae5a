-- The states of a rule, read one after another.
use Rattle.std.proofs.Common.{◌≡◌, ℕ, ◌+◌, ◌<◌, List, [], ◌∷◌, ◌++◌, length, map, drop, get_or, Result, Ok, Err, refl, sym, ap, ◌∙◌, append_assoc}
use Rattle.std.proofs.lemmas.List.{drop_more}
use Rattle.mds_text.specs.Fault.{Fault, ◌>>=◌}
use Rattle.mds_text.specs.Tree.{members_of}
use Rattle.mds_json.specs.Node.{node_member_view}
use Rattle.mds_json.specs.declared.node.NodeMember.{NodeMember}
use Rattle.mds_text.proofs.Lists.{with_front}
use Rattle.mds_policy.specs.Policy.{States}
use Rattle.mds_policy.specs.Reading.{state_of, states_of}

push_front : (done : List States) (a : States) (found : Result (List States) Fault) → with_front (done ++ a ∷ []) found ≡ with_front done (found >>= λ rest. Ok (a ∷ rest))
push_front done a (Ok xs) = ap Ok (append_assoc done (a ∷ []) xs)
push_front done a (Err fault) = refl

-- one iteration of the loop over the members
pub states_of-turn : (ms : List NodeMember) (i : ℕ) (m : NodeMember) (done more : List States) (a : States) → i < length ms → m ≡ get_or ms i m → state_of (node_member_view m).0 (node_member_view m).1 ≡ Ok a → more ≡ done ++ a ∷ []
    → with_front more (states_of (members_of (map node_member_view (drop (i + 1) ms)))) ≡ with_front done (states_of (members_of (map node_member_view (drop i ms))))
states_of-turn ms i m done more a within here is grown =
    let rest = states_of (members_of (map node_member_view (drop (i + 1) ms))) in
    ap (λ found. with_front found rest) grown
    ∙ push_front done a rest
    ∙ ap (λ r. with_front done (r >>= λ b. rest >>= λ bs. Ok (b ∷ bs))) (sym is)
    ∙ sym (ap (λ ts. with_front done (states_of (members_of (map node_member_view ts)))) (drop_more ms i m within ∙ ap (λ y. y ∷ drop (i + 1) ms) (sym here)))
