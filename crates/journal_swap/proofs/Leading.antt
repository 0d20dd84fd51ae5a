-- Equivalent lists stay equivalent with more after both, and equivalence is transitive.
use Rattle.std.proofs.Common.{ℕ, List, [], ◌∷◌, ◌++◌, map, sym, ap, subst, ◌∙◌, append_assoc}
use Rattle.journal_swap.specs.Leading.{LeadsBeside, LeadsBy, Leads}

beside_grown : (same : List (List ℕ) → List (List ℕ) → Type 0) (one other more : List (List ℕ)) → LeadsBeside same one other → LeadsBeside same (one ++ more) (other ++ more)
beside_grown same one other more b =
    record {
      front = b.front;
      other_front = b.other_front;
      rest = b.rest ++ more;
      is_one = ap (λ (l : List (List ℕ)). l ++ more) b.is_one ∙ append_assoc b.front b.rest more;
      is_other = ap (λ (l : List (List ℕ)). l ++ more) b.is_other ∙ append_assoc b.other_front b.rest more;
      fronts = b.fronts;
    }

by_grown : (same : List (List ℕ) → List (List ℕ) → Type 0) (between : List (List (List ℕ))) (one last more : List (List ℕ)) → LeadsBy same between one last
    → LeadsBy same (map (λ (l : List (List ℕ)). l ++ more) between) (one ++ more) (last ++ more)
by_grown same [] one last more e = ap (λ (l : List (List ℕ)). l ++ more) e
by_grown same (next ∷ between) one last more b = (beside_grown same one next more b.0, by_grown same between next last more b.1)

by_joined : (same : List (List ℕ) → List (List ℕ) → Type 0) (between others : List (List (List ℕ))) (one middle last : List (List ℕ))
    → LeadsBy same between one middle → LeadsBy same others middle last → LeadsBy same (between ++ others) one last
by_joined same [] others one middle last e r = subst (λ (l : List (List ℕ)). LeadsBy same others l last) (sym e) r
by_joined same (next ∷ between) others one middle last b r = (b.0, by_joined same between others next middle last b.1 r)

pub grown : (same : List (List ℕ) → List (List ℕ) → Type 0) (one last more : List (List ℕ)) → Leads same one last → Leads same (one ++ more) (last ++ more)
grown same one last more l = (map (λ (k : List (List ℕ)). k ++ more) l.0, by_grown same l.0 one last more l.1)

pub joined : (same : List (List ℕ) → List (List ℕ) → Type 0) (one middle last : List (List ℕ)) → Leads same one middle → Leads same middle last → Leads same one last
joined same one middle last l r = (l.0 ++ r.0, by_joined same l.0 r.0 one middle last l.1 r.1)

pub beside_then : (same : List (List ℕ) → List (List ℕ) → Type 0) (one next last : List (List ℕ)) → LeadsBeside same one next → Leads same next last → Leads same one last
beside_then same one next last b l = (next ∷ l.0, (b, l.1))
