-- When a log's file has the same effect as all that was appended, though it is a compacted one.
use Rattle.std.specs.Prelude.{◌≡◌, ◌⊎◌, ℕ, List, [], ◌∷◌, ◌++◌}
use Rattle.journal_file.specs.LogEnds.{IsSealed}
use Rattle.journal_file.specs.declared.log_end.LogEnd.{LogEnd}

-- lists with the same log end: they are one, assuming no checksum collision
abbrev pub HaveOneSeal : (one other : List (List ℕ)) → Type 0
HaveOneSeal one other = (seal : LogEnd) × IsSealed seal one × IsSealed seal other

module _ (same : List (List ℕ) → List (List ℕ) → Type 0) where
  -- One list is equivalent to another: they begin with two that were found equivalent, or that have the same log end,
  -- and their rests are equal.
  pub record LeadsBeside (one other : List (List ℕ)) : Type 0 where
    pub front : List (List ℕ)
    pub other_front : List (List ℕ)
    pub rest : List (List ℕ)
    pub is_one : one ≡ front ++ rest
    pub is_other : other ≡ other_front ++ rest
    pub fronts : same front other_front ⊎ HaveOneSeal front other_front

  -- each list is equivalent to the next, up to the last one
  abbrev pub LeadsBy : (between : List (List (List ℕ))) → (one last : List (List ℕ)) → Type 0
  LeadsBy [] one last = one ≡ last
  LeadsBy (next ∷ between) one last = LeadsBeside one next × LeadsBy between next last

  -- what a file has leads to where all that was appended does: it is equivalent to it, by some steps
  abbrev pub Leads : (one last : List (List ℕ)) → Type 0
  Leads one last = (between : List (List (List ℕ))) × LeadsBy between one last

  -- The premise that there is no checksum collision: where the beginnings of two such lists have the same log end, they
  -- are one list.
  abbrev pub NoCollision : (one other : List (List ℕ)) → LeadsBeside one other → Type 0
  NoCollision one other beside = HaveOneSeal beside.front beside.other_front → beside.front ≡ beside.other_front

  abbrev pub NoCollisionBy : (between : List (List (List ℕ))) → (one last : List (List ℕ)) → LeadsBy between one last → Type 0
  NoCollisionBy [] one last by = Unit {0}
  NoCollisionBy (next ∷ between) one last by = NoCollision one next by.0 × NoCollisionBy between next last by.1

  -- the same of each step
  abbrev pub HasNoCollision : (one last : List (List ℕ)) → Leads one last → Type 0
  HasNoCollision one last leads = NoCollisionBy leads.0 one last leads.1
