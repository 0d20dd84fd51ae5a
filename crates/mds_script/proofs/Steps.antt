-- What is gathered after each step of the line reader.
use Rattle.std.proofs.Common.{◌≡◌, ℕ, ◌<◌, ◌⊎◌, ◌+◌, Bool, true, false, take, length, ◌∷◌, ◌++◌, List, [], Option, Some, None, sym, ap, subst, ◌∙◌}
use Rattle.std.specs.Io.KnownBytes.{Keeps, IsAtEnd, prepend_known}
use Rattle.mds_script.specs.declared.lines.LineReader.{LineReader}
use Rattle.mds_script.specs.declared.lines.NextLine.{NextLine}
use Rattle.mds_script.specs.declared.lines.NextLine.TheVariants.{End}
use Rattle.mds_script.specs.LineReading.{ahead, held, passed, left, Finds, Advances, IsWithoutFeed}
use Rattle.mds_script.specs.declared.gather.TheConstants.{STORED_LIMIT}
use Rattle.mds_script.proofs.Framed.{Closes, ClosesLast}
use Rattle.mds_script.proofs.Reading.{Gathered, gathered_piece, gathered_kept, gathered_advances, feed_advances, found_at_feed, found_at_end, nearer_at_end}

-- The stored line gained the buffered bytes up to their first line feed, or all where there is none, as many as there
-- is room for.
abbrev pub TakesLine : Bool → LineReader → LineReader → Type 0
TakesLine true old new =
    (front : List ℕ) × (ahead old ≡ front ++ 10 ∷ ahead new) × IsWithoutFeed front × (held new ≡ take STORED_LIMIT (held old ++ front)) × (passed new ≡ passed old + length front + 1)
TakesLine false old new =
    IsWithoutFeed (ahead old) × (ahead new ≡ []) × (held new ≡ take STORED_LIMIT (held old ++ ahead old)) × (passed new ≡ passed old + length (ahead old))

-- the buffered bytes and the number of bytes before them don't change
pub record SameAhead (old new : LineReader) : Type 0 where
  pub ahead_same : ahead new ≡ ahead old
  pub passed_same : passed new ≡ passed old

same_left : (old new : LineReader) (remaining : Option (List ℕ)) → SameAhead old new → left new remaining ≡ left old remaining
same_left old new remaining s = ap (λ xs. prepend_known xs remaining) s.ahead_same

left_over : (r : LineReader) (remaining : Option (List ℕ)) → ahead r ≡ [] → IsAtEnd remaining → IsAtEnd (left r remaining)
left_over r remaining none over = subst (λ xs. IsAtEnd (prepend_known xs remaining)) (sym none) (nothing remaining over)
  where
    nothing : (remaining : Option (List ℕ)) → IsAtEnd remaining → IsAtEnd (prepend_known [] remaining)
    nothing None over = tt
    nothing (Some xs) over = over

module _ (old : Option (List ℕ)) (passed_old : ℕ) where
  -- the reader has gathered this since then
  abbrev pub HasGathered : LineReader → Option (List ℕ) → Type 0
  HasGathered r remaining = Gathered old (left r remaining) passed_old (passed r) (held r)

  pub after_no_feed : (r r' : LineReader) (remaining : Option (List ℕ)) → HasGathered r remaining → TakesLine false r r' → HasGathered r' remaining
  after_no_feed r r' remaining g t = gathered_piece remaining (ahead r) (ahead r') (held r') (passed r') g t.0 t.1 t.2 t.3

  pub after_refill : (r r' : LineReader) (remaining remaining' : Option (List ℕ)) → HasGathered r remaining → Keeps (left r remaining) (left r' remaining') → held r' ≡ held r → passed r' ≡ passed r → HasGathered r' remaining'
  after_refill r r' remaining remaining' g k h p = gathered_kept (held r') (passed r') g k h p

  pub line_found : (r r' r'' : LineReader) (remaining : Option (List ℕ)) (found : NextLine) → HasGathered r remaining → TakesLine true r r' → Closes (held r') found (held r'') → SameAhead r' r'' → Finds found (held r'') old (left r'' remaining)
  line_found r r' r'' remaining found g t closed same =
      subst (λ now. Finds found (held r'') old now) (sym (same_left r' r'' remaining same))
      (found_at_feed remaining (ahead r) t.0 (ahead r') (held r') (held r'') found g t.1 t.2 t.3 closed)

  pub line_advances : (r r' r'' : LineReader) (remaining : Option (List ℕ)) → HasGathered r remaining → TakesLine true r r' → SameAhead r' r'' → Advances passed_old old (passed r'') (left r'' remaining)
  line_advances r r' r'' remaining g t same =
      subst (λ now. Advances passed_old old (passed r'') now) (sym (same_left r' r'' remaining same))
      (feed_advances remaining (ahead r) t.0 (ahead r') (passed r'') g t.1 (same.passed_same ∙ t.4))

  pub end_found : (r r' : LineReader) (remaining : Option (List ℕ)) (found : NextLine) → HasGathered r remaining → ahead r ≡ [] → IsAtEnd remaining → ClosesLast (held r) found (held r') → SameAhead r r' → Finds found (held r') old (left r' remaining)
  end_found r r' remaining found g none over closed same =
      subst (λ now. Finds found (held r') old now) (sym (same_left r r' remaining same))
      (found_at_end (held r') found g (left_over r remaining none over) closed)

  pub end_advances : (r r' : LineReader) (remaining : Option (List ℕ)) → HasGathered r remaining → SameAhead r r' → Advances passed_old old (passed r') (left r' remaining)
  end_advances r r' remaining g same =
      subst (λ now. Advances passed_old old (passed r') now) (sym (same_left r r' remaining same))
      (subst (λ p. Advances passed_old old p (left r remaining)) (sym same.passed_same) (gathered_advances g))

  pub end_nearer : (r r' : LineReader) (remaining : Option (List ℕ)) (found : NextLine) → HasGathered r remaining → ClosesLast (held r) found (held r') → SameAhead r r' → (found ≡ End) ⊎ (passed_old < passed r')
  end_nearer r r' remaining found g closed same =
      subst (λ p. (found ≡ End) ⊎ (passed_old < p)) (sym same.passed_same) (nearer_at_end (held r') found g closed)
