-- Lists of lawful publications.
use Rattle.std.proofs.Common.{◌≡◌, ◌⊎◌, inl, inr, ⊎_elim, Bool, true, false, cond, List, [], ◌∷◌, ◌++◌, refl, ap, ◌∙◌}
use Rattle.mds_catalog.specs.Publication.{Publication, extended, is_lawful}
use Rattle.mds_catalog.specs.Laws.{AreLawful}

pub lawful_none : AreLawful []
lawful_none [] rest p is = absurd (cc is)
lawful_none (b ∷ bs) rest p is = absurd (cc is)

-- an element of a list with one more at its end: that last one, or one of the others
cut : {A : Type 0} (xs : List A) (x : A) (before rest : List A) (y : A) → xs ++ x ∷ [] ≡ before ++ y ∷ rest
    → ((before ≡ xs) × (y ≡ x)) ⊎ ((others : List A) × (xs ≡ before ++ y ∷ others))
cut [] x [] rest y is = inl (refl, cc is)
cut [] x (b ∷ []) rest y is = absurd (cc is)
cut [] x (b ∷ c ∷ bs) rest y is = absurd (cc is)
cut (z ∷ zs) x [] rest y is = inr (zs, cc is)
cut (z ∷ zs) x (b ∷ bs) rest y is =
    let heads : b ≡ z = cc is in
    ⊎_elim (λ (t : (bs ≡ zs) × (y ≡ x)). inl (cc (heads, t.0), t.1)) (λ (t : (others : List _) × (zs ≡ bs ++ y ∷ others)). inr (t.0, cc (heads, t.1))) (cut zs x bs rest y (cc is))

-- one more lawful publication
pub lawful_more : (ps : List Publication) (p : Publication) → AreLawful ps → is_lawful ps p ≡ true → AreLawful (ps ++ p ∷ [])
lawful_more ps p all more before rest q is =
    ⊎_elim (λ (t : (before ≡ ps) × (q ≡ p)). ap (λ b. is_lawful b q) t.0 ∙ ap (λ r. is_lawful ps r) t.1 ∙ more)
    (λ (t : (others : List Publication) × (ps ≡ before ++ q ∷ others)). all before t.0 q t.1) (cut ps p before rest q is)

-- lawful publications stay lawful with one more, where it is lawful
pub lawful_extended : (ps : List Publication) (p : Publication) → AreLawful ps → AreLawful (extended ps p)
lawful_extended ps p all = by (is_lawful ps p) refl
  where
    by : (b : Bool) → is_lawful ps p ≡ b → AreLawful (cond b (ps ++ p ∷ []) ps)
    by false is = all
    by true is = lawful_more ps p all is
