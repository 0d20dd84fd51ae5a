-- What `retain` keeps, by a test that stays as it was.
use Rattle.std.proofs.Common.{◌≡◌, ℕ, Bool, true, false, cond, List, [], ◌∷◌, length, refl, ap, sym, subst, ◌∙◌, arith}
use Rattle.std.specs.List.{filter, items_where_true}
use Rattle.std.specs.List.Retain.{IsFiltered, ReturnsInTurn}

where_true : {X : Type 0} (b : Bool) (bs : List Bool) (x : X) (xs : List X) → items_where_true (b ∷ bs) (x ∷ xs) ≡ cond b (x ∷ items_where_true bs xs) (items_where_true bs xs)
where_true true bs x xs = refl
where_true false bs x xs = refl

kept_in_turn : {X P : Type 0} (R : P → X → Bool → P → Type 0) (test : X → Bool) (f : P) → ((x : X) (b : Bool) (q : P) → R f x b q → (b ≡ test x) × (q ≡ f)) → (p : P) (bs : List Bool) (xs : List X) (q : P) → p ≡ f → length bs ≡ length xs → ReturnsInTurn R p bs xs q → items_where_true bs xs ≡ filter test xs
kept_in_turn R test f says p [] [] q e n h = refl
kept_in_turn R test f says p [] (x ∷ xs) q e n h = absurd (omega arith)
kept_in_turn R test f says p (b ∷ bs) [] q e n h = absurd (omega arith)
kept_in_turn R test f says p (b ∷ bs) (x ∷ xs) q e n h =
    let told = says x b h.0 (subst (λ g. R g x b h.0) e h.1) in
    where_true b bs x xs
    ∙ ap (λ ys. cond b (x ∷ ys) ys) (kept_in_turn R test f says h.0 bs xs q told.1 (omega arith) h.2)
    ∙ ap (λ c. cond c (x ∷ filter test xs) (filter test xs)) told.0

pub filter_kept : {X P : Type 0} (R : P → X → Bool → P → Type 0) (test : X → Bool) (f : P) → ((x : X) (b : Bool) (q : P) → R f x b q → (b ≡ test x) × (q ≡ f)) → (xs ys : List X) → IsFiltered R f xs ys → ys ≡ filter test xs
filter_kept R test f says xs ys h = h.4 ∙ kept_in_turn R test f says f h.0 xs h.1 refl h.2 h.3
