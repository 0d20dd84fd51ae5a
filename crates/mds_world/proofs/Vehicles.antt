-- Vehicles that are printed one by one are the printed list of vehicles.
use Rattle.std.proofs.Common.{◌≡◌, ℕ, List, [], ◌∷◌, ◌++◌, map, codes, false, refl, ap, sym, ◌∙◌, append_assoc}
use Rattle.std.specs.List.{flat_map, join_with_byte}
use Rattle.std.proofs.lemmas.List.{append-nil, map-append}
use Rattle.std.proofs.lemmas.Grind.{flat_map-append}
use Rattle.mds_text.specs.Tree.{Json, items_of}
use Rattle.mds_text.specs.Printed.{printed, printed_items}
use Rattle.mds_match.specs.Row.{Row}
use Rattle.mds_machine.specs.Bodies.{vehicle_json, vehicles_json}
use Rattle.mds_world.proofs.Joined.{joined}

-- texts after commas, and one more
pub one_more : {X : Type 0} (f : X → List ℕ) (old before between after : List ℕ) (xs ys : List X) (x : X) → before ≡ old ++ flat_map (λ t. 44 ∷ t) (map f xs)
    → between ≡ before ++ (44 ∷ []) → after ≡ between ++ f x → ys ≡ xs ++ (x ∷ []) → after ≡ old ++ flat_map (λ t. 44 ∷ t) (map f ys)
one_more f old before between after xs ys x is comma text more =
    let g : List ℕ → List ℕ = λ t. 44 ∷ t in
    text
    ∙ ap (λ bytes. bytes ++ f x) comma
    ∙ append_assoc before (44 ∷ []) (f x)
    ∙ ap (λ bytes. bytes ++ (44 ∷ f x)) is
    ∙ append_assoc old (flat_map g (map f xs)) (44 ∷ f x)
    ∙ ap (λ bytes. old ++ (flat_map g (map f xs) ++ bytes)) (sym (append-nil (44 ∷ f x)))
    ∙ ap (λ bytes. old ++ bytes) (sym (flat_map-append g (map f xs) (f x ∷ [])))
    ∙ ap (λ ts. old ++ flat_map g ts) (sym (map-append f xs (x ∷ [])))
    ∙ ap (λ vs. old ++ flat_map g (map f vs)) (sym more)

texts_are : {X : Type 0} (f : X → Row) (xs : List X) → map (λ v. printed (vehicle_json (f v))) xs ≡ map printed (map vehicle_json (map f xs))
texts_are f [] = refl
texts_are f (x ∷ xs) = ap (λ texts. printed (vehicle_json (f x)) ∷ texts) (texts_are f xs)

closed : (items : List ℕ) → items ++ (93 ∷ 125 ∷ []) ≡ ((items ++ (93 ∷ [])) ++ []) ++ (125 ∷ [])
closed items = sym (append_assoc items (93 ∷ []) (125 ∷ [])) ∙ ap (λ bytes. bytes ++ (125 ∷ [])) (sym (append-nil (items ++ (93 ∷ []))))

-- what is written between the brackets is the printed list
pub vehicles_are : {X : Type 0} (f : X → Row) (xs : List X) (start body whole : List ℕ) → start ≡ codes "{\"vehicles\":["
    → body ≡ start ++ join_with_byte 44 (map (λ v. printed (vehicle_json (f v))) xs) → whole ≡ body ++ (93 ∷ 125 ∷ []) → whole ≡ printed (vehicles_json (map f xs))
vehicles_are f xs start body whole begun between ended =
    let values = map vehicle_json (map f xs) in
    let text = join_with_byte 44 (map (λ v. printed (vehicle_json (f v))) xs) in
    ended
    ∙ ap (λ bytes. bytes ++ (93 ∷ 125 ∷ [])) (between ∙ ap (λ bytes. bytes ++ text) begun)
    ∙ ap (λ bytes. (codes "{\"vehicles\":[" ++ bytes) ++ (93 ∷ 125 ∷ [])) (ap (join_with_byte 44) (texts_are f xs) ∙ joined values)
    ∙ ap (λ bytes. codes "{\"vehicles\":[" ++ bytes) (closed (printed_items false (items_of values)))
