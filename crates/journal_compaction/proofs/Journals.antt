-- The payloads of a journal, and its entries.
use Rattle.std.proofs.Common.{◌≡◌, List, [], ◌∷◌, map, refl, sym, ap, ◌∙◌}

pub map_map : {A B C : Type 0} (f : A → B) (g : B → C) (xs : List A) → map g (map f xs) ≡ map (λ x. g (f x)) xs
map_map f g [] = refl
map_map f g (x ∷ xs) = ap (λ rest. g (f x) ∷ rest) (map_map f g xs)

-- a head's payload, and those of entries
pub head_and_rest : {V E A B : Type 0} (items : V → B) (of : E → A) (text : A → B) (texts : List V) (first : V) (rest : List V) (head : B) (entries : List E)
    → texts ≡ first ∷ rest → head ≡ items first → map (λ e. text (of e)) entries ≡ map items rest
    → map items texts ≡ head ∷ map text (map of entries)
head_and_rest items of text texts first rest head entries parts here are =
    ap (map items) parts ∙ ap (λ h. h ∷ map items rest) (sym here) ∙ ap (λ behind. head ∷ behind) (sym are ∙ sym (map_map of text entries))
