-- The payloads behind a journal's head, and its entries.
use Rattle.std.proofs.Common.{◌≡◌, List, [], ◌∷◌, map, drop, refl, sym, ap, ◌∙◌}

pub map_map : {A B C : Type 0} (f : A → B) (g : B → C) (xs : List A) → map g (map f xs) ≡ map (λ x. g (f x)) xs
map_map f g [] = refl
map_map f g (x ∷ xs) = ap (λ rest. g (f x) ∷ rest) (map_map f g xs)

-- those behind the first are the payloads of the entries that were read from them
pub behind_first : {V E A B : Type 0} (items : V → B) (of : E → A) (text : A → B) (texts : List V) (first : V) (rest : List V) (entries : List E)
    → texts ≡ first ∷ rest → map (λ e. text (of e)) entries ≡ map items rest
    → drop 1 (map items texts) ≡ map text (map of entries)
behind_first items of text texts first rest entries parts are =
    ap (λ ts. drop 1 (map items ts)) parts ∙ (sym are ∙ sym (map_map of text entries))
