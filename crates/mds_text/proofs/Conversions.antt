-- Converting the values of a list or an object one after another.
use Rattle.std.proofs.Common.{◌≡◌, ℕ, List, [], ◌∷◌, ◌++◌, Option, Some, None, Result, Ok, Err, refl, sym, ap, ◌∙◌}
use Rattle.serde_json.specs.Data as source
use Rattle.mds_text.specs.Fault.{Fault, Refuses, ◌>>=◌}
use Rattle.mds_text.specs.Reading.{json_of, items_from, members_from}
use Rattle.mds_text.specs.Tree.{Json, Items, no_items, item, items_of, Members, no_members, member, members_of}

-- these entries, then those of `rest`
abbrev pub items_behind : List Json → Items → Items
items_behind [] rest = rest
items_behind (t ∷ ts) rest = item t (items_behind ts rest)

abbrev pub members_behind : List (List ℕ × Json) → Members → Members
members_behind [] rest = rest
members_behind (m ∷ ms) rest = member m.0 m.1 (members_behind ms rest)

-- what was read, with these entries before it
abbrev pub items_with : List Json → Result Items Fault → Result Items Fault
items_with front found = found >>= λ rest. Ok (items_behind front rest)

abbrev pub members_with : List (List ℕ × Json) → Result Members Fault → Result Members Fault
members_with front found = found >>= λ rest. Ok (members_behind front rest)

items_behind-push : (done : List Json) (t : Json) (rest : Items) → items_behind (done ++ t ∷ []) rest ≡ items_behind done (item t rest)
items_behind-push [] t rest = refl
items_behind-push (d ∷ done) t rest = ap (item d) (items_behind-push done t rest)

members_behind-push : (done : List (List ℕ × Json)) (name : List ℕ) (t : Json) (rest : Members) → members_behind (done ++ (name, t) ∷ []) rest ≡ members_behind done (member name t rest)
members_behind-push [] name t rest = refl
members_behind-push (m ∷ done) name t rest = ap (member m.0 m.1) (members_behind-push done name t rest)

pub items_behind-all : (done : List Json) → items_behind done no_items ≡ items_of done
items_behind-all [] = refl
items_behind-all (t ∷ ts) = ap (item t) (items_behind-all ts)

pub members_behind-all : (done : List (List ℕ × Json)) → members_behind done no_members ≡ members_of done
members_behind-all [] = refl
members_behind-all (m ∷ ms) = ap (member m.0 m.1) (members_behind-all ms)

pub items_with-none : (found : Result Items Fault) → items_with [] found ≡ found
items_with-none (Ok ts) = refl
items_with-none (Err fault) = refl

pub members_with-none : (found : Result Members Fault) → members_with [] found ≡ found
members_with-none (Ok ts) = refl
members_with-none (Err fault) = refl

items_push : (done : List Json) (t : Json) (found : Result Items Fault) → items_with (done ++ t ∷ []) found ≡ items_with done (found >>= λ ts. Ok (item t ts))
items_push done t (Ok ts) = ap Ok (items_behind-push done t ts)
items_push done t (Err fault) = refl

members_push : (done : List (List ℕ × Json)) (name : List ℕ) (t : Json) (found : Result Members Fault) → members_with (done ++ (name, t) ∷ []) found ≡ members_with done (found >>= λ ts. Ok (member name t ts))
members_push done name t (Ok ts) = ap Ok (members_behind-push done name t ts)
members_push done name t (Err fault) = refl

-- a converted value goes after those before it
pub items_with-push : (done : List Json) (d : source.Data) (ds : source.Items) (t : Json) → json_of d ≡ Ok t → items_with (done ++ t ∷ []) (items_from ds) ≡ items_with done (items_from (source.item d ds))
items_with-push done d ds t is = items_push done t (items_from ds) ∙ ap (λ r. items_with done (r >>= λ u. items_from ds >>= λ ts. Ok (item u ts))) (sym is)

pub members_with-push : (done : List (List ℕ × Json)) (name : List ℕ) (d : source.Data) (ds : source.Members) (t : Json) → json_of d ≡ Ok t
    → members_with (done ++ (name, t) ∷ []) (members_from ds) ≡ members_with done (members_from (source.member name d ds))
members_with-push done name d ds t is = members_push done name t (members_from ds) ∙ ap (λ r. members_with done (r >>= λ u. members_from ds >>= λ ts. Ok (member name u ts))) (sym is)

-- a refusal of a part is a refusal of the whole
pub items_with-refused : (cause : Option Fault) (done : List Json) (d : source.Data) (ds : source.Items) → Refuses cause (json_of d) → Refuses cause (items_with done (items_from (source.item d ds)))
items_with-refused None done d ds h = tt
items_with-refused (Some fault) done d ds h = ap (λ r. items_with done (r >>= λ u. items_from ds >>= λ ts. Ok (item u ts))) h

pub members_with-refused : (cause : Option Fault) (done : List (List ℕ × Json)) (name : List ℕ) (d : source.Data) (ds : source.Members) → Refuses cause (json_of d)
    → Refuses cause (members_with done (members_from (source.member name d ds)))
members_with-refused None done name d ds h = tt
members_with-refused (Some fault) done name d ds h = ap (λ r. members_with done (r >>= λ u. members_from ds >>= λ ts. Ok (member name u ts))) h
