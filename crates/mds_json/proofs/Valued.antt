-- The value of tokens whose numbers are quoted.
use Rattle.std.proofs.Common.{◌≡◌, ℕ, zero, suc, List, [], ◌∷◌, Bool, true, false, cond, length, map, Option, Some, None, option_map, option_and_then, refl, sym, ap, ◌∙◌, subst}
use Rattle.std.specs.Prelude.{⊤}
use Rattle.json.specs.Token.{Token, begin_object, end_object, begin_array, end_array, key, string, number, boolean, null, bad}
use Rattle.json.specs.Json.{Json, Items, no_items, item, Members, no_members, member, array, object, Parse, parse_map, after_end_array, read_key, items_step, members_step, items, members, value_with, value, if_last}
use Rattle.json.specs.Json as json
use Rattle.json.specs.Lex.{tokens}
use Rattle.mds_text.specs.Quoting.{is_quoted, quoted_count, quoted_text}
use Rattle.serde_json.specs.Read.{of_json, max_depth, read}
use Rattle.mds_json.proofs.Turning.{turned, turned_value, turned_items, turned_members, no_bad}
use Rattle.std.proofs.Common.{IsUtf8}
use Rattle.std.proofs.lemmas.Str.{is_utf8-from_IsUtf8}
use Rattle.mds_text.specs.Fault.{bad_json}
use Rattle.std.specs.Prelude.{Err}
use Rattle.mds_text.specs.Reading.{json_of_read, read_text}
use Rattle.mds_json.proofs.Lexed.{tokens-quoted, utf8-quoted, counted-quoted}
use Rattle.mds_json.specs.Direct.{quoted_in}

abbrev moved : {A B : Type 0} → (A → B) → Option (A × List Token) → Option (B × List Token)
moved f None = None
moved f (Some p) = Some (f p.0, map turned p.1)

either : {A : Type 0} (f : Token → A) (a : A) (s : List ℕ) (b : Bool) → f (string s) ≡ a → f (number s) ≡ a → f (cond b (string s) (number s)) ≡ a
either f a s true e g = e
either f a s false e g = g

moved-parse_map : {A B C D : Type 0} (f : A → B) (g : C → D) (h : A → C) (k : B → D) → ((a : A) → g (h a) ≡ k (f a)) → (o : Option (A × List Token)) → moved g (parse_map h o) ≡ parse_map k (moved f o)
moved-parse_map f g h k e None = refl
moved-parse_map f g h k e (Some p) = ap (λ d. Some (d, map turned p.1)) (e p.0)

end-turned : (ts : List Token) → after_end_array (map turned ts) ≡ option_map (map turned) (after_end_array ts)
end-turned [] = refl
end-turned (begin_object ∷ ts) = refl
end-turned (end_object ∷ ts) = refl
end-turned (begin_array ∷ ts) = refl
end-turned (end_array ∷ ts) = refl
end-turned (key s ∷ ts) = refl
end-turned (string s ∷ ts) = refl
end-turned (number s ∷ ts) = either (λ t. after_end_array (t ∷ map turned ts)) None s (is_quoted s) refl refl
end-turned (boolean b ∷ ts) = refl
end-turned (null ∷ ts) = refl
end-turned (bad ∷ ts) = refl

key-turned : (ts : List Token) → read_key (map turned ts) ≡ moved (λ k. k) (read_key ts)
key-turned [] = refl
key-turned (begin_object ∷ ts) = refl
key-turned (end_object ∷ ts) = refl
key-turned (begin_array ∷ ts) = refl
key-turned (end_array ∷ ts) = refl
key-turned (key s ∷ ts) = refl
key-turned (string s ∷ ts) = refl
key-turned (number s ∷ ts) = either (λ t. read_key (t ∷ map turned ts)) None s (is_quoted s) refl refl
key-turned (boolean b ∷ ts) = refl
key-turned (null ∷ ts) = refl
key-turned (bad ∷ ts) = refl

abbrev Moves : {A : Type 0} → (A → A) → Parse A → Type 0
Moves f p = (ts : List Token) → p (map turned ts) ≡ moved f (p ts)

and_then : {B : Type 0} (g : B → B) (f : Json → B → B) → ((j : Json) (b : B) → g (f j b) ≡ f (turned_value j) (g b)) → (more : Parse B) → Moves g more → (o : Option (Json × List Token))
    → option_and_then (λ q. parse_map (f q.0) (more q.1)) (moved turned_value o) ≡ moved g (option_and_then (λ q. parse_map (f q.0) (more q.1)) o)
and_then g f e more again None = refl
and_then g f e more again (Some q) = ap (parse_map (f (turned_value q.0))) (again q.1) ∙ sym (moved-parse_map g g (f q.0) (f (turned_value q.0)) (e q.0) (more q.1))

module _ (p : Parse Json) (moves : Moves turned_value p) where
  items_turn : (more : Parse Items) → Moves turned_items more → (ts : List Token) (o : Option (List Token)) → items_step p more (map turned ts) (option_map (map turned) o) ≡ moved turned_items (items_step p more ts o)
  items_turn more again ts (Some r) = refl
  items_turn more again ts None = ap (option_and_then (λ q. parse_map (item q.0) (more q.1))) (moves ts) ∙ and_then turned_items item (λ j b. refl) more again (p ts)

  items-turned : (n : ℕ) → Moves turned_items (items p n)
  unfolding items
  items-turned zero ts = refl
  items-turned (suc n) ts = ap (items_step p (items p n) (map turned ts)) (end-turned ts) ∙ items_turn (items p n) (items-turned n) ts (after_end_array ts)

  members_turn : (more : Parse Members) → Moves turned_members more → (o : Option (Option (List ℕ) × List Token))
      → option_and_then (λ q. members_step p more q.0 q.1) (moved (λ k. k) o) ≡ moved turned_members (option_and_then (λ q. members_step p more q.0 q.1) o)
  members_turn more again None = refl
  members_turn more again (Some (None, r)) = refl
  members_turn more again (Some (Some k, r)) = ap (option_and_then (λ q. parse_map (member k q.0) (more q.1))) (moves r) ∙ and_then turned_members (member k) (λ j b. refl) more again (p r)

  members-turned : (n : ℕ) → Moves turned_members (members p n)
  unfolding members
  members-turned zero ts = refl
  members-turned (suc n) ts = ap (option_and_then (λ q. members_step p (members p n) q.0 q.1)) (key-turned ts) ∙ members_turn (members p n) (members-turned n) (read_key ts)

with-turned : (a : Parse Items) (o : Parse Members) → Moves turned_items a → Moves turned_members o → Moves turned_value (value_with a o)
with-turned a o f g [] = refl
with-turned a o f g (begin_object ∷ ts) = ap (parse_map object) (g ts) ∙ sym (moved-parse_map turned_members turned_value object object (λ m. refl) (o ts))
with-turned a o f g (end_object ∷ ts) = refl
with-turned a o f g (begin_array ∷ ts) = ap (parse_map array) (f ts) ∙ sym (moved-parse_map turned_items turned_value array array (λ m. refl) (a ts))
with-turned a o f g (end_array ∷ ts) = refl
with-turned a o f g (key s ∷ ts) = refl
with-turned a o f g (string s ∷ ts) = refl
with-turned a o f g (number s ∷ ts) = go (is_quoted s)
  where
    go : (b : Bool) → value_with a o (cond b (string s) (number s) ∷ map turned ts) ≡ Some (cond b (json.string s) (json.number s), map turned ts)
    go true = refl
    go false = refl
with-turned a o f g (boolean b ∷ ts) = refl
with-turned a o f g (null ∷ ts) = refl
with-turned a o f g (bad ∷ ts) = refl

same_length : (ts : List Token) → length (map turned ts) ≡ length ts
same_length [] = refl
same_length (t ∷ ts) = ap suc (same_length ts)

value-turned : (d : ℕ) → Moves turned_value (value d)
unfolding value
value-turned zero = with-turned (λ ts. None) (λ ts. None) (λ ts. refl) (λ ts. refl)
value-turned (suc d) =
    with-turned (λ ts. items (value d) (length ts) ts) (λ ts. members (value d) (length ts) ts)
    (λ ts. ap (λ n. items (value d) n (map turned ts)) (same_length ts) ∙ items-turned (value d) (value-turned d) (length ts) ts)
    (λ ts. ap (λ n. members (value d) n (map turned ts)) (same_length ts) ∙ members-turned (value d) (value-turned d) (length ts) ts)

-- ---- what was read has no fault

abbrev Good : {A : Type 0} → Option (A × List Token) → List Token → Type 0
Good None ts = ⊤
Good (Some p) ts = no_bad p.1 ≡ true → no_bad ts ≡ true

abbrev Reads : {A : Type 0} → Parse A → Type 0
Reads p = (ts : List Token) → Good (p ts) ts

good_map : {A B : Type 0} (f : A → B) (o : Option (A × List Token)) (ts us : List Token) → (no_bad ts ≡ true → no_bad us ≡ true) → Good o ts → Good (parse_map f o) us
good_map f None ts us k h = tt
good_map f (Some p) ts us k h = λ e. k (h e)

good_more : {B : Type 0} (f : Json → B → B) (more : Parse B) → Reads more → (o : Option (Json × List Token)) (ts : List Token) → Good o ts → Good (option_and_then (λ q. parse_map (f q.0) (more q.1)) o) ts
good_more f more again None ts h = tt
good_more f more again (Some q) ts h = go (more q.1) (again q.1)
  where
    go : (o : Option _) → Good o q.1 → Good (parse_map (f q.0) o) ts
    go None g = tt
    go (Some r) g = λ e. h (g e)

abbrev Closing : Option (List Token) → List Token → Type 0
Closing None ts = ⊤
Closing (Some r) ts = no_bad r ≡ true → no_bad ts ≡ true

closing : (ts : List Token) → Closing (after_end_array ts) ts
closing [] = tt
closing (begin_object ∷ ts) = tt
closing (end_object ∷ ts) = tt
closing (begin_array ∷ ts) = tt
closing (end_array ∷ ts) = λ e. e
closing (key s ∷ ts) = tt
closing (string s ∷ ts) = tt
closing (number s ∷ ts) = tt
closing (boolean b ∷ ts) = tt
closing (null ∷ ts) = tt
closing (bad ∷ ts) = tt

naming : Reads read_key
naming [] = tt
naming (begin_object ∷ ts) = tt
naming (end_object ∷ ts) = λ e. e
naming (begin_array ∷ ts) = tt
naming (end_array ∷ ts) = tt
naming (key s ∷ ts) = λ e. e
naming (string s ∷ ts) = tt
naming (number s ∷ ts) = tt
naming (boolean b ∷ ts) = tt
naming (null ∷ ts) = tt
naming (bad ∷ ts) = tt

module _ (p : Parse Json) (reads : Reads p) where
  good_items_turn : (more : Parse Items) → Reads more → (ts : List Token) (o : Option (List Token)) → Closing o ts → Good (items_step p more ts o) ts
  good_items_turn more again ts (Some r) h = h
  good_items_turn more again ts None h = good_more item more again (p ts) ts (reads ts)

  good_items : (n : ℕ) → Reads (items p n)
  unfolding items
  good_items zero ts = tt
  good_items (suc n) ts = good_items_turn (items p n) (good_items n) ts (after_end_array ts) (closing ts)

  good_members_turn : (more : Parse Members) → Reads more → (ts : List Token) (o : Option (Option (List ℕ) × List Token)) → Good o ts → Good (option_and_then (λ q. members_step p more q.0 q.1) o) ts
  good_members_turn more again ts None h = tt
  good_members_turn more again ts (Some (None, r)) h = h
  good_members_turn more again ts (Some (Some k, r)) h = lift (p r) (reads r)
    where
      lift : (o : Option (Json × List Token)) → Good o r → Good (option_and_then (λ q. parse_map (member k q.0) (more q.1)) o) ts
      lift None g = tt
      lift (Some q) g = good_more (member k) more again (Some q) ts (λ e. h (g e))

  good_members : (n : ℕ) → Reads (members p n)
  unfolding members
  good_members zero ts = tt
  good_members (suc n) ts = good_members_turn (members p n) (good_members n) ts (read_key ts) (naming ts)

good_with : (a : Parse Items) (o : Parse Members) → Reads a → Reads o → Reads (value_with a o)
good_with a o f g [] = tt
good_with a o f g (begin_object ∷ ts) = good_map object (o ts) ts (begin_object ∷ ts) (λ e. e) (g ts)
good_with a o f g (end_object ∷ ts) = tt
good_with a o f g (begin_array ∷ ts) = good_map array (a ts) ts (begin_array ∷ ts) (λ e. e) (f ts)
good_with a o f g (end_array ∷ ts) = tt
good_with a o f g (key s ∷ ts) = tt
good_with a o f g (string s ∷ ts) = λ e. e
good_with a o f g (number s ∷ ts) = λ e. e
good_with a o f g (boolean b ∷ ts) = λ e. e
good_with a o f g (null ∷ ts) = λ e. e
good_with a o f g (bad ∷ ts) = tt

good_value : (d : ℕ) → Reads (value d)
unfolding value
good_value zero = good_with (λ ts. None) (λ ts. None) (λ ts. tt) (λ ts. tt)
good_value (suc d) =
    good_with (λ ts. items (value d) (length ts) ts) (λ ts. members (value d) (length ts) ts)
    (λ ts. good_items (value d) (good_value d) (length ts) ts) (λ ts. good_members (value d) (good_value d) (length ts) ts)

-- ---- the whole text

good_text : (text : List ℕ) (j : Json) → value max_depth (tokens text) ≡ Some (j, []) → no_bad (tokens text) ≡ true
good_text text j e = subst (λ o. Good o (tokens text)) e (good_value max_depth (tokens text)) refl

pub count-is : (text : List ℕ) (j : Json) → value max_depth (tokens text) ≡ Some (j, []) → quoted_count text ≡ quoted_in (tokens text)
count-is text j e = counted-quoted text (good_text text j e)

pub read-quoted : (text : List ℕ) (j : Json) → value max_depth (tokens text) ≡ Some (j, []) → read (quoted_text text) ≡ of_json (turned_value j)
read-quoted text j e =
    let good = good_text text j e in
    let all = ap (value max_depth) (tokens-quoted text good) ∙ value-turned max_depth (tokens text) ∙ ap (moved turned_value) e in
    ap (λ o. option_and_then of_json (option_and_then (λ p. if_last p.0 p.1) o)) all

pub read_text-is : (text : List ℕ) (j : Json) → IsUtf8 text → value max_depth (tokens text) ≡ Some (j, []) → read_text text ≡ json_of_read (of_json (turned_value j))
read_text-is text j u e =
    let good = good_text text j e in
    let valid = is_utf8-from_IsUtf8 (quoted_text text) (utf8-quoted text good u) in
    ap (λ b. cond b (json_of_read (read (quoted_text text))) (Err bad_json)) valid ∙ ap json_of_read (read-quoted text j e)
