-- Joined texts are the printed text of the joined value.
use Rattle.std.proofs.Common.{◌≡◌, ℕ, ◌≤◌, List, [], ◌∷◌, ◌++◌, map, length, codes, true, false, cond, Option, Some, None, option_map, Result, Ok, Err, refl, ap, sym, ◌∙◌, append_assoc}
use Rattle.std.specs.Fmt.{decimal}
use Rattle.std.specs.List.{flat_map, join_with_byte}
use Rattle.std.proofs.lemmas.List.{append-nil}
use Rattle.std.proofs.lemmas.List.Elements.{All-from_recursion}
use Rattle.mds_text.specs.Tree.{Json, items_of}
use Rattle.mds_text.specs.Printed.{escaped, printed, printed_items, quoted}
use Rattle.mds_policy.specs.Policy.{Policy}
use Rattle.mds_geography.specs.Geography.{Geography}
use Rattle.mds_catalog.specs.Catalogue.{served_policy, served_geography}
use Rattle.mds_catalog.specs.Publication.{Publication, Published, find_policy, find_geography}
use Rattle.mds_catalog.specs.Texts.{policy_text, geography_text}
use Rattle.mds_text.proofs.Lines.{IsLine-printed}
use Rattle.mds_request.specs.Reply.{Reply, is_line}
use Rattle.mds_request.specs.declared.code.Code.{Code}
use Rattle.mds_request.specs.declared.code.Code.TheVariants.{NotFound}
use Rattle.mds_machine.specs.Answer.{told, or_code, if_it, ◌>>=◌}
use Rattle.mds_machine.specs.Bodies.{list_json, revised_json}
use Rattle.mds_machine.specs.Published.{policy_json, geography_json, is_shown, policy_answer, geography_answer}
use Rattle.mds_world.specs.Texts.{list_text, revised_text}
use Rattle.mds_world.proofs.OneLine.{one_line}

-- a printed value, and others after it
behind : (v : Json) (vs : List Json) → join_with_byte 44 (map printed (v ∷ vs)) ≡ printed v ++ printed_items true (items_of vs)
behind v [] = sym (append-nil (printed v))
behind v (w ∷ vs) = ap (λ rest. printed v ++ 44 ∷ rest) (behind w vs)

pub joined : (vs : List Json) → join_with_byte 44 (map printed vs) ≡ printed_items false (items_of vs)
joined [] = refl
joined (v ∷ vs) = behind v vs

-- the printed texts of values, as a list
pub list_is : (texts : List (List ℕ)) (vs : List Json) → texts ≡ map printed vs → list_text texts ≡ printed (list_json vs)
list_is texts vs are = ap list_text are ∙ ap (λ items. 91 ∷ items ++ 93 ∷ []) (joined vs)

regrouped : (q v r d e : List ℕ) → ((((q ++ (58 ∷ v)) ++ r) ++ (58 ∷ d)) ++ e) ≡ ((((q ++ (58 ∷ [])) ++ v) ++ (r ++ (58 ∷ (d ++ [])))) ++ e)
regrouped q v r d e =
    let front = (q ++ (58 ∷ [])) ++ v in
    ap (λ bytes. bytes ++ e) (ap (λ bytes. (bytes ++ r) ++ (58 ∷ d)) (sym (append_assoc q (58 ∷ []) v)) ∙ append_assoc front r (58 ∷ d) ∙ ap (λ digits. front ++ (r ++ (58 ∷ digits))) (sym (append-nil d)))

-- a printed value, under its name and with the number of publications
revised_is : (name text : List ℕ) (value : Json) (n : ℕ) → text ≡ printed value → revised_text name text n ≡ printed (revised_json name value n)
revised_is name text value n is =
    ap (λ t. revised_text name t n) is ∙ ap {B = List ℕ} (λ bytes. 123 ∷ 34 ∷ bytes) (regrouped (flat_map escaped name ++ (34 ∷ [])) (printed value) (44 ∷ quoted (codes "revision")) (decimal n) (125 ∷ []))

-- what is printed is one line
pub line_is : (bytes : List ℕ) (value : Json) → bytes ≡ printed value → is_line bytes ≡ true
line_is bytes value is = ap is_line is ∙ one_line (printed value) (All-from_recursion (λ b. 32 ≤ b) (printed value) (IsLine-printed value))

-- the body is that of the reply
pub body_is : (name text body : List ℕ) (value : Json) (n m : ℕ) → body ≡ revised_text name text n → text ≡ printed value → n ≡ m → body ≡ printed (revised_json name value m)
body_is name text body value n m made is same = made ∙ revised_is name text value n is ∙ ap (λ k. printed (revised_json name value k)) same

-- the borrowed texts are the printed documents
pub policies_printed : (ps : List (Published Policy)) → map served_policy ps ≡ map printed (map policy_json ps)
unfolding policy_text
policies_printed [] = refl
policies_printed (p ∷ ps) = ap (λ texts. printed (policy_json p) ∷ texts) (policies_printed ps)

pub geographies_printed : (gs : List (Published Geography)) → map served_geography gs ≡ map printed (map geography_json gs)
unfolding geography_text
geographies_printed [] = refl
geographies_printed (g ∷ gs) = ap (λ texts. printed (geography_json g) ∷ texts) (geographies_printed gs)

policy_printed : (p : Published Policy) → served_policy p ≡ printed (policy_json p)
unfolding policy_text
policy_printed p = refl

geography_printed : (g : Published Geography) → served_geography g ≡ printed (geography_json g)
unfolding geography_text
geography_printed g = refl

-- the body of a reply, where all but the value's text is known
pub record IsBody (name body : List ℕ) (value : Json) (n : ℕ) : Type 0 where
  pub is : body ≡ printed (revised_json name value n)
  pub line : is_line body ≡ true

pub told_body : (name text body : List ℕ) (value : Json) (n m : ℕ) → body ≡ revised_text name text n → text ≡ printed value → n ≡ m → IsBody name body value m
told_body name text body value n m made is same =
    let whole = body_is name text body value n m made is same in
    record { is = whole; line = line_is body (revised_json name value m) whole }

some_same : {A : Type 0} {x y : A} → Some x ≡ Some y → x ≡ y
some_same e = cc

-- the text of one policy is the printed policy
pub policy_text_is : (publications : List Publication) (id text : List ℕ) (found : Published Policy) → Some found ≡ find_policy publications id → Some text ≡ option_map served_policy (find_policy publications id) → text ≡ printed (policy_json found)
policy_text_is publications id text found is lent =
    some_same (lent ∙ ap (option_map served_policy) (sym is)) ∙ policy_printed found

-- one policy that is visible to the reader
pub policy_answered : (publications : List Publication) (reader : Option (List ℕ)) (id : List ℕ) (found : Published Policy) (reply : Reply) → Some found ≡ find_policy publications id → is_shown reader found ≡ true → reply ≡ told (revised_json (codes "policy") (policy_json found) (length publications)) → policy_answer publications reader id ≡ Ok reply
policy_answered publications reader id found reply is shown made =
    let answer : Published Policy → Result Reply Code = λ p. Ok (told (revised_json (codes "policy") (policy_json p) (length publications))) in
    ap (λ o. or_code NotFound o >>= λ p. if_it NotFound (is_shown reader) p >>= answer) (sym is)
    ∙ ap (λ b. cond b (Ok found) (Err NotFound) >>= answer) shown ∙ ap Ok (sym made)

-- one geography, by its text
pub geography_found : (publications : List Publication) (id text : List ℕ) → Some text ≡ option_map served_geography (find_geography publications id) → (g : Published Geography) × (find_geography publications id ≡ Some g) × (text ≡ printed (geography_json g))
geography_found publications id text lent =
    elim (find_geography publications id) as (λ o. find_geography publications id ≡ o → Some text ≡ option_map served_geography o → (g : Published Geography) × (find_geography publications id ≡ Some g) × (text ≡ printed (geography_json g))) [
      | Some g ↦ λ is e. (g, is, some_same e ∙ geography_printed g)
      | None ↦ λ is e. absurd (cc)
    ] refl lent

pub geography_answered : (publications : List Publication) (id : List ℕ) (found : Published Geography) (reply : Reply) → find_geography publications id ≡ Some found → reply ≡ told (revised_json (codes "geography") (geography_json found) (length publications)) → geography_answer publications id ≡ Ok reply
geography_answered publications id found reply is made =
    let answer : Published Geography → Result Reply Code = λ g. Ok (told (revised_json (codes "geography") (geography_json g) (length publications))) in
    ap (λ o. or_code NotFound o >>= answer) is ∙ ap Ok (sym made)

-- no geography
pub no_geography : (publications : List Publication) (id : List ℕ) → None ≡ option_map served_geography (find_geography publications id) → geography_answer publications id ≡ Err NotFound
no_geography publications id lent =
    elim (find_geography publications id) as (λ o. find_geography publications id ≡ o → None ≡ option_map served_geography o → geography_answer publications id ≡ Err NotFound) [
      | Some g ↦ λ is e. absurd (cc)
      | None ↦ λ is e. ap (λ o. or_code NotFound o >>= λ (g : Published Geography). Ok (told (revised_json (codes "geography") (geography_json g) (length publications)))) is
    ] refl lent

-- texts after commas, after the first text
pub joined_bytes : (x : List ℕ) (xs : List (List ℕ)) → join_with_byte 44 (x ∷ xs) ≡ x ++ flat_map (λ t. 44 ∷ t) xs
joined_bytes x [] = sym (append-nil x)
joined_bytes x (y ∷ ys) = ap (λ rest. x ++ 44 ∷ rest) (joined_bytes y ys)
