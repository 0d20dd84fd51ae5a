-- The machine's drafts and publications after a history.
use Rattle.std.proofs.Common.{◌≡◌, ℕ, Bool, true, false, cond, List, [], ◌∷◌, ◌++◌, reverse, get_or, Option, Some, None, refl, sym, ap, subst, ◌∙◌}
use Rattle.std.specs.Option.{option_to_list, unwrap_or}
use Rattle.std.specs.List.{flat_map, filter_map, cons_option}
use Rattle.std.proofs.lemmas.Grind.{flat_map-append}
use Rattle.std.proofs.lemmas.List.{append-nil, append_assoc, reverse-append}
use Rattle.std.proofs.lemmas.List.Elements.{filter_map-append}
use Rattle.std.proofs.lemmas.Slice.Eq.{bytes_eq-Decides}
use Rattle.mds_drafts.specs.Drafts.{Drafts, Document, policy, geography, draft_at, is_of, id_of}
use Rattle.mds_drafts.specs.Entries.{document_of, drafts_in}
use Rattle.mds_drafts.specs.declared.draft.Draft.{Draft}
use Rattle.mds_text.specs.declared.draft_kind.DraftKind.{DraftKind}
use Rattle.mds_text.specs.declared.draft_kind.DraftKind.TheVariants as kinds
use Rattle.mds_drafts.proofs.Held.{draft_at-cons, draft_at_none}
use Rattle.mds_request.specs.Configuration.{Configuration}
use Rattle.mds_machine.specs.History.{fate_in, draft_after, published_in, preceded, publications_after}
use Rattle.mds_machine.specs.Isolation.{AreKeyed}
use Rattle.mds_machine.specs.Laws.{IsAfter, GoesByHistory, BeginsKeyed}
use Rattle.mds_machine.specs.Step.{State, Exchange, Step, Run}
use Rattle.mds_machine.proofs.Drafting.{made}

-- ---- one more exchange

last_first : (fate : Option (Option Document)) (rest : List (Option Document)) (first : Option Document) → get_or (cons_option fate rest) 0 first ≡ unwrap_or fate (get_or rest 0 first)
last_first None rest first = refl
last_first (Some word) rest first = refl

pub draft_on : (configuration : Configuration) (first : Drafts) (before : List Exchange) (e : Exchange) (kind : DraftKind) (id : List ℕ) → draft_after configuration first (before ++ e ∷ []) kind id ≡ unwrap_or (fate_in configuration kind id e) (draft_after configuration first before kind id)
draft_on configuration first before e kind id =
    let word = fate_in configuration kind id in
    ap (λ history. get_or (filter_map word history) 0 (draft_at first kind id)) (reverse-append before (e ∷ []))
    ∙ last_first (word e) (filter_map word (reverse before)) (draft_at first kind id)

preceded_on : {A : Type 0} (first before : List A) (a : A) → preceded first (before ++ a ∷ []) ≡ preceded first before ++ (first ++ before, a) ∷ []
preceded_on first [] a = ap (λ xs. (xs, a) ∷ []) (sym (append-nil first))
preceded_on first (b ∷ before) a =
    ap (λ xs. (first, b) ∷ xs) (preceded_on (first ++ b ∷ []) before a)
    ∙ ap (λ xs. (first, b) ∷ preceded (first ++ b ∷ []) before ++ (xs, a) ∷ []) (append_assoc first (b ∷ []) before)

pub each_on : {A B : Type 0} (f : List A × A → List B) (before : List A) (a : A) → flat_map f (preceded [] (before ++ a ∷ [])) ≡ flat_map f (preceded [] before) ++ f (before, a)
each_on f before a =
    ap (flat_map f) (preceded_on [] before a) ∙ flat_map-append f (preceded [] before) ((before, a) ∷ [])
    ∙ ap (λ xs. flat_map f (preceded [] before) ++ xs) (append-nil (f (before, a)))

found_one : {A B : Type 0} (f : A → Option B) (a : A) (found : Option B) → f a ≡ found → filter_map f (a ∷ []) ≡ option_to_list found
found_one f a None is = rw is refl
found_one f a (Some b) is = rw is refl

each_found : {A B : Type 0} (f : List A × A → Option B) (before : List A) (a : A) → filter_map f (preceded [] (before ++ a ∷ [])) ≡ filter_map f (preceded [] before) ++ option_to_list (f (before, a))
each_found f before a =
    ap (filter_map f) (preceded_on [] before a) ∙ filter_map-append f (preceded [] before) ((before, a) ∷ [])
    ∙ ap (λ xs. filter_map f (preceded [] before) ++ xs) (found_one f (before, a) (f (before, a)) refl)

-- what holds at first, and is kept by each step, holds after a run
pub along : (So : List Exchange → State → Type 0) → ((before : List Exchange) (w : State) (e : Exchange) (next : State) → So before w → Step w e.request e.reply next → So (before ++ e ∷ []) next) → (before history : List Exchange) (w next : State) → So before w → Run w history next → So (before ++ history) next
along So on before [] w next so run = subst (λ h. So h next) (sym (append-nil before)) (subst (So before) (sym run) so)
along So on before (e ∷ history) w next so run =
    subst (λ h. So h next) (append_assoc before (e ∷ []) history)
    (along So on (before ++ e ∷ []) history run.0 next (on before w e run.0 so run.1) run.2)

-- ---- drafts and publications

-- what an exchange publishes, by the history before it
pub now_published : (first : State) (before : List Exchange) (w : State) (e : Exchange) (next : State) → IsAfter first before w → Step w e.request e.reply next → next.publications ≡ w.publications ++ option_to_list (published_in first.configuration (draft_after first.configuration first.drafts before) e)
now_published first before w e next is step =
    let held : draft_at w.drafts ≡ draft_after first.configuration first.drafts before = λ i kind id. is.drafts kind id i in
    (made w e next is.keyed step).publications
    ∙ ap (λ c. w.publications ++ option_to_list (published_in c (draft_at w.drafts) e)) is.configuration
    ∙ ap (λ h. w.publications ++ option_to_list (published_in first.configuration h e)) held

pub after_one : (first : State) (before : List Exchange) (w : State) (e : Exchange) (next : State) → IsAfter first before w → Step w e.request e.reply next → IsAfter first (before ++ e ∷ []) next
after_one first before w e next is step =
    let one = made w e next is.keyed step in
    let configuration = first.configuration in
    record {
      configuration = one.configuration ∙ is.configuration;
      publications = now_published first before w e next is step
          ∙ ap (λ ps. ps ++ option_to_list (published_in configuration (draft_after configuration first.drafts before) e)) is.publications
          ∙ append_assoc first.publications (publications_after configuration first.drafts before) (option_to_list (published_in configuration (draft_after configuration first.drafts before) e))
          ∙ ap (λ ps. first.publications ++ ps) (sym (each_found (λ e. published_in configuration (draft_after configuration first.drafts e.0) e.1) before e));
      drafts = λ kind id. one.drafts kind id ∙ ap (λ c. unwrap_or (fate_in c kind id e) (draft_at w.drafts kind id)) is.configuration
          ∙ ap (λ d. unwrap_or (fate_in configuration kind id e) d) (is.drafts kind id)
          ∙ sym (draft_on configuration first.drafts before e kind id);
      keyed = one.keyed;
    }

pub after_none : (w : State) → AreKeyed w.drafts → IsAfter w [] w
after_none w own = record { configuration = refl; publications = sym (append-nil w.publications); drafts = λ kind id. refl; keyed = own }

pub goes_by_history : GoesByHistory
goes_by_history w next history own run = along (IsAfter w) (after_one w) [] history w next (after_none w own) run

-- ---- the keys of drafts

own_id : (document : Document) (kind : DraftKind) (id : List ℕ) → is_of document kind id ≡ true → id_of document ≡ id
own_id (policy d) kinds.Policy id is = (bytes_eq-Decides d.id id).0 is
own_id (geography d) kinds.Geography id is = (bytes_eq-Decides d.id id).0 is
own_id (policy d) kinds.Geography id is = absurd (cc)
own_id (geography d) kinds.Policy id is = absurd (cc)

one_of : (b : Bool) (d document : Document) (rest : Option Document) (kind : DraftKind) (id : List ℕ) → is_of d kind id ≡ b → cond b (Some d) rest ≡ Some document → (rest ≡ Some document → id_of document ≡ id) → id_of document ≡ id
one_of true d document rest kind id of is more = let same : d ≡ document = cc in ap id_of (sym same) ∙ own_id d kind id of
one_of false d document rest kind id of is more = more is

pub list_keyed : (items : List Draft) → AreKeyed (drafts_in items)
list_keyed [] kind id document is = absurd (let no : None ≡ Some document = sym (draft_at_none kind id) ∙ is in cc)
list_keyed (d ∷ ds) kind id document is =
    one_of (is_of (document_of d) kind id) (document_of d) document (draft_at (drafts_in ds) kind id) kind id refl
    (sym (draft_at-cons d ds kind id) ∙ is) (list_keyed ds kind id document)

pub begins_keyed : BeginsKeyed
begins_keyed configuration = list_keyed []
