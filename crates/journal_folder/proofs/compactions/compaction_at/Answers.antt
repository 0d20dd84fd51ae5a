use Rattle.std.proofs.Common.{◌≡◌, ◌⊎◌, ℕ, Bool, true, false, List, Option, Some, None, ⊎_elim, refl, sym, ap, ◌∙◌, rules}
use Rattle.std.specs.Prelude.{bytes_eq, codes}
use Rattle.std.proofs.lemmas.Bool.{false≢true}
use Rattle.std.proofs.lemmas.Slice.Eq.{bytes_eq-Decides}
use Rattle.journal_folder.specs.Compactions.{Compaction, is_name, name_text}
use Rattle.journal_folder.proofs.Lines.{IsDash, IsName, line_has_space, line_parts, word_cases}
use Rattle.journal_folder.proofs.compactions.compaction_at.Goals as goal

abbrev made : ℕ → Option (List ℕ) → Compaction
made latest archived = record { latest = latest; archived = archived }

same_compaction : (m n : ℕ) (a b : Option (List ℕ)) → Some m ≡ Some n → a ≡ b → ◌≡◌ {A = Option Compaction} (Some (made m a)) (Some (made n b))
same_compaction m n a b moments names =
    let same : m ≡ n = cc moments in
    ap (λ x. Some (made x a)) same ∙ ap (λ y. Some (made n y)) names

-- a word that is no name, one that is, and one that is neither
is_none : (archived : Option (List ℕ)) (word : List ℕ) → IsDash archived ⊎ IsName archived → name_text archived ≡ word → word ≡ codes "-"
    → None ≡ archived
is_none archived word cases is dash = ⊎_elim
    (λ (h : IsDash archived). sym h.0)
    (λ (h : IsName archived). let no : false ≡ true = ap is_name (sym (is ∙ dash)) ∙ h.1 in absurd (false≢true no))
    cases

is_some : (archived : Option (List ℕ)) (word : List ℕ) → IsDash archived ⊎ IsName archived → name_text archived ≡ word → is_name word ≡ true
    → Some word ≡ archived
is_some archived word cases is name = ⊎_elim
    (λ (h : IsDash archived). let no : false ≡ true = ap is_name (sym h.1 ∙ is) ∙ name in absurd (false≢true no))
    (λ (h : IsName archived). sym (h.0 ∙ ap Some is))
    cases

is_neither : (archived : Option (List ℕ)) (word : List ℕ) → IsDash archived ⊎ IsName archived → name_text archived ≡ word
    → bytes_eq word (codes "-") ≡ false → is_name word ≡ false → ⊥
is_neither archived word cases is other none = ⊎_elim
    (λ (h : IsDash archived). false≢true (sym other ∙ (bytes_eq-Decides word (codes "-")).1 (sym is ∙ h.1)))
    (λ (h : IsName archived). false≢true (sym none ∙ (ap is_name (sym is) ∙ h.1)))
    cases

pub returns-in_default-clause-found : goal.returns-in_default-clause-found
returns-in_default-clause-found c = λ d is e.
    absurd (line_has_space c.args.line.now d (rw c.in_default.is at c.split_once.ensures.cases) is e)

pub returns-in_default-moment_of-clause-found : goal.returns-in_default-moment_of-clause-found
returns-in_default-moment_of-clause-found c = λ d is e.
    let parts = line_parts c.args.line c.in-Some.digits c.in-Some.word d c.in-Some.ensures.cases is e in
    let found = c.moment_of.ensures d.latest is.0 parts.0 in
    absurd (let no : None ≡ Some d.latest = sym c.in_default-moment_of.is ∙ found in cc)

pub returns-then-eq-clause-found : goal.returns-then-eq-clause-found
returns-then-eq-clause-found c = λ d is e.
    let parts = line_parts c.args.line c.in-Some.digits c.in-Some.word d c.in-Some.ensures.cases is e in
    let dash = (bytes_eq-Decides c.in-Some.word.now (codes "-")).0 (sym c.eq.ensures ∙ c.if-eq.true) in
    same_compaction c.in-Some-moment_of.latest d.latest None d.archived (c.in-Some-moment_of.ensures d.latest is.0 parts.0)
    (is_none d.archived c.in-Some.word.now (word_cases d.archived is.1) parts.1 dash)

pub returns-then-is_name-clause-found : goal.returns-then-is_name-clause-found
returns-then-is_name-clause-found c = λ d is e.
    let parts = line_parts c.args.line c.in-Some.digits c.in-Some.word d c.in-Some.ensures.cases is e in
    let name = ap is_name (sym c.as_bytes.ensures.value) ∙ (sym c.is_name.ensures ∙ c.if-is_name.true) in
    same_compaction c.in-Some-moment_of.latest d.latest (Some c.in-Some.word.now) d.archived (c.in-Some-moment_of.ensures d.latest is.0 parts.0)
    (is_some d.archived c.in-Some.word.now (word_cases d.archived is.1) parts.1 name)

pub returns-else-is_name-clause-found : goal.returns-else-is_name-clause-found
returns-else-is_name-clause-found c = λ d is e.
    let parts = line_parts c.args.line c.in-Some.digits c.in-Some.word d c.in-Some.ensures.cases is e in
    let none = ap is_name (sym c.as_bytes.ensures.value) ∙ (sym c.is_name.ensures ∙ c.if-is_name.false) in
    absurd (is_neither d.archived c.in-Some.word.now (word_cases d.archived is.1) parts.1 (sym c.eq.ensures ∙ c.if-eq.false) none)
