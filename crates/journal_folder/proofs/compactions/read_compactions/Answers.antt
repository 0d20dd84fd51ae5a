use Rattle.std.proofs.Common.{◌≡◌, ℕ, Bool, true, false, eqb, List, [], ◌∷◌, ◌++◌, map, length, Option, Some, None, refl, sym, ap, subst, ◌∙◌, arith, rules}
use Rattle.std.proofs.lemmas.Bool.{false≢true}
use Rattle.std.proofs.lemmas.Str.Pattern.{split_parts}
use Rattle.journal_folder.specs.Compactions.{Compaction, compaction_of, AreCompactions, IsAdded, IsLine, line_of, text_of}
use Rattle.journal_folder.proofs.Lines.{are-push, next_line, no_line, text_of-more}
use Rattle.journal_folder.proofs.compactions.read_compactions.Goals as goal

added : (is_one : Bool) (line : List ℕ) (before after : List Compaction) → is_one ≡ true → IsAdded line is_one before after
    → (d : Compaction) × IsLine line (Some d) × (after ≡ before ++ d ∷ [])
added true line before after one is = is
added false line before after one is = absurd (false≢true one)

not_added : (is_one : Bool) (line : List ℕ) (before after : List Compaction) → is_one ≡ false → IsAdded line is_one before after
    → IsLine line None
not_added true line before after none is = absurd (false≢true (sym none))
not_added false line before after none is = is

-- the text with one more line
grown : (before after : List Compaction) (d : Compaction) (line behind rest text : List ℕ) → after ≡ before ++ d ∷ [] → line_of d ≡ line
    → rest ≡ line ++ 10 ∷ behind → text_of before ++ rest ≡ text → text_of after ++ behind ≡ text
grown before after d line behind rest text is own parts front =
    ap (λ cs. text_of cs ++ behind) is
    ∙ (text_of-more before d behind
    ∙ (ap (λ l. text_of before ++ (l ++ 10 ∷ behind)) own ∙ (ap (λ r. text_of before ++ r) (sym parts) ∙ front)))

pub returns-then-not-branch : goal.returns-then-not-branch
returns-then-not-branch c = λ all are is.
    let more = c.loop-line.invariant.1.2 all are is in
    let first = next_line more.0 c.loop-line.rest.now c.in-Some.line c.in-Some.behind c.in-Some.ensures.cases more.1 more.2 in
    not_added c.in_ok-push_line.field-0 c.in-Some.line.now _ _ c.if-not-branch.true c.in_ok-push_line.ensures first.0 first.1 first.2

pub loop-line-preserved : goal.loop-line-preserved
loop-line-preserved c =
    let parts = split_parts 10 c.loop-line.rest.now (Some (c.in-Some.line, c.in-Some.behind)) c.in-Some.ensures.cases (omega arith) in
    let one = added c.in_ok-push_line.field-0 c.in-Some.line.now _ _ c.if-not-branch.false c.in_ok-push_line.ensures in (
      search rules,
      (
        subst AreCompactions (sym one.2) (are-push _ one.0 c.loop-line.invariant.1.0 one.1.0),
        grown _ _ one.0 c.in-Some.line.now c.in-Some.behind.now c.loop-line.rest.now c.args.text.now one.2 one.1.1 parts.0 c.loop-line.invariant.1.1,
        λ all are is.
            let more = c.loop-line.invariant.1.2 all are is in
            let first = next_line more.0 c.loop-line.rest.now c.in-Some.line c.in-Some.behind c.in-Some.ensures.cases more.1 more.2 in
            first.3,
      ),
    )

pub returns : goal.returns
returns c = λ all are is.
    let more = c.loop-line.invariant.1.2 all are is in
    let empty = no_line more.0 c.loop-line.rest.now (rw c.in_default.is at c.split_once.ensures.cases) more.2 in
    let test : c.is_empty.result ≡ eqb (length c.loop-line.rest.now) 0 = c.is_empty.ensures in
    absurd (false≢true (sym c.if-is_empty.false ∙ (test ∙ ap (λ (xs : List ℕ). eqb (length xs) 0) empty)))
