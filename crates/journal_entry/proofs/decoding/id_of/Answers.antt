use Rattle.std.proofs.Common.{◌≡◌, ℕ, List, sym, ◌∙◌, inl, refl, ap, subst}
use Rattle.std.specs.Str.{IsUtf8}
use Rattle.std.proofs.lemmas.Str.{IsUtf8-from_ascii}
use Rattle.std.proofs.lemmas.Slice.Eq.{bytes_eq-Decides}
use Rattle.uuid.specs.Text.{lower, parsed}
use Rattle.uuid.proofs.TextLemmas.{hyphenated_ascii}
use Rattle.journal_entry.specs.Entries.{id_text}
use Rattle.journal_entry.proofs.decoding.id_of.Goals as goal

pub returns-in_default-clause-malformed : goal.returns-in_default-clause-malformed
unfolding id_text
returns-in_default-clause-malformed c of id is e =
    c.in_default.ensures.cases.0 (subst IsUtf8 (sym e) (IsUtf8-from_ascii (id_text id) (hyphenated_ascii lower id (inl refl))))

pub returns-then-eq-clause-read : goal.returns-then-eq-clause-read
unfolding id_text
returns-then-eq-clause-read c =
    let same : c.as_bytes.result.now ≡ c.args.text.now = (bytes_eq-Decides _ _).0 (sym c.eq.ensures ∙ c.if-eq.true) in
    (sym same ∙ c.as_bytes.ensures.value ∙ c.in_ok-printed.ensures.text, ap parsed (sym c.in_ok-printed.ensures.text) ∙ c.in_ok-printed.ensures.back)
