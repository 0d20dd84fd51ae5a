use Rattle.std.proofs.Common.{◌≡◌, ℕ, ◌<◌, true, List, ◌∷◌, ◌++◌, length, ap, sym, ◌∙◌, arith}
use Rattle.journal_entry.specs.Entries.{Entry, IsEntry, IsShort, moment_text, size_text, verb_code, client_text, fields_text}
use Rattle.journal_entry.proofs.Spelled.{same_moment, same_head, same_client, same_fields}
use Rattle.journal_entry.proofs.decoding.entry_in.Goals as goal

pub returns-in_default-clause-malformed : goal.returns-in_default-clause-malformed
returns-in_default-clause-malformed c m entry is e =
    let behind = client_text entry.client ++ (size_text (length entry.target) ++ (entry.target ++ entry.body)) in
    let at = same_moment c.in-Some.found.0 entry.at c.in-Some.found.1.now (verb_code entry.verb ∷ behind) c.in-Some.ensures.1 is.at (sym c.in-Some.ensures.0 ∙ e) in
    c.in_default.ensures entry.verb behind at.1

pub returns-in-Err-clause-malformed : goal.returns-in-Err-clause-malformed
returns-in-Err-clause-malformed c m entry is e =
    let last = size_text (length entry.target) ++ (entry.target ++ entry.body) in
    let behind = client_text entry.client ++ last in
    let at = same_moment c.in-Some.found.0 entry.at c.in-Some.found.1.now (verb_code entry.verb ∷ behind) c.in-Some.ensures.1 is.at (sym c.in-Some.ensures.0 ∙ e) in
    let verb = same_head (verb_code c.in-Some-verb_in.verb) (verb_code entry.verb) c.in-Some-verb_in.fields.now behind (sym c.in-Some-verb_in.ensures ∙ at.1) in
    c.in-Err.ensures.malformed m entry.client last is.client verb.1

pub returns-in_default-target_in-clause-malformed : goal.returns-in_default-target_in-clause-malformed
returns-in_default-target_in-clause-malformed c m entry is e =
    let last = size_text (length entry.target) ++ (entry.target ++ entry.body) in
    let behind = client_text entry.client ++ last in
    let at = same_moment c.in-Some.found.0 entry.at c.in-Some.found.1.now (verb_code entry.verb ∷ behind) c.in-Some.ensures.1 is.at (sym c.in-Some.ensures.0 ∙ e) in
    let verb = same_head (verb_code c.in-Some-verb_in.verb) (verb_code entry.verb) c.in-Some-verb_in.fields.now behind (sym c.in-Some-verb_in.ensures ∙ at.1) in
    let client = same_client c.in-Ok.found.0 entry.client c.in-Ok.found.1.now last c.in-Ok.ensures.read.1 is.client (sym c.in-Ok.ensures.read.0 ∙ verb.1) in
    c.in_default-target_in.ensures entry.target entry.body is.short.target client.1

pub returns-else-is_short-clause-malformed : goal.returns-else-is_short-clause-malformed
returns-else-is_short-clause-malformed c m entry is e =
    let found : Entry = record { client = c.in-Ok.found.0; at = c.in-Some.found.0; verb = c.in-Some-verb_in.verb; target = c.in-Some-target_in.target.now; body = c.in-Some-target_in.body.now } in
    let spelled : fields_text found ≡ fields_text entry =
    sym (c.in-Some.ensures.0 ∙ ap (λ (t : List ℕ). moment_text found.at ++ t) (c.in-Some-verb_in.ensures ∙ ap (λ (t : List ℕ). verb_code found.verb ∷ t) (c.in-Ok.ensures.read.0 ∙ ap (λ (t : List ℕ). client_text found.client ++ t) c.in-Some-target_in.ensures.0))) ∙ e in
    let same = same_fields found entry c.in-Ok.ensures.read.1 c.in-Some.ensures.1 c.in-Some-target_in.ensures.1 is spelled in
    let short : IsShort found = record { target = c.in-Some-target_in.ensures.1; body = rw same.body is.short.body } in
    let yes : c.is_short.result ≡ true = c.is_short.ensures.1 short in
    absurd cc
