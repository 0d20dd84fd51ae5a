use Rattle.std.proofs.Common.{◌≡◌, ℕ, List, Option, Some, None, position, is_some, ap, sym, ◌∙◌, arith}
use Rattle.mds_drafts.specs.Drafts.{is_of, kind_of, id_of, count_of}
use Rattle.mds_drafts.specs.Entries.{drafts_in, document_of}
use Rattle.mds_drafts.specs.declared.draft.Draft.{Draft}
use Rattle.mds_text.specs.declared.draft_kind.DraftKind.{DraftKind}
use Rattle.mds_drafts.proofs.Held.{is_held, held_at, none_at_position, answer_replaced, answer_full, answer_new}
use Rattle.mds_drafts.proofs.drafts.Drafts.put.Goals as goal

-- the index of a key, by equal names of it
same_place : (items : List Draft) (kind kind' : DraftKind) (id id' : List ℕ) (o : Option ℕ) → kind ≡ kind' → id ≡ id' → o ≡ position (λ d. is_of (document_of d) kind id) items → position (λ d. is_of (document_of d) kind' id') items ≡ o
same_place items kind kind' id id' o e f h = sym (h ∙ ap (λ k. position (λ d. is_of (document_of d) k id) items) e ∙ ap (λ i. position (λ d. is_of (document_of d) kind' i) items) f)

pub returns-in-Some-clause-answer : goal.returns-in-Some-clause-answer
returns-in-Some-clause-answer c =
    let items = c.args.self.now.items.items in
    let doc = document_of c.args.draft in
    let at = same_place items c.kind-kind.result (kind_of doc) c.id.result (id_of doc) (Some c.in-Some.place) c.kind-kind.ensures c.id.ensures c.in-Some.ensures in
    answer_replaced (drafts_in items) doc (held_at items c.in-Some.place (kind_of doc) (id_of doc) at)

pub returns-then-count-ge-MOST_DRAFTS-clause-answer : goal.returns-then-count-ge-MOST_DRAFTS-clause-answer
returns-then-count-ge-MOST_DRAFTS-clause-answer c =
    let items = c.args.self.now.items.items in
    let doc = document_of c.args.draft in
    let at = same_place items c.kind-kind.result (kind_of doc) c.id.result (id_of doc) None c.kind-kind.ensures c.id.ensures c.in_default.ensures in
    let count = c.count.ensures ∙ ap (count_of (drafts_in items)) c.kind-kind.ensures in
    answer_full (drafts_in items) doc (ap is_some (none_at_position items (kind_of doc) (id_of doc) at)) (omega (arith, count))

pub returns-in-Ok-clause-answer : goal.returns-in-Ok-clause-answer
returns-in-Ok-clause-answer c =
    let items = c.args.self.now.items.items in
    let doc = document_of c.args.draft in
    let at = same_place items c.kind-kind.result (kind_of doc) c.id.result (id_of doc) None c.kind-kind.ensures c.id.ensures c.in_default.ensures in
    let count = c.count.ensures ∙ ap (count_of (drafts_in items)) c.kind-kind.ensures in
    answer_new (drafts_in items) doc (ap is_some (none_at_position items (kind_of doc) (id_of doc) at)) (omega (arith, count))

pub returns-in-Err-clause-answer : goal.returns-in-Err-clause-answer
returns-in-Err-clause-answer c =
    let items = c.args.self.now.items.items in
    let doc = document_of c.args.draft in
    let at = same_place items c.kind-kind.result (kind_of doc) c.id.result (id_of doc) None c.kind-kind.ensures c.id.ensures c.in_default.ensures in
    let count = c.count.ensures ∙ ap (count_of (drafts_in items)) c.kind-kind.ensures in
    answer_new (drafts_in items) doc (ap is_some (none_at_position items (kind_of doc) (id_of doc) at)) (omega (arith, count))
