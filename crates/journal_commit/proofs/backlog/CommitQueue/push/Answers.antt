use Rattle.std.proofs.Common.{◌≡◌, ℕ, ◌<◌, ◌∷◌, ◌++◌, [], List, length, map, slice_index_or, refl, ap, ◌∙◌, sym, append_assoc, arith}
use Rattle.std.proofs.lemmas.List.{map-append}
use Rattle.journal_commit.proofs.Owning.{counted_at, counts_more}
use Rattle.journal_commit.proofs.backlog.CommitQueue.push.Goals as goal

-- what was taken and what waits, with one more
waits : {V : Type 0} (items : V → List ℕ) (taken appended all : List (List ℕ)) (texts more : List V) (text : V) → appended ≡ taken ++ map items texts
    → all ≡ appended ++ items text ∷ [] → more ≡ texts ++ text ∷ [] → all ≡ taken ++ map items more
waits items taken appended all texts more text waiting pushed pushes =
    pushed ∙ ap (λ (xs : List (List ℕ)). xs ++ items text ∷ []) waiting ∙ append_assoc taken (map items texts) (items text ∷ [])
    ∙ ap (λ (xs : List (List ℕ)). taken ++ xs) (sym (map-append items texts (text ∷ [])) ∙ ap (map items) (sym pushes))

pub invariant_of-self : goal.invariant_of-self
invariant_of-self g c =
    let mine = c.self.inside in
    let client_of = g.K.LogName.client_of in
    let client = c.args.client in
    let n = c.index-count.result.now in
    let text = c.args.text.items in
    let within : client < length mine.counts.items = omega arith in
    let read : n ≡ slice_index_or mine.counts.items client n = c.index-count.ensures in
    let all : c.again.result ≡ mine.appended ++ text ∷ [] =
    c.again.ensures ∙ c.if-not-extend.ensures ∙ ap (λ (xs : List (List ℕ)). xs ++ text ∷ []) c.again-appended.ensures in
    let own = counted_at client_of mine.counts.items mine.appended client n c.self.invariant.2 within read in (
      waits (λ v. v.items) mine.taken mine.appended c.again.result mine.texts.items _ c.args.text c.self.invariant.0 all c.push_reserved.ensures.items,
      omega arith,
      counts_more client_of mine.counts.items _ mine.appended _ client n text c.requires c.self.invariant.2 own refl all,
    )
