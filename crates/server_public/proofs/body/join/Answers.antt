use Rattle.std.proofs.Common.{◌++◌, ◌∷◌, map, ap, sym, ◌∙◌, append_assoc}
use Rattle.std.specs.List.{flat_map, join_with_byte}
use Rattle.std.proofs.lemmas.List.{take_all}
use Rattle.server_public.proofs.Joined.{joined_bytes}
use Rattle.server_public.proofs.body.join.Goals as goal

pub returns : goal.returns
returns c =
    let first = c.in-Some.first.now.now in
    let rest = map (λ t. t.now) c.in-Some.rest.now in
    let old = c.args.body.now.items in
    c.loop-text.invariant
    ∙ ap (λ ts. c.extend_from_slice.new.self.items ++ flat_map (λ t. 44 ∷ t) (map (λ t. t.now) ts)) (take_all c.loop-text.text-index c.in-Some.rest.now c.loop-text-test.false)
    ∙ ap (λ bytes. bytes ++ flat_map (λ t. 44 ∷ t) rest) c.in_ok-extend_from_slice.ensures.items
    ∙ append_assoc old first (flat_map (λ t. 44 ∷ t) rest)
    ∙ ap (λ bytes. old ++ bytes) (sym (joined_bytes first rest))
    ∙ ap (λ ts. old ++ join_with_byte 44 (map (λ t. t.now) ts)) (sym c.in-Some.ensures.cases.0)
