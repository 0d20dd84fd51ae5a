use Rattle.std.proofs.Common.{◌++◌, ap, ◌∙◌}
use Rattle.mds_text.specs.Numbers.{leading, places_of, up_to_limit}
use Rattle.mds_text.specs.Numbers.{parts_view, size_of}
use Rattle.mds_text.proofs.Leading.{rounds_within, rounds_over}
use Rattle.mds_text.proofs.Rounding.{size_of-leading}
use Rattle.mds_text.proofs.degrees.size_of.Goals as goal

pub returns-in-Some : goal.returns-in-Some
returns-in-Some c =
    let n = parts_view c.args.number.now in
    let ds = n.whole ++ n.fraction in
    rounds_within (leading ds (places_of n)) (size_of n) c.in-Some.tenths (size_of-leading n c.requires.digits) (c.in-Some.ensures ∙ ap (λ k. up_to_limit 18000000004 (leading ds k)) c.places_of.ensures.value)

pub returns-in-None : goal.returns-in-None
returns-in-None c =
    let n = parts_view c.args.number.now in
    let ds = n.whole ++ n.fraction in
    rounds_over (leading ds (places_of n)) (size_of n) (size_of-leading n c.requires.digits) (c.in-None.ensures ∙ ap (λ k. up_to_limit 18000000004 (leading ds k)) c.places_of.ensures.value)
