use Rattle.std.proofs.Common.{◌≡◌, filter, map, take}
use Rattle.server_public.specs.Period.{is_in}
use Rattle.server_public.specs.View.{notice}
use Rattle.server_public.proofs.answering.texts_in.Given as goal

-- those of the documents so far that hold in the period
abbrev pub invariant-loop-notice : goal.invariant-loop-notice
invariant-loop-notice l = map (λ t. t.now) l.texts.items ≡ map (λ n. n.text) (filter (is_in l.period) (map notice (take l.notice-index l.notices)))
