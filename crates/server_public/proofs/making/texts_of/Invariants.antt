use Rattle.std.proofs.Common.{◌≡◌, map, take}
use Rattle.server_public.proofs.making.texts_of.Given as goal

-- those of the documents so far
abbrev pub invariant-loop-notice : goal.invariant-loop-notice
invariant-loop-notice l = map (λ t. t.now) l.texts.items ≡ map (λ n. n.text.items) (take l.notice-index l.notices)
