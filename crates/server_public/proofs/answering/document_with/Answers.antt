use Rattle.std.proofs.Common.{map, option_map, ap, sym, ◌∙◌}
use Rattle.server_public.specs.Answer.{sought}
use Rattle.server_public.specs.View.{notice}
use Rattle.server_public.proofs.Found.{found_seen, seen_copied}
use Rattle.server_public.proofs.answering.document_with.Goals as goal

pub returns-in-Some : goal.returns-in-Some
returns-in-Some c = seen_copied c.of_id.result ∙ ap (λ o. option_map notice o) c.of_id.ensures ∙ found_seen c.in-Some.id c.args.notices.now ∙ sym (ap (sought (map notice c.args.notices.now)) c.in-Some.is)
