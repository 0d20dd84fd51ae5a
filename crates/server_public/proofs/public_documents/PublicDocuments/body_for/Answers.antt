use Rattle.std.proofs.Common.{◌≡◌, Ok, codes, ap, sym, ◌∙◌}
use Rattle.server_public.specs.Answer.{found, policies_told, told}
use Rattle.server_public.specs.Body.{body_text}
use Rattle.server_public.specs.Period.{period_in}
use Rattle.server_public.specs.View.{face}
use Rattle.server_public.proofs.Whole.{all_in, no_query, texts_seen}
use Rattle.server_public.proofs.public_documents.PublicDocuments.body_for.Goals as goal

pub returns-in_ok-clone-in-Geographies : goal.returns-in_ok-clone-in-Geographies
returns-in_ok-clone-in-Geographies c =
    let self = c.args.self.now in
    ap (λ asked. found (face self) asked c.args.query.now) c.in-Geographies.is
    ∙ ap (λ texts. Ok (body_text (codes "geographies") texts self.updated)) (texts_seen self.geographies.items)
    ∙ ap Ok (sym self.geographies_ready ∙ sym c.in_ok-clone-in-Geographies.ensures.cases)

pub returns-in_ok-clone-in-Policies : goal.returns-in_ok-clone-in-Policies
returns-in_ok-clone-in-Policies c =
    let self = c.args.self.now in
    ap (λ asked. found (face self) asked c.args.query.now) c.in-Policies.is
    ∙ ap (λ query. policies_told (face self) (period_in query)) (no_query c.args.query.now (sym c.is_empty.ensures ∙ c.if-is_empty.true))
    ∙ ap (λ notices. Ok (told (codes "policies") notices self.updated)) (all_in (face self).policies)
    ∙ ap (λ texts. Ok (body_text (codes "policies") texts self.updated)) (texts_seen self.policies.items)
    ∙ ap Ok (sym self.policies_ready ∙ sym c.in_ok-clone-in-Policies.ensures.cases)
