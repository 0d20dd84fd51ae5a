use borrow.Enum.Total.{values_d}
use Rattle.std.proofs.Common.{◌≡◌, ℕ, List, Result, Ok, Err, sym, ap, ◌∙◌}
use Rattle.std.specs.Bool.{⊤}
use Rattle.std.specs.contracts.alloc.Global as global
use Rattle.std.specs.contracts.impls.GlobalAllocator.TheImpl as allocator
use Rattle.std.specs.contracts.result.Result.{enum}
use Rattle.bytes.specs.contracts.shared.Bytes as bytes
use Rattle.server_public.specs.Answer.{answer_of}
use Rattle.server_public.specs.View.{face}
use Rattle.server_public.specs.contracts.refusal.PublicFault as denied
use Rattle.server_public.specs.declared.refusal.PublicFault.{PublicFault}
use Rattle.server_public.specs.declared.refusal.PublicFault.TheVariants.{Refused}
use Rattle.server_public.specs.declared.refusal.Refusal.{Refusal}
use Rattle.server_public.specs.Response.{query_of}
use Rattle.server_public.proofs.Telling.{refused_for, says_of_room}
use Rattle.server_public.proofs.cached_documents.CachedDocuments.respond.Goals as goal

-- why there is no body, read out of an answer as the program does
read : PublicFault × ⊤ → Result (List ℕ) PublicFault → PublicFault
read given answer = (values_d (enum (bytes.the_row global.the_row allocator.ghosts) denied.the_row) 1 given answer).0

as_refused : (given : PublicFault × ⊤) (answer : Result (List ℕ) PublicFault) (d : PublicFault) (refusal : Refusal) → answer ≡ Err d → read given answer ≡ Refused refusal
    → d ≡ Refused refusal
unfolding read
as_refused given answer d refusal is reads = ap (read given) (sym is) ∙ reads

pub returns-in-Ok : goal.returns-in-Ok
returns-in-Ok g c =
    let shown = c.args.self.now in
    let parts = c.args.parts.now in
    says_of_room g.K.HallName.configuration shown.face c.args.asked parts (Ok c.in-Ok.body) c.response_of.result shown.of_room
    (ap (λ m. answer_of (face shown.face) c.args.asked m (query_of parts) parts.headers) (sym (c.as_bytes-method.ensures.value ∙ c.as_str.ensures.value))
    ∙ (ap (λ q. answer_of (face shown.face) c.args.asked c.as_bytes-method.result.now q parts.headers) (sym c.query.ensures) ∙ c.in-Ok.ensures))
    c.response_of.ensures

pub returns-in-Err-Refused : goal.returns-in-Err-Refused
unfolding read
returns-in-Err-Refused g c =
    let shown = c.args.self.now in
    let parts = c.args.parts.now in
    let refused = as_refused _ c.answer-answer.result c.in-Err-Refused.field-0 c.in-Err-Refused.refusal c.in-Err-Refused.is c.in-Err-Refused.field-0-is in
    says_of_room g.K.HallName.configuration shown.face c.args.asked parts (Err c.in-Err-Refused.refusal) c.response_of-in-Err-Refused.result shown.of_room
    (ap (λ m. answer_of (face shown.face) c.args.asked m (query_of parts) parts.headers) (sym (c.as_bytes-method.ensures.value ∙ c.as_str.ensures.value))
    ∙ (ap (λ q. answer_of (face shown.face) c.args.asked c.as_bytes-method.result.now q parts.headers) (sym c.query.ensures)
    ∙ refused_for (answer_of (face shown.face) c.args.asked c.as_bytes-method.result.now c.query.result.now parts.headers) c.answer-answer.result
    c.in-Err-Refused.field-0 c.in-Err-Refused.refusal c.in-Err-Refused.is refused c.answer-answer.ensures))
    c.response_of-in-Err-Refused.ensures
