use Rattle.std.proofs.Common.{◌≡◌, ℕ, List, [], ◌∷◌, ◌++◌, ap, subst, sym, ◌∙◌, append_assoc}
use Rattle.std.specs.Io.KnownBytes.{Appends}
use Rattle.mds_script.specs.Answering.{status_text}
use Rattle.mds_script.proofs.Written.{writes_stopped, writes_next, appends_more}
use Rattle.mds_script.proofs.write.write_answer.Goals as goal

pub returns-in-Err-clause-writes : goal.returns-in-Err-clause-writes
returns-in-Err-clause-writes g c =
    let old = g.W.Sink.contents c.args.sink.now in
    let new = g.W.Sink.contents c.write_all.new.sink in
    let body = c.args.reply.now.body in
    let front : c.status_of-status.result ≡ status_text c.args.reply.now.status ++ 32 ∷ [] = c.status_of-status.ensures ∙ ap (λ n. status_text n ++ 32 ∷ []) c.status.ensures in
    writes_stopped old new (status_text c.args.reply.now.status ++ 32 ∷ []) (body ++ 10 ∷ [])
    (subst (λ xs. (start : List ℕ) × (rest : List ℕ) × (xs ≡ start ++ rest) × Appends old new start) front c.in-Err.ensures.writes)

pub returns-in-Err-write_all-clause-writes : goal.returns-in-Err-write_all-clause-writes
returns-in-Err-write_all-clause-writes g c =
    let old = g.W.Sink.contents c.args.sink.now in
    let mid = g.W.Sink.contents c.write_all.new.sink in
    let new = g.W.Sink.contents c.write_all-2.new.sink in
    let body = c.args.reply.now.body in
    let status = status_text c.args.reply.now.status ++ 32 ∷ [] in
    let front : c.status_of-status.result ≡ status = c.status_of-status.ensures ∙ ap (λ n. status_text n ++ 32 ∷ []) c.status.ensures in
    let first : Appends old mid status = subst (Appends old mid) front c.in-Ok.ensures.writes in
    let stopped = writes_stopped mid new body (10 ∷ [])
    (subst (λ xs. (start : List ℕ) × (rest : List ℕ) × (xs ≡ start ++ rest) × Appends mid new start) c.body-body.ensures.body c.in-Err-write_all.ensures.writes) in
    (status ++ stopped.0, stopped.1, ap (λ zs. status ++ zs) stopped.2 ∙ sym (append_assoc status stopped.0 stopped.1), appends_more old mid new status stopped.0 first stopped.3)

pub returns-clause-writes : goal.returns-clause-writes
returns-clause-writes g c =
    let old = g.W.Sink.contents c.args.sink.now in
    let mid = g.W.Sink.contents c.write_all.new.sink in
    let later = g.W.Sink.contents c.write_all-2.new.sink in
    let new = g.W.Sink.contents c.write_all-3.new.sink in
    let body = c.args.reply.now.body in
    let status = status_text c.args.reply.now.status ++ 32 ∷ [] in
    let front : c.status_of-status.result ≡ status = c.status_of-status.ensures ∙ ap (λ n. status_text n ++ 32 ∷ []) c.status.ensures in
    let first : Appends old mid status = subst (Appends old mid) front c.in-Ok.ensures.writes in
    let second : Appends mid later body = subst (Appends mid later) c.body-body.ensures.body c.in-Ok-write_all.ensures.writes in
    writes_next old mid new c.write_all-3.result status (body ++ 10 ∷ []) first
    (writes_next mid later new c.write_all-3.result body (10 ∷ []) second c.write_all-3.ensures.writes)
