use Rattle.std.proofs.Common.{◌≡◌, ◌==◌, ◌++◌, ◌∷◌, [], ℕ, true, map, ap, sym, ◌∙◌, rules}
use Rattle.std.proofs.lemmas.Bool.{eqb-true}
use Rattle.journal_entry.specs.Entries.{entry_of}
use Rattle.mds_request.specs.Configuration.{configuration}
use Rattle.server_routes.specs.declared.app.FleetView.TheVariants.{Compliance}
use Rattle.server_past.specs.Past.{own_reply}
use Rattle.server_past.proofs.Replied.{one_more}
use Rattle.server_past.proofs.replies.each_reply.Goals as goal

pub loop-place-preserved : goal.loop-place-preserved
loop-place-preserved c =
    let reply = c.in_ok-reply.reply in
    let accepted : c.is_accepted.result ≡ true = search rules in
    let is_200 : (reply.status == 200) ≡ true = ap (λ (s : ℕ). s == 200) (sym c.status.ensures) ∙ sym c.is_accepted.ensures ∙ accepted in
    record {
      all = c.loop-place.invariant.all;
      bodies = one_more (own_reply (configuration c.args.config.now) (map entry_of c.args.entries.now) Compliance c.args.at) c.loop-place.place
          c.loop-place.replies.items c.push.new.self.items reply c.loop-place.invariant.bodies (c.in_ok-push.ensures.items ∙ ap (λ r. c.loop-place.replies.items ++ r ∷ []) c.from.ensures)
          (eqb-true reply.status 200 is_200) c.in_ok-reply.ensures;
    }
