use mathlib.Core.List.{IsPrefix}
use Rattle.std.proofs.Common.{◌≡◌, ◌==◌, ℕ, Bool, true, not, List, map, sym, ap, subst, ◌∙◌, rules}
use Rattle.std.specs.List.{list_all}
use Rattle.journal_commit.specs.Clients.{Own}
use Rattle.mds_request.specs.Request.{request_of}
use Rattle.mds_request.specs.Reply.{Reply}
use Rattle.mds_request.specs.declared.config.Actor.TheVariants.{Operator}
use Rattle.server_admission.specs.Actor.{index_of}
use Rattle.mds_machine.proofs.Views.{prefix_self}
use Rattle.server_durable.proofs.Logging.{refused_more, shows}
use Rattle.server_durable.proofs.Reports.{refused_are_recorded}
use Rattle.server_durable.proofs.durable_hall.DurableHall.carry_out_refused.Goals as goal

pub learn-requires-clause-logged : goal.learn-requires-clause-logged
learn-requires-clause-logged g c =
    λ kept.
    let requests = map request_of c.args.requests.now in
    let replies = c.in_ok-answers.answers.items in
    let refuses : List Reply → Bool = list_all (λ (reply : Reply). not (reply.status == 200)) in
    let held : c.are_refused.result ≡ true = search rules in
    refused_more g.K.HallName.configuration g.N.LogName.client_of c.args.records.now.own c.args.desk.now.turns.front.seen.log
    c.answer_all.new.self.turns.front.seen.log requests replies c.requires.logged
    (sym (ap refuses c.deref.ensures.value) ∙ sym c.are_refused.ensures ∙ held) (c.in_ok-answers.ensures.listed kept)

pub returns-clause-continues : goal.returns-clause-continues
returns-clause-continues g c =
    let requests = map request_of c.args.requests.now in
    let replies = c.in_ok-answers.answers.items in
    let refuses : List Reply → Bool = list_all (λ (reply : Reply). not (reply.status == 200)) in
    let held : c.are_refused.result ≡ true = search rules in
    record {
      note = _;
      run = c.in_ok-answers.ensures.run;
      recorded = refused_are_recorded g.K.HallName.configuration requests replies c.again-stamp.result
          (sym (ap refuses c.deref.ensures.value) ∙ sym c.are_refused.ensures ∙ held);
      longer = subst (IsPrefix c.args.known.now) (sym c.again-stamp.ensures) (prefix_self c.args.known.now);
    }

pub returns-clause-shows : goal.returns-clause-shows
returns-clause-shows g c =
    let configuration = g.K.HallName.configuration in
    let client_of = g.N.LogName.client_of in
    let mine = c.args.records.now in
    let requests = map request_of c.args.requests.now in
    let replies = c.in_ok-answers.answers.items in
    let refuses : List Reply → Bool = list_all (λ (reply : Reply). not (reply.status == 200)) in
    let held : c.are_refused.result ≡ true = search rules in
    let learnt : c.learn.result ≡ true = search rules in
    shows configuration client_of mine.own (index_of (Operator c.args.desk.now.place)) c.answer_all.new.self.turns.front.seen.log c.again-stamp.result
    (refused_more configuration client_of mine.own c.args.desk.now.turns.front.seen.log c.answer_all.new.self.turns.front.seen.log requests replies c.requires.logged
    (sym (ap refuses c.deref.ensures.value) ∙ sym c.are_refused.ensures ∙ held) (c.in_ok-answers.ensures.listed (c.learn.ensures.learnt learnt)))
    (mine.numbered ∙ ap (λ (p : ℕ). index_of (Operator p)) c.requires.owner)
    (subst (IsPrefix mine.own.texts) (sym c.again-stamp.ensures) c.requires.front)

pub returns-clause-front : goal.returns-clause-front
returns-clause-front g c =
    let mine = c.args.records.now in
    subst (λ (texts : List (List ℕ)). IsPrefix texts c.again-stamp.result) (sym (ap (λ (own : Own). own.texts) c.learn.ensures.own))
    (subst (IsPrefix mine.own.texts) (sym c.again-stamp.ensures) c.requires.front)

pub returns-clause-listed : goal.returns-clause-listed
returns-clause-listed g c =
    let learnt : c.learn.result ≡ true = search rules in
    let kept = c.learn.ensures.learnt learnt in
    (kept, c.in_ok-answers.ensures.listed kept)
