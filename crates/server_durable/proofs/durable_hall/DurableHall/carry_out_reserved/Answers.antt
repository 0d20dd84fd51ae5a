use mathlib.Core.List.{IsPrefix}
use Rattle.std.proofs.Common.{◌≡◌, ◌==◌, ◌<◌, ℕ, false, length, map, ap, subst, ◌∙◌, arith, rules}
use Rattle.std.proofs.lemmas.List.{length-map}
use Rattle.mds_request.specs.Configuration.{Configuration}
use Rattle.mds_request.specs.Request.{request_of}
use Rattle.mds_request.specs.Reply.{Reply}
use Rattle.mds_request.specs.declared.config.Actor.TheVariants.{Operator}
use Rattle.mds_machine.proofs.Views.{prefix_self}
use Rattle.mds_desk.specs.Desk.{state_of}
use Rattle.server_admission.specs.Actor.{index_of}
use Rattle.server_durable.specs.Logged.{ShowsTurns}
use Rattle.server_durable.specs.Owners.{OwnsRecords}
use Rattle.server_durable.proofs.Kept.{run_kept}
use Rattle.server_durable.proofs.Logging.{run_more}
use Rattle.server_durable.proofs.Owning.{records_are_of}
use Rattle.server_durable.proofs.Reports.{as_many_told, settled_are_recorded}
use Rattle.server_durable.proofs.durable_hall.DurableHall.carry_out_reserved.Goals as goal

pub push_flags-requires-clause-room : goal.push_flags-requires-clause-room
push_flags-requires-clause-room g c =
    let requests = map request_of c.args.requests.now in
    let replies = c.in-Ok-run.answers.items in
    let many : length replies ≡ length requests =
    as_many_told (state_of c.args.desk.now.desk) (state_of c.answer_all-run.new.self.desk) _ requests replies c.args.desk.now.desk.context.within c.in-Ok-run.ensures.run in
    let asked : length requests ≡ length c.args.requests.now = length-map c.args.requests.now request_of in
    let answered : length c.deref-2.result.now ≡ length replies = ap length c.deref-2.ensures.value in
    omega (arith, many, asked, answered, c.in-Ok.ensures.exact)

pub settle_run-requires-clause-owned : goal.settle_run-requires-clause-owned
settle_run-requires-clause-owned g c =
    let configuration = g.K.HallName.configuration in
    let client_of = g.N.LogName.client_of in
    let mine = c.args.records.now in
    records_are_of configuration client_of c.args.desk.now.place mine.own.client (map request_of c.args.requests.now)
    (map (λ text. text.items) c.args.places.texts.items)
    (subst (λ (p : ℕ). OwnsRecords configuration client_of (Operator p) mine.own.client) c.requires.owner mine.owned)
    c.requires.asked c.requires.places

pub settle_run-requires-clause-logged : goal.settle_run-requires-clause-logged
settle_run-requires-clause-logged g c =
    λ kept.
    let configuration = g.K.HallName.configuration in
    let client_of = g.N.LogName.client_of in
    let desk = c.args.desk.now in
    let requests = map request_of c.args.requests.now in
    let replies = c.in-Ok-run.answers.items in
    let noted : c.deref-3.result.now ≡ map (λ (reply : Reply). reply.status == 200) replies =
    c.deref-3.ensures.value ∙ c.push_flags.ensures ∙ ap (map (λ (reply : Reply). reply.status == 200)) c.deref-2.ensures.value in
    let within : desk.place < length configuration.operators =
    subst (λ (p : ℕ). p < length configuration.operators) desk.placed
    (subst (λ (own : Configuration). (state_of desk.desk).place < length own.operators) desk.configured desk.desk.context.within) in
    run_more configuration client_of c.args.records.now.own desk.turns.front.seen.log c.answer_all-run.new.self.turns.front.seen.log requests replies
    (map (λ text. text.items) c.args.places.texts.items) c.deref-3.result.now c.requires.logged
    (run_kept configuration desk.place requests replies within c.requires.asked c.in-Ok-run.ensures.replies)
    c.requires.places noted (c.in-Ok-run.ensures.listed kept)

pub returns-clause-continues : goal.returns-clause-continues
returns-clause-continues g c =
    let requests = map request_of c.args.requests.now in
    let replies = c.in-Ok-run.answers.items in
    let noted : c.deref-3.result.now ≡ map (λ (reply : Reply). reply.status == 200) replies =
    c.deref-3.ensures.value ∙ c.push_flags.ensures ∙ ap (map (λ (reply : Reply). reply.status == 200)) c.deref-2.ensures.value in
    record {
      note = _;
      run = c.in-Ok-run.ensures.run;
      recorded = settled_are_recorded g.K.HallName.configuration requests replies (map (λ text. text.items) c.args.places.texts.items) c.in_ok-stamp.stamp
          c.deref-3.result.now c.requires.places noted c.in_ok-stamp.ensures.last;
      longer = c.in_ok-stamp.ensures.known;
    }

pub returns-clause-shows : goal.returns-clause-shows
returns-clause-shows g c =
    subst (λ (p : ℕ). ∥ ShowsTurns g.K.HallName.configuration g.N.LogName.client_of (index_of (Operator p)) c.answer_all-run.new.self.turns.front.seen.log c.in_ok-stamp.stamp ∥₁)
    c.requires.owner c.in_ok-stamp.ensures.shows

pub returns-clause-front : goal.returns-clause-front
returns-clause-front g c =
    let texts = c.settle_run.new.self.own.texts in
    subst (IsPrefix texts) c.in_ok-stamp.ensures.own (prefix_self texts)

pub returns-clause-listed : goal.returns-clause-listed
returns-clause-listed g c =
    let kept : c.answer_all-run.new.self.is_lost ≡ false = search rules in
    (kept, c.in-Ok-run.ensures.listed kept)
