use mathlib.Core.List.{IsPrefix}
use Rattle.std.proofs.Common.{rules, ◌≡◌, true, map, ap, subst, ◌∙◌}
use Rattle.journal_commit.specs.Clients.{of_client}
use Rattle.journal_commit.specs.Durable.{chosen}
use Rattle.mds_machine.proofs.Views.{prefix_self}
use Rattle.mds_request.specs.declared.config.Actor.TheVariants.{Operator}
use Rattle.server_admission.specs.Actor.{index_of}
use Rattle.server_durable.proofs.Logging.{owns_now, shows}
use Rattle.server_durable.proofs.Owning.{owned_still}
use Rattle.server_durable.proofs.desk_records.DeskRecords.settle_run.Goals as goal

pub invariant_of-self : goal.invariant_of-self
invariant_of-self g c =
    let mine = c.args.self.now in
    record {
      owned =
          owned_still g.K.HallName.configuration g.N.LogName.client_of (Operator mine.place) mine.own.client c.append_chosen.new.own.client mine.owned
          c.append_chosen.ensures.client;
      numbered = c.append_chosen.ensures.client ∙ mine.numbered;
      of_desk = mine.of_desk;
      logged = ∣ (λ kept. absurd (cc kept)) ∣₁;
    }

pub learn-requires-clause-logged : goal.learn-requires-clause-logged
learn-requires-clause-logged g c =
    λ kept.
    let client_of = g.N.LogName.client_of in
    let own = c.args.self.now.own in
    let texts = chosen c.args.kept.now (map (λ v. v.items) c.args.places.texts.items) in
    owns_now g.K.HallName.configuration client_of own c.append_chosen.new.own c.args.desk.now.turns.front.seen.log
    texts (c.requires.logged kept) c.append_chosen.ensures.client
    (ap (of_client client_of own.client) c.in_ok-stamp.ensures.own ∙ c.in_ok-stamp.ensures.records.records)

pub returns-then-learn-clause-shows : goal.returns-then-learn-clause-shows
returns-then-learn-clause-shows g c =
    let configuration = g.K.HallName.configuration in
    let client_of = g.N.LogName.client_of in
    let mine = c.args.self.now in
    let now = c.append_chosen.new.own in
    let all = c.args.desk.now.turns.front.seen.log in
    let texts = chosen c.args.kept.now (map (λ v. v.items) c.args.places.texts.items) in
    let learnt : c.learn.result ≡ true = search rules in
    shows configuration client_of now (index_of (Operator mine.place)) all c.in_ok-stamp.stamp
    (owns_now configuration client_of mine.own now all texts (c.requires.logged (c.learn.ensures.learnt learnt)) c.append_chosen.ensures.client
    (ap (of_client client_of mine.own.client) c.in_ok-stamp.ensures.own ∙ c.in_ok-stamp.ensures.records.records))
    (c.append_chosen.ensures.client ∙ mine.numbered)
    (subst (IsPrefix now.texts) c.in_ok-stamp.ensures.own (prefix_self now.texts))
