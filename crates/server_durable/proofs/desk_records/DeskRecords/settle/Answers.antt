use Rattle.std.proofs.Common.{rules, ◌≡◌, true, ◌∙◌}
use Rattle.mds_request.specs.declared.config.Actor.TheVariants.{Operator}
use Rattle.server_admission.specs.Actor.{index_of}
use Rattle.server_durable.specs.Owners.{appended_by}
use Rattle.server_durable.proofs.Logging.{owns_now, shows}
use Rattle.server_durable.proofs.Owning.{owned_still}
use Rattle.server_durable.proofs.desk_records.DeskRecords.settle.Goals as goal

pub invariant_of-self : goal.invariant_of-self
invariant_of-self g c =
    let mine = c.args.self.now in
    record {
      owned =
          owned_still g.K.HallName.configuration g.N.LogName.client_of (Operator mine.place) mine.own.client c.append_or_release.new.own.client mine.owned
          c.append_or_release.ensures.client;
      numbered = c.append_or_release.ensures.client ∙ mine.numbered;
      of_desk = mine.of_desk;
      logged = ∣ (λ kept. absurd (cc kept)) ∣₁;
    }

pub learn-requires-clause-logged : goal.learn-requires-clause-logged
learn-requires-clause-logged g c =
    λ kept.
    owns_now g.K.HallName.configuration g.N.LogName.client_of c.args.self.now.own c.append_or_release.new.own c.args.desk.now.turns.front.seen.log
    (appended_by c.args.reserved c.args.status) (c.requires.logged kept) c.append_or_release.ensures.client c.in_ok-stamp.ensures.records

pub returns-then-learn-clause-shows : goal.returns-then-learn-clause-shows
returns-then-learn-clause-shows g c =
    let configuration = g.K.HallName.configuration in
    let client_of = g.N.LogName.client_of in
    let mine = c.args.self.now in
    let now = c.append_or_release.new.own in
    let all = c.args.desk.now.turns.front.seen.log in
    let learnt : c.learn.result ≡ true = search rules in
    shows configuration client_of now (index_of (Operator mine.place)) all c.in_ok-stamp.stamp
    (owns_now configuration client_of mine.own now all (appended_by c.args.reserved c.args.status) (c.requires.logged (c.learn.ensures.learnt learnt))
    c.append_or_release.ensures.client c.in_ok-stamp.ensures.records)
    (c.append_or_release.ensures.client ∙ mine.numbered) c.in_ok-stamp.ensures.stamp
