use Rattle.std.proofs.Common.{rules, [], map}
use Rattle.journal_commit.specs.Clients.{GoesOnBy}
use Rattle.journal_commit.proofs.Owning.{chosen_more}
use Rattle.journal_commit.proofs.backlog.CommitBacklog.append_chosen.Goals as goal

pub returns-clause-records : goal.returns-clause-records
returns-clause-records g c =
    let client_of = g.K.LogName.client_of in
    let own = c.args.own.now in
    let before = c.args.self.now.queue.appended in
    let knows : GoesOnBy client_of own [] before = search rules in
    chosen_more client_of own c.args.kept.now (map (λ v. v.items) c.args.places.texts.items) before c.in_ok-stamp.stamp
    c.requires knows c.in_ok-stamp.ensures.appended
