use Rattle.std.proofs.Common.{sym, ◌∙◌}
use Rattle.std.proofs.lemmas.Bool.{eqb-true}
use Rattle.server_durable.proofs.Logging.{owns_opened, owns_same}
use Rattle.server_durable.proofs.desk_records.DeskRecords.has_turns.Goals as goal

pub returns-in-Some : goal.returns-in-Some
returns-in-Some g c =
    λ same.
    let mine = c.args.self.now in
    owns_same g.K.HallName.configuration g.N.LogName.client_of mine.turns c.in-Some.known (λ t. t.front.seen.log) mine.is_lost mine.own
    c.args.turns.now.front.seen.log mine.logged c.if-self.false c.in-Some.is (c.are_same.ensures same)

pub returns-in-None : goal.returns-in-None
returns-in-None g c =
    λ one.
    let mine = c.args.self.now in
    let turns = c.args.turns.now in
    owns_opened g.K.HallName.configuration g.N.LogName.client_of mine.turns (λ t. t.front.seen.log) mine.is_lost mine.own turns.place turns.front.seen.log
    mine.logged c.if-self.false c.in-None.is c.requires (sym c.len.ensures ∙ eqb-true c.len.result 1 one)
