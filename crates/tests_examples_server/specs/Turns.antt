-- Turns at the first operator's desk, and histories that they are part of.
use Rattle.std.specs.Prelude.{ℕ, zero, suc, List, [], ◌∷◌, codes}
use Rattle.mds_catalog.specs.Publication.{Publication}
use Rattle.mds_machine.specs.Fronts.{Turn}
use Rattle.mds_machine.specs.Step.{Exchange}
use Rattle.mds_machine.specs.Views.{Seen, asked, published}
use Rattle.mds_request.specs.Reply.{Reply}
use Rattle.mds_request.specs.Request.{Request}
use Rattle.tests_examples_core.specs.Histories.{cap_put, square_put, both_published, exchange, question, answer}
use Rattle.tests_examples_core.specs.Ids.{cap_id}
use Rattle.tests_examples_core.specs.Machine.{ask, compliance, done, error, report}
use Rattle.tests_examples_core.specs.Publications.{first_publication, withdrawal, then_withdrawn}

abbrev pub turn : Request → List Publication → Reply → Turn
turn request front reply = record { request = request; front = front; reply = reply }

-- the square and the cap, and nothing else
abbrev pub first_front : List Publication
first_front = first_publication ∷ []

-- a report of a vehicle in the square, before anything is published
abbrev pub reported : Turn
reported = turn (report 2000 (codes "401")) [] (done (codes "new"))

-- a question once the cap is published, for which the vehicle counts
abbrev pub counted : Turn
counted = turn question first_front answer

-- a question once the cap is withdrawn
abbrev pub nothing_in_force : Turn
nothing_in_force = turn (ask 3000 (codes "alfa")) then_withdrawn (compliance (codes "3000") [] (codes "2"))

abbrev pub three_turns : List Turn
three_turns = reported ∷ counted ∷ nothing_in_force ∷ []

-- the same turn, refused with `no_memory`
abbrev pub without_memory : Turn → Turn
without_memory t = record t { reply = error 503 (codes "no_memory") }

-- the same turn, refused with `no_snapshot` at what was known
abbrev pub without_snapshot : Turn → Turn
without_snapshot t = record t { reply = error 503 (codes "no_snapshot") }

-- another operator's request, and a request for an unknown path
abbrev pub by_another : Turn
by_another = turn (ask 2000 (codes "bravo")) first_front (error 401 (codes "token"))

abbrev pub without_route : Turn
without_route = turn (record question { target = codes "/nowhere" }) first_front (error 404 (codes "no_route"))

-- the empty view, continued by the three turns
abbrev pub seen_by_three : List Seen
seen_by_three =
    asked (report 2000 (codes "401")) ∷ published first_publication ∷ asked question
    ∷ published (withdrawal 3000 cap_id) ∷ asked (ask 3000 (codes "alfa")) ∷ []

-- the author's exchanges
abbrev pub at_the_room : List Exchange
at_the_room = square_put ∷ cap_put ∷ both_published ∷ []

-- the first operator's two turns, as exchanges too, and the history where these are put among the
-- author's
abbrev pub two_turns : List Turn
two_turns = reported ∷ counted ∷ []

abbrev pub own_exchanges : List Exchange
own_exchanges = exchange (report 2000 (codes "401")) (done (codes "new")) ∷ exchange question answer ∷ []

abbrev pub whole : List Exchange
whole =
    square_put ∷ exchange (report 2000 (codes "401")) (done (codes "new")) ∷ cap_put ∷ both_published
    ∷ exchange question answer ∷ []

-- the turns of the operator at an index: only the first has any
abbrev pub turns_of : ℕ → List Turn
turns_of zero = two_turns
turns_of (suc place) = []
