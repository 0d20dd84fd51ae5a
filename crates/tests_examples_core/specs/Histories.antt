-- A history of the author and two operators, with the replies that the machine gives.
use Rattle.std.specs.Prelude.{ℕ, List, [], ◌∷◌, ◌++◌, codes}
use Rattle.std.specs.FinMap.{empty}
use Rattle.mds_drafts.specs.Drafts.{Drafts}
use Rattle.mds_request.specs.Reply.{Reply, success}
use Rattle.mds_request.specs.Request.{Request}
use Rattle.mds_request.specs.declared.request.Verb.TheVariants.{Get, Post, Delete}
use Rattle.mds_machine.specs.Step.{State, Exchange}
use Rattle.tests_examples_core.specs.Ids.{id_text}
use Rattle.tests_examples_core.specs.Machine.{error, done, compliance, after_publication, put_square, put_cap, cap_path, publish, publish_alone, withdraw_cap, report, ask}
use Rattle.tests_examples_core.specs.Requests.{request}
use Rattle.tests_examples_core.specs.Vehicles.{in_the_square, one_row, other_row}
use Rattle.tests_examples_core.specs.Verdicts.{kept_text}

abbrev pub no_drafts : Drafts
no_drafts = record { policies = empty; geographies = empty }

-- a request and the reply to it
abbrev pub exchange : Request → Reply → Exchange
exchange request reply = record { request = request; reply = reply }

-- a request that was answered with a success and this word as its result, and one that was refused out of memory
abbrev pub granted : Request → List ℕ → Exchange
granted request word = exchange request (done word)

abbrev pub denied : Request → Exchange
denied request = exchange request (error 503 (codes "no_memory"))

abbrev pub square_put : Exchange
square_put = granted put_square (codes "new")

abbrev pub cap_put : Exchange
cap_put = granted put_cap (codes "new")

abbrev pub both_published : Exchange
both_published = exchange publish (success (codes "{\"published_date\":1000,\"revision\":1}"))

abbrev pub drop_cap : Request
drop_cap = request 1000 (codes "city") Delete cap_path []

abbrev pub cap_dropped : Exchange
cap_dropped = exchange drop_cap (success (codes "{\"removed\":\"" ++ id_text (codes "201") ++ codes "\"}"))

-- the first operator requests the policy
abbrev pub ask_for_cap : Request
ask_for_cap = request 2000 (codes "alfa") Get (codes "/policies/" ++ id_text (codes "201")) []

-- a report by the other operator
abbrev pub other_report : Request
other_report = request 2000 (codes "bravo") Post (codes "/fleet/events") (in_the_square (codes "402"))

-- The geography and the policy are put and published, and each operator reports a vehicle, the first before the
-- publication. Refused are the first operator, which requests the policy too early, an anonymous client, and the
-- author, who would publish the policy without its geography.
abbrev pub before_question : List Exchange
before_question =
    square_put
    ∷ granted (report 2000 (codes "401")) (codes "new")
    ∷ cap_put
    ∷ exchange ask_for_cap (error 404 (codes "not_found"))
    ∷ exchange (ask 2000 (codes "nobody")) (error 401 (codes "token"))
    ∷ exchange publish_alone (error 409 (codes "no_geography"))
    ∷ both_published
    ∷ granted other_report (codes "new")
    ∷ []

-- then the first operator asks for compliance
abbrev pub question : Request
question = ask 2000 (codes "alfa")

abbrev pub answer : Reply
answer = compliance (codes "2000") (kept_text (codes "1")) (codes "1")

abbrev pub history : List Exchange
history = before_question ++ exchange question answer ∷ []

-- the state after it: each operator has one vehicle
abbrev pub after_history : State
after_history = record after_publication { fleets = one_row ∷ other_row ∷ [] }

-- another history: the policy is published, put again, and withdrawn
abbrev pub withdrawn_again_drafted : List Exchange
withdrawn_again_drafted =
    square_put
    ∷ cap_put
    ∷ both_published
    ∷ cap_put
    ∷ exchange (withdraw_cap 3000) (success (codes "{\"published_date\":3000,\"revision\":2}"))
    ∷ []
