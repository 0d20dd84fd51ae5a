-- Turns of the author's room, whose drafts aren't computed.
use Rattle.std.proofs.Common.{◌≡◌, ℕ, List, [], codes, Ok, inl, refl, sym, ap}
use Rattle.mds_geography.specs.Reading.{read_geography}
use Rattle.mds_policy.specs.Reading.{read_policy}
use Rattle.mds_request.specs.Call.{call_of}
use Rattle.mds_request.specs.declared.request.Verb.TheVariants.{Put}
use Rattle.mds_request.specs.Reply.{success}
use Rattle.mds_machine.specs.Answer.{settled}
use Rattle.mds_machine.specs.Room.{room_does, IsRoomTurn, AreRoomTurns}
use Rattle.tests_examples_core.proofs.DraftCounts.{no_square, geography_count, no_cap, policy_count, the_square, the_cap, square_out, cap_out}
use Rattle.tests_examples_core.proofs.Session.{square_call, cap_call}
use Rattle.tests_examples_core.specs.Computed.{documents}
use Rattle.tests_examples_core.specs.Geographies.{square_text, square_document}
use Rattle.tests_examples_core.specs.Histories.{no_drafts}
use Rattle.tests_examples_core.specs.Machine.{done, put_square, put_cap, publish, square_path, cap_path, square_drafted, both_drafted}
use Rattle.tests_examples_core.specs.Policies.{cap, cap_text}
use Rattle.tests_examples_core.specs.Requests.{configuration, request}
use Rattle.tests_examples_server.specs.Turns.{first_front, at_the_room}

square_at : (target body : List ℕ) → call_of configuration (request 1000 (codes "city") Put target body) ≡ Ok square_call →
    read_geography body ≡ Ok square_document →
    room_does configuration (no_drafts, []) (request 1000 (codes "city") Put target body) ≡ Ok (done (codes "new"), (square_drafted, []))
square_at target body call read = rw (call, read, no_square, geography_count) refl

cap_at : (target body : List ℕ) → call_of configuration (request 1000 (codes "city") Put target body) ≡ Ok cap_call → read_policy body ≡ Ok cap →
    room_does configuration (square_drafted, []) (request 1000 (codes "city") Put target body) ≡ Ok (done (codes "new"), (both_drafted, []))
cap_at target body call read = rw (call, read, no_cap, policy_count) refl

pub calls_for_square : call_of configuration put_square ≡ Ok square_call
unfolding documents
calls_for_square = refl

pub puts_square : room_does configuration (no_drafts, []) put_square ≡ Ok (done (codes "new"), (square_drafted, []))
unfolding documents
puts_square = square_at square_path square_text refl refl

puts_cap : room_does configuration (square_drafted, []) put_cap ≡ Ok (done (codes "new"), (both_drafted, []))
unfolding documents
puts_cap = cap_at cap_path cap_text refl refl

publishes : room_does configuration (both_drafted, []) publish ≡ Ok (success (codes "{\"published_date\":1000,\"revision\":1}"), (no_drafts, first_front))
unfolding documents
publishes = rw (the_square, the_cap, square_out, cap_out) refl

pub square_turn : IsRoomTurn configuration (no_drafts, []) put_square (done (codes "new")) (square_drafted, [])
square_turn = inl (ap (λ d. (settled (no_drafts, []) d).0) (sym puts_square), ap (λ d. (settled (no_drafts, []) d).1) (sym puts_square))

cap_turn : IsRoomTurn configuration (square_drafted, []) put_cap (done (codes "new")) (both_drafted, [])
cap_turn = inl (ap (λ d. (settled (square_drafted, []) d).0) (sym puts_cap), ap (λ d. (settled (square_drafted, []) d).1) (sym puts_cap))

publish_turn : IsRoomTurn configuration (both_drafted, []) publish (success (codes "{\"published_date\":1000,\"revision\":1}")) (no_drafts, first_front)
publish_turn = inl (ap (λ d. (settled (both_drafted, []) d).0) (sym publishes), ap (λ d. (settled (both_drafted, []) d).1) (sym publishes))

pub room_turns : AreRoomTurns configuration (no_drafts, []) at_the_room (no_drafts, first_front)
room_turns = ((square_drafted, []), square_turn, ((both_drafted, []), cap_turn, ((no_drafts, first_front), publish_turn, refl)))
