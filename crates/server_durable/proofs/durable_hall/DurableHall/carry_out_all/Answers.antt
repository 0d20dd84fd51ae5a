use mathlib.Core.List.{IsPrefix}
use Rattle.std.proofs.Common.{◌≡◌, ◌+◌, ◌-◌, ◌<◌, ◌≤◌, ℕ, List, [], ◌++◌, length, map, take, drop, sym, ap, subst, ◌∙◌, arith, take-add, length-drop, length-take-le}
use Rattle.std.proofs.Math.Seq.{take-length}
use Rattle.std.proofs.lemmas.List.{length-map, map-append, take-append-drop}
use Rattle.mds_request.specs.Request.{Request, request_of}
use Rattle.mds_request.specs.Reply.{Reply}
use Rattle.mds_request.specs.declared.config.Actor.TheVariants.{Operator}
use Rattle.mds_machine.proofs.Views.{prefix_self}
use Rattle.mds_desk.specs.Desk.{state_of}
use Rattle.server_admission.specs.Actor.{index_of}
use Rattle.server_state.specs.Openings.{openings_of}
use Rattle.server_durable.specs.Logged.{ShowsTurns}
use Rattle.server_durable.specs.ManyAnswers.{IsAnsweredInPart}
use Rattle.server_durable.proofs.Clients.{front_asked, rest_asked}
use Rattle.server_durable.proofs.ListedRuns.{AreListed, listed_more, listed_none, listed_run}
use Rattle.server_durable.proofs.Reports.{Reached, all_answered, as_many_reached, reached_more, reached_none, rest_is, some_answered_of}
use Rattle.server_durable.proofs.durable_hall.DurableHall.carry_out_all.Goals as goal

pub chunks-init : goal.chunks-init
chunks-init g c =
    let desk = state_of c.args.desk.now.desk in
    record {
      reached = subst (λ (replies : List Reply). Reached g.K.HallName.configuration c.args.place [] replies c.again.result desk) (sym c.in_ok-with_capacity.ensures.items)
          (reached_none g.K.HallName.configuration c.args.place c.again.result desk
          (record { configured = c.args.desk.now.configured; placed = c.args.desk.now.placed ∙ c.requires.place }));
      listed = listed_none g.K.HallName.configuration (openings_of c.args.self.now.hall) g.N.LogName.client_of c.args.place _ c.again.result c.args.desk.now.is_lost
          c.args.desk.now.turns.front.seen.log c.requires.begins;
      place = c.requires.place;
      owner = c.requires.owner;
      front = subst (IsPrefix c.args.records.now.own.texts) (sym (c.again.ensures ∙ c.position.ensures)) (prefix_self c.args.records.now.own.texts);
      within = omega arith;
    }

pub carry_out_chunk-requires-clause-asked : goal.carry_out_chunk-requires-clause-asked
carry_out_chunk-requires-clause-asked g c =
    let requests = c.args.requests.now in
    let done = c.chunks.done in
    let rest = take (length requests - done) (drop done requests) in
    front_asked g.K.HallName.configuration c.args.place request_of c.chunk_length-length.result rest
    (front_asked g.K.HallName.configuration c.args.place request_of (length requests - done) (drop done requests)
    (rest_asked g.K.HallName.configuration c.args.place request_of done requests c.requires.asked))

pub returns-in-Err : goal.returns-in-Err
returns-in-Err g c =
    let requests = c.args.requests.now in
    let done = c.chunks.done in
    let rest = take (length requests - done) (drop done requests) in
    let cut : map request_of requests ≡ map request_of (take done requests) ++ map request_of rest =
    ap (map request_of) (sym (take-append-drop done requests)) ∙ map-append request_of (take done requests) (drop done requests)
    ∙ ap (λ xs. map request_of (take done requests) ++ map request_of xs) (sym (rest_is done requests)) in
    some_answered_of (λ all. all.answers.items) (λ all. all.stamp) g.K.HallName.configuration (openings_of c.args.self.now.hall) c.args.place
    (map request_of (take done requests)) (map request_of rest) (map request_of requests) c.chunks.replies.answers.items c.chunks.replies.stamp (state_of c.chunks.desk.desk) c.with_refusals.result cut c.chunks.invariant.reached
    (listed_run g.K.HallName.configuration (openings_of c.args.self.now.hall) g.N.LogName.client_of c.args.place (map request_of (take done requests))
    c.chunks.replies.answers.items c.chunks.replies.stamp c.chunks.desk.is_lost c.chunks.desk.turns.front.seen.log (state_of c.chunks.desk.desk) c.chunks.desk.place
    c.args.self.now.named c.chunks.desk.configured c.chunks.desk.placed c.chunks.invariant.place c.chunks.desk.listed c.chunks.invariant.listed)
    c.with_refusals.ensures

pub chunks-preserved : goal.chunks-preserved
chunks-preserved g c =
    let own = g.K.HallName.configuration in
    let openings = openings_of c.args.self.now.hall in
    let place = c.args.place in
    let requests = c.args.requests.now in
    let done = c.chunks.done in
    let more = c.chunk_length-length.result in
    let rest = take (length requests - done) (drop done requests) in
    let chunk = take more rest in
    let next = state_of c.carry_out_chunk.new.desk.desk in
    let left : length rest ≡ length requests - done = ap length (rest_is done requests) ∙ length-drop done requests in
    let few : more ≤ length rest = c.chunk_length-length.ensures.within in
    let long : length (map request_of chunk) ≡ more = length-map chunk request_of ∙ length-take-le more rest few in
    let some : 0 < length (map request_of chunk) = omega (arith, long, c.chunk_length-length.ensures.some) in
    let asked : map request_of (take (done + more) requests) ≡ map request_of (take done requests) ++ map request_of chunk =
    ap (map request_of) (take-add done more requests ∙ ap (λ xs. take done requests ++ take more xs) (sym (rest_is done requests)))
    ∙ map-append request_of (take done requests) chunk in
    let told = c.in_ok-extend-in-Ok.ensures in
    let client_of = g.N.LogName.client_of in
    let lost = c.carry_out_chunk.new.desk.is_lost in
    let items = c.carry_out_chunk.new.desk.turns.front.seen.log in
    let listed = listed_more own openings client_of place (map request_of (take done requests)) (map request_of chunk) c.chunks.replies.answers.items c.in-Ok.further.answers.items
    c.chunks.replies.stamp c.in-Ok.further.stamp c.chunks.desk.is_lost lost c.chunks.desk.turns.front.seen.log items
    (as_many_reached own place (map request_of (take done requests)) c.chunks.replies.answers.items c.chunks.replies.stamp (state_of c.chunks.desk.desk)
    c.requires.within c.chunks.invariant.reached) c.chunks.invariant.listed c.in-Ok.ensures.listed
    (subst (λ (p : ℕ). ∥ ShowsTurns own client_of (index_of (Operator p)) items c.in-Ok.further.stamp ∥₁) c.chunks.invariant.place c.in-Ok.ensures.shows) in
    let reached = reached_more own place (map request_of (take done requests)) c.chunks.replies.answers.items c.chunks.replies.stamp (state_of c.chunks.desk.desk)
    (map request_of chunk) next c.in-Ok.further.answers.items c.in-Ok.further.stamp c.requires.within some c.chunks.invariant.reached c.in-Ok.ensures.continues in
    record {
      reached = subst (λ (rs : List Request). Reached own place rs c.extend.new.self.answers.items c.extend.new.self.stamp next) (sym asked)
          (subst (λ (replies : List Reply). Reached own place (map request_of (take done requests) ++ map request_of chunk) replies c.extend.new.self.stamp next) (sym told.0)
          (subst (λ (texts : List (List ℕ)). Reached own place (map request_of (take done requests) ++ map request_of chunk)
          (c.chunks.replies.answers.items ++ c.in-Ok.further.answers.items) texts next) (sym told.1) reached));
      listed = subst (λ (rs : List Request). AreListed own openings client_of place rs c.extend.new.self.answers.items c.extend.new.self.stamp lost items) (sym asked)
          (subst (λ (replies : List Reply). AreListed own openings client_of place (map request_of (take done requests) ++ map request_of chunk) replies c.extend.new.self.stamp lost items)
          (sym told.0)
          (subst (λ (texts : List (List ℕ)). AreListed own openings client_of place (map request_of (take done requests) ++ map request_of chunk)
          (c.chunks.replies.answers.items ++ c.in-Ok.further.answers.items) texts lost items) (sym told.1) listed));
      place = c.in-Ok.ensures.place ∙ c.chunks.invariant.place;
      owner = c.in-Ok.ensures.owner ∙ c.chunks.invariant.owner;
      front = subst (IsPrefix c.carry_out_chunk.new.records.own.texts) (sym told.1) c.in-Ok.ensures.front;
      within = omega (arith, few, left, c.chunks.invariant.within);
    }

pub returns : goal.returns
returns g c =
    let requests = c.args.requests.now in
    let end : c.chunks.done ≡ length requests = omega (arith, c.chunks.invariant.within) in
    let all : take c.chunks.done requests ≡ requests = ap (λ n. take n requests) end ∙ take-length requests in
    subst (λ rs. IsAnsweredInPart g.K.HallName.configuration (openings_of c.args.self.now.hall) c.args.place (map request_of rs) c.chunks.replies.answers.items c.chunks.replies.stamp) all
    (all_answered g.K.HallName.configuration (openings_of c.args.self.now.hall) c.args.place (map request_of (take c.chunks.done requests)) c.chunks.replies.answers.items c.chunks.replies.stamp
    (state_of c.chunks.desk.desk) c.chunks.invariant.reached
    (listed_run g.K.HallName.configuration (openings_of c.args.self.now.hall) g.N.LogName.client_of c.args.place (map request_of (take c.chunks.done requests)) c.chunks.replies.answers.items
    c.chunks.replies.stamp c.chunks.desk.is_lost c.chunks.desk.turns.front.seen.log (state_of c.chunks.desk.desk) c.chunks.desk.place
    c.args.self.now.named c.chunks.desk.configured c.chunks.desk.placed c.chunks.invariant.place c.chunks.desk.listed c.chunks.invariant.listed))
