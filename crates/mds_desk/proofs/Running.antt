-- A desk's run with one more turn at its end.
use Rattle.std.proofs.Common.{◌≡◌, ℕ, ◌+◌, ◌<◌, ◌≤◌, List, [], ◌∷◌, ◌++◌, map, take, length, get_or, Some, refl, sym, ap, subst, ◌∙◌, arith, add-one}
use Rattle.std.specs.List.{slice_get}
use Rattle.std.proofs.Math.Seq.{take-suc, take-length}
use Rattle.std.proofs.lemmas.List.{map-append}
use Rattle.mds_request.specs.Configuration.{Operator}
use Rattle.mds_request.specs.Request.{Request, request_of}
use Rattle.mds_request.specs.declared.request.Request.{Request as Lent}
use Rattle.mds_request.specs.Reply.{Reply}
use Rattle.mds_machine.specs.Desks.{IsTurn}
use Rattle.mds_machine.specs.Fronts.{Turn}
use Rattle.mds_machine.proofs.Runs.{no_turns, one_more_turn}
use Rattle.mds_desk.specs.Desk.{DeskState, IsSameDesk, TakesTurn, TakesRun}

pub begins : (d : DeskState) → TakesRun d [] [] d
begins d =
    record {
      same = record { configuration = refl; place = refl };
      run = λ operator found. no_turns d.configuration d.place operator d.known d.rows;
    }

-- a turn of the desk afterwards is one of the same operator
at_desk : (d between next : DeskState) (request : Request) (reply : Reply) (operator : Operator) → IsSameDesk d between → TakesTurn between request reply next → slice_get d.configuration.operators d.place ≡ Some operator → IsTurn d.configuration d.place operator between.known between.rows (record { request = request; front = next.known; reply = reply }) next.rows
at_desk d between next request reply operator same takes found =
    let turn : Turn = record { request = request; front = next.known; reply = reply } in
    subst (λ c. IsTurn c d.place operator between.known between.rows turn next.rows) same.configuration
    (subst (λ p. IsTurn between.configuration p operator between.known between.rows turn next.rows) same.place
    (takes.turn operator
    (ap (λ c. slice_get c.operators between.place) same.configuration ∙ ap (slice_get d.configuration.operators) same.place ∙ found)))

-- one more turn
goes_on : (d between next : DeskState) (requests : List Request) (replies : List Reply) (request : Request) (reply : Reply) → TakesRun d requests replies between → TakesTurn between request reply next → TakesRun d (requests ++ request ∷ []) (replies ++ reply ∷ []) next
goes_on d between next requests replies request reply run takes =
    record {
      same = record { configuration = takes.same.configuration ∙ run.same.configuration; place = takes.same.place ∙ run.same.place };
      run = λ operator found.
          one_more_turn d.configuration d.place operator d.known d.rows requests replies between.known between.rows
          (record { request = request; front = next.known; reply = reply }) next.rows (run.run operator found)
          (at_desk d between next request reply operator run.same takes found);
    }

one_more : {A : Type 0} (items : List A) (i : ℕ) (item : A) → i < length items → item ≡ get_or items i item → take (i + 1) items ≡ take i items ++ item ∷ []
one_more items i item within here = ap (λ n. take n items) (add-one i) ∙ take-suc items i item within ∙ ap (λ a. take i items ++ a ∷ []) (sym here)

-- a turn of a loop that answers one request after another
pub turn : (d between next : DeskState) (lent : List Lent) (i : ℕ) (item : Lent) (replies all : List Reply) (reply : Reply) → i < length lent → item ≡ get_or lent i item → all ≡ replies ++ reply ∷ [] → TakesRun d (map request_of (take i lent)) replies between → TakesTurn between (request_of item) reply next → TakesRun d (map request_of (take (i + 1) lent)) all next
turn d between next lent i item replies all reply within here more run takes =
    let asked : map request_of (take (i + 1) lent) ≡ map request_of (take i lent) ++ request_of item ∷ [] =
    ap (map request_of) (one_more lent i item within here) ∙ map-append request_of (take i lent) (item ∷ []) in
    subst (λ requests. TakesRun d requests all next) (sym asked)
    (subst (λ rs. TakesRun d (map request_of (take i lent) ++ request_of item ∷ []) rs next) (sym more)
    (goes_on d between next (map request_of (take i lent)) replies (request_of item) reply run takes))

-- all requests are answered
pub finished : (d next : DeskState) (lent : List Lent) (i : ℕ) (replies : List Reply) → i ≤ length lent → length lent ≤ i → TakesRun d (map request_of (take i lent)) replies next → TakesRun d (map request_of lent) replies next
finished d next lent i replies below above run =
    let all : take i lent ≡ lent = ap (λ n. take n lent) (let e : i ≡ length lent = omega (arith, below, above) in e) ∙ take-length lent in
    subst (λ ls. TakesRun d (map request_of ls) replies next) all run
