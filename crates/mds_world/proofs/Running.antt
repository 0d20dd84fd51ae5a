-- A run with one more exchange at its end.
use Rattle.std.proofs.Common.{◌≡◌, ℕ, ◌+◌, ◌<◌, ◌≤◌, List, [], ◌∷◌, ◌++◌, map, take, length, get_or, refl, sym, ap, subst, ◌∙◌, arith, add-one}
use Rattle.std.proofs.Math.Seq.{take-suc, take-length}
use Rattle.std.proofs.lemmas.List.{length-map, length-take-le, map-append}
use Rattle.mds_request.specs.Request.{Request, request_of}
use Rattle.mds_request.specs.declared.request.Request.{Request as Lent}
use Rattle.mds_request.specs.Reply.{Reply}
use Rattle.mds_machine.specs.Step.{State, Exchange, Step, Run, exchanges}

-- one more exchange
pub run_on : (w between next : State) (history : List Exchange) (e : Exchange) → Run w history between → Step between e.request e.reply next → Run w (history ++ e ∷ []) next
run_on w between next [] e run step = (next, subst (λ s. Step s e.request e.reply next) run step, refl)
run_on w between next (x ∷ history) e run step = (run.0, run.1, run_on run.0 between next history e run.2 step)

pub exchanges_on : (requests : List Request) (replies : List Reply) (request : Request) (reply : Reply) → length replies ≡ length requests → exchanges (requests ++ request ∷ []) (replies ++ reply ∷ []) ≡ exchanges requests replies ++ record { request = request; reply = reply } ∷ []
exchanges_on [] [] request reply same = refl
exchanges_on [] (b ∷ replies) request reply same = absurd (cc)
exchanges_on (a ∷ requests) [] request reply same = absurd (cc)
exchanges_on (a ∷ requests) (b ∷ replies) request reply same = ap (λ es. record { request = a; reply = b } ∷ es) (exchanges_on requests replies request reply (omega (arith, same)))

one_more : {A : Type 0} (items : List A) (i : ℕ) (item : A) → i < length items → item ≡ get_or items i item → take (i + 1) items ≡ take i items ++ item ∷ []
one_more items i item within here = ap (λ n. take n items) (add-one i) ∙ take-suc items i item within ∙ ap (λ a. take i items ++ a ∷ []) (sym here)

-- a turn of a loop that answers one request after another
pub turn : (w between next : State) (lent : List Lent) (i : ℕ) (item : Lent) (replies all : List Reply) (reply : Reply) → i < length lent → item ≡ get_or lent i item → length replies ≡ i → all ≡ replies ++ reply ∷ [] → Run w (exchanges (map request_of (take i lent)) replies) between → Step between (request_of item) reply next → Run w (exchanges (map request_of (take (i + 1) lent)) all) next
turn w between next lent i item replies all reply within here same more run step =
    let asked : map request_of (take (i + 1) lent) ≡ map request_of (take i lent) ++ request_of item ∷ [] =
    ap (map request_of) (one_more lent i item within here) ∙ map-append request_of (take i lent) (item ∷ []) in
    let as_many : length replies ≡ length (map request_of (take i lent)) =
    same ∙ sym (length-map (take i lent) request_of ∙ length-take-le i lent (omega (arith, within))) in
    let grown : exchanges (map request_of (take (i + 1) lent)) all ≡ exchanges (map request_of (take i lent)) replies ++ record { request = request_of item; reply = reply } ∷ [] =
    ap (λ requests. exchanges requests all) asked ∙ ap (exchanges (map request_of (take i lent) ++ request_of item ∷ [])) more
    ∙ exchanges_on (map request_of (take i lent)) replies (request_of item) reply as_many in
    subst (λ history. Run w history next) (sym grown)
    (run_on w between next (exchanges (map request_of (take i lent)) replies) (record { request = request_of item; reply = reply }) run step)

-- all requests are answered
pub finished : (w next : State) (lent : List Lent) (i : ℕ) (replies : List Reply) → i ≤ length lent → length lent ≤ i → Run w (exchanges (map request_of (take i lent)) replies) next → Run w (exchanges (map request_of lent) replies) next
finished w next lent i replies below above run =
    let all : take i lent ≡ lent = ap (λ n. take n lent) (let e : i ≡ length lent = omega (arith, below, above) in e) ∙ take-length lent in
    subst (λ ls. Run w (exchanges (map request_of ls) replies) next) all run
