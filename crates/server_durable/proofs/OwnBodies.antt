-- The bodies of operators' own answers, one after another.
use Rattle.std.proofs.Common.{◌≡◌, ℕ, suc, ◌+◌, List, [], ◌∷◌, ◌++◌, Bool, true, cond, not, length, map, nat_lt, position, Some, None, refl, sym, ap, subst, ◌∙◌, append_assoc, arith}
use Rattle.std.specs.List.{position_or_len}
use Rattle.std.proofs.lemmas.List.{append-nil, length-map, map-append}
use Rattle.mds_text.specs.Printed.{comma_if}
use Rattle.mds_request.specs.Configuration.{Configuration}
use Rattle.mds_request.specs.Reply.{Reply, success}
use Rattle.server_app.specs.ComplianceList.{entries_text, entry_text}
use Rattle.server_app.specs.OperatorNames.{Badge}
use Rattle.server_routes.specs.declared.app.FleetView.TheVariants.{Compliance}
use Rattle.server_durable.specs.FleetViews.{AreOwnBodies, IsOwnView}

-- a search in a mapped list
position_or_len-map : {X Y : Type 0} (p : Y → Bool) (f : X → Y) (xs : List X) → position_or_len p (map f xs) ≡ position_or_len (λ x. p (f x)) xs
position_or_len-map p f [] = refl
position_or_len-map p f (x ∷ xs) = ap (λ n. cond (not (p (f x))) (1 + n) 0) (position_or_len-map p f xs)

pub position-map : {X Y : Type 0} (p : Y → Bool) (f : X → Y) (xs : List X) → position p (map f xs) ≡ position (λ x. p (f x)) xs
position-map p f xs =
    ap (λ n. cond (nat_lt (position_or_len p (map f xs)) n) (Some (position_or_len p (map f xs))) None) (length-map xs f)
    ∙ ap (λ n. cond (nat_lt n (length xs)) (Some n) None) (position_or_len-map p f xs)

pub is_success : (reply : Reply) → reply.status ≡ 200 → reply ≡ success reply.body
is_success reply is = ap (λ (s : ℕ). record { status = s; body = reply.body }) is

-- one more operator's body
pub one_more : (configuration : Configuration) (at place : ℕ) (bodies : List (List ℕ)) (body : List ℕ) → AreOwnBodies configuration at place bodies
    → IsOwnView configuration (place + length bodies) Compliance at (success body) → AreOwnBodies configuration at place (bodies ++ body ∷ [])
one_more configuration at place [] body each own =
    let here : place + 0 ≡ place = omega arith in
    (subst (λ (n : ℕ). IsOwnView configuration n Compliance at (success body)) here own, tt)
one_more configuration at place (first ∷ bodies) body each own =
    let there : place + suc (length bodies) ≡ suc place + length bodies = omega arith in (
      each.0,
      one_more configuration at (suc place) bodies body each.1
          (subst (λ (n : ℕ). IsOwnView configuration n Compliance at (success body)) there own),
    )

-- one more operator's answer, a success
pub answer_more : (configuration : Configuration) (at : ℕ) (answers after : List Reply) (answer : Reply) → after ≡ answers ++ answer ∷ []
    → answer.status ≡ 200 → IsOwnView configuration (length answers) Compliance at answer → AreOwnBodies configuration at 0 (map (λ a. a.body) answers)
    → AreOwnBodies configuration at 0 (map (λ a. a.body) after)
answer_more configuration at answers after answer more status own each =
    let body : Reply → List ℕ = λ (a : Reply). a.body in
    let here : length answers ≡ 0 + length (map body answers) = omega (arith, length-map answers body) in
    let success_is : IsOwnView configuration (length answers) Compliance at (success answer.body) =
    subst (λ (reply : Reply). IsOwnView configuration (length answers) Compliance at reply) (is_success answer status) own in
    let all : map body answers ++ answer.body ∷ [] ≡ map body after = sym (ap (map body) more ∙ map-append body answers (answer ∷ [])) in
    subst (λ (bodies : List (List ℕ)). AreOwnBodies configuration at 0 bodies) all
    (one_more configuration at 0 (map body answers) answer.body each (subst (λ (n : ℕ). IsOwnView configuration n Compliance at (success answer.body)) here success_is))

pieces : (text a b c : List ℕ) → ((text ++ a) ++ b) ++ c ≡ text ++ ((a ++ b) ++ c)
pieces text a b c = simp append_assoc refl

-- an entry is written, and the others are still to be
pub entry_next : (later : Bool) (body : List ℕ) (bodies : List (List ℕ)) (badge : Badge) (badges : List Badge) (text now all : List ℕ)
    → now ≡ text ++ comma_if later ++ entry_text body badge → text ++ entries_text later (body ∷ bodies) (badge ∷ badges) ≡ all
    → now ++ entries_text true bodies badges ≡ all
entry_next later body bodies badge badges text now all more is =
    let rest = entries_text true bodies badges in
    ap (λ (t : List ℕ). t ++ rest) more ∙ pieces text (comma_if later) (entry_text body badge) rest ∙ is

-- where an answer or an operator is missing all are written
pub no_answer : (later : Bool) (badges : List Badge) (text all : List ℕ) → text ++ entries_text later [] badges ≡ all → text ≡ all
no_answer later badges text all is = sym (append-nil text) ∙ is

pub no_operator : (later : Bool) (bodies : List (List ℕ)) (text all : List ℕ) → text ++ entries_text later bodies [] ≡ all → text ≡ all
no_operator later [] text all is = sym (append-nil text) ∙ is
no_operator later (body ∷ bodies) text all is = sym (append-nil text) ∙ is
