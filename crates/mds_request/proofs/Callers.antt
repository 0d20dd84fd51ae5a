-- Which client makes a call.
use Rattle.std.proofs.Common.{◌≡◌, ◌≤◌, ℕ, Bool, true, false, cond, List, [], ◌∷◌, length, nat_lt, refl, sym, ap, Option, Some, None, option_map, Result, Ok, Err}
use Rattle.std.proofs.lemmas.Bool.{ltb-false}
use Rattle.mds_request.specs.Call.{Row, made, call_with, id_in, is_verb, call_among, rows_at, called_at, segments_of, call_of}
use Rattle.mds_request.specs.Configuration.{Configuration, actor_of}
use Rattle.mds_request.specs.Request.{Request}
use Rattle.mds_request.specs.declared.call.AuthorCall.{AuthorCall}
use Rattle.mds_request.specs.declared.call.OperatorCall.{OperatorCall}
use Rattle.mds_request.specs.declared.call.Call.{Call}
use Rattle.mds_request.specs.declared.call.Call.TheVariants as call
use Rattle.mds_request.specs.declared.call.TheConstants.{MOST_BODY}
use Rattle.mds_request.specs.declared.code.Code.{Code}
use Rattle.mds_request.specs.declared.code.Code.TheVariants.{NoRoute, Method}
use Rattle.mds_request.specs.declared.config.Actor.{Actor}
use Rattle.mds_request.specs.declared.config.Actor.TheVariants.{Author, Operator, Nobody}
use Rattle.mds_request.specs.declared.request.Verb.{Verb}

-- the client that makes a call
abbrev pub caller : Call → Actor
caller (call.Author what) = Author
caller (call.Operator place what) = Operator place

taken : (x y : Call) → ◌≡◌ {A = Result Call Code} (Ok x) (Ok y) → x ≡ y
taken x y e = cc

author_with : (make : Option (List ℕ → AuthorCall)) (i : Option (List ℕ)) (given : Call) → call_with (option_map (λ f. λ j. call.Author (f j)) make) i ≡ Ok given → caller given ≡ Author
author_with None i given e = cc
author_with (Some f) None given e = cc
author_with (Some f) (Some j) given e = ap caller (sym (taken (call.Author (f j)) given e))

operator_with : (place : ℕ) (make : Option (List ℕ → OperatorCall)) (i : Option (List ℕ)) (given : Call) → call_with (option_map (λ f. λ j. call.Operator place (f j)) make) i ≡ Ok given → caller given ≡ Operator place
operator_with place None i given e = cc
operator_with place (Some f) None given e = cc
operator_with place (Some f) (Some j) given e = ap caller (sym (taken (call.Operator place (f j)) given e))

call_with_caller : (actor : Actor) (row : Row) (i : Option (List ℕ)) (given : Call) → call_with (made actor row) i ≡ Ok given → caller given ≡ actor
call_with_caller Author row i given e = author_with row.author i given e
call_with_caller (Operator place) row i given e = operator_with place row.operator i given e
call_with_caller Nobody row i given e = cc

here_or_later : (actor : Actor) (here later : Result Call Code) (given : Call) (found : Bool) → (here ≡ Ok given → caller given ≡ actor) → (later ≡ Ok given → caller given ≡ actor) → cond found here later ≡ Ok given → caller given ≡ actor
here_or_later actor here later given true h l e = h e
here_or_later actor here later given false h l e = l e

call_among_caller : (actor : Actor) (verb : Verb) (segments : List (List ℕ)) (refusal : Code) (rows : List Row) (given : Call) → call_among actor verb segments refusal rows ≡ Ok given → caller given ≡ actor
call_among_caller actor verb segments refusal [] given e = cc
call_among_caller actor verb segments refusal (row ∷ rows) given e =
    here_or_later actor _ _ given (is_verb verb row.verb) (call_with_caller actor row (id_in row.path segments) given) (call_among_caller actor verb segments Method rows given) e

called_at_caller : (actor : Actor) (verb : Verb) (segments : List (List ℕ)) (given : Call) → called_at actor verb segments ≡ Ok given → caller given ≡ actor
called_at_caller Author verb segments given e = call_among_caller Author verb segments NoRoute (rows_at segments) given e
called_at_caller (Operator place) verb segments given e =
    call_among_caller (Operator place) verb segments NoRoute (rows_at segments) given e
called_at_caller Nobody verb segments given e = cc

not_refused : (refused : Bool) (code : Code) (answer : Result Call Code) (given : Call) → cond refused (Err code) answer ≡ Ok given → (refused ≡ false) × (answer ≡ Ok given)
not_refused true code answer given e = cc
not_refused false code answer given e = (refl, e)

module _ (c : Configuration) (r : Request) where
  -- a call is made by the client whose token the request has
  pub call_of-caller : (given : Call) → call_of c r ≡ Ok given → actor_of c r.token ≡ caller given
  call_of-caller given e =
      sym (called_at_caller (actor_of c r.token) r.verb (segments_of r.target) given (not_refused (nat_lt MOST_BODY (length r.body)) _ _ given e).1)

  -- the body of a call isn't too large
  pub call_of-body : (given : Call) → call_of c r ≡ Ok given → length r.body ≤ MOST_BODY
  call_of-body given e = ltb-false _ _ (not_refused (nat_lt MOST_BODY (length r.body)) _ _ given e).0

  pub author_asks : (what : AuthorCall) → call_of c r ≡ Ok (call.Author what) → actor_of c r.token ≡ Author
  author_asks what e = call_of-caller (call.Author what) e

  pub operator_asks : (place : ℕ) (what : OperatorCall) → call_of c r ≡ Ok (call.Operator place what) → actor_of c r.token ≡ Operator place
  operator_asks place what e = call_of-caller (call.Operator place what) e

  -- an operator's token makes no call of the author, and none of another operator
  pub never_author : (place : ℕ) (what : AuthorCall) → actor_of c r.token ≡ Operator place → call_of c r ≡ Ok (call.Author what) → ⊥
  never_author place what a e = let h = author_asks what e in cc

  pub same_operator : (place other : ℕ) (what : OperatorCall) → actor_of c r.token ≡ Operator place → call_of c r ≡ Ok (call.Operator other what) → other ≡ place
  same_operator place other what a e = let h = operator_asks other what e in cc

  -- the author's token makes no call of an operator
  pub never_operator : (place : ℕ) (what : OperatorCall) → actor_of c r.token ≡ Author → call_of c r ≡ Ok (call.Operator place what) → ⊥
  never_operator place what a e = let h = operator_asks place what e in cc
