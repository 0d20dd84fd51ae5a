-- The books of a machine: one for each operator; a call changes one of them.
use Rattle.std.proofs.Common.{◌≡◌, ℕ, ◌<◌, List, [], map, set, length, get_or, Option, Some, None, Result, Ok, refl, ap, sym, subst, ◌∙◌}
use Rattle.std.specs.Option.{option_map, IfSome}
use Rattle.std.specs.List.{slice_get}
use Rattle.std.specs.FinMap.{FinMap, empty}
use Rattle.std.proofs.lemmas.List.{map-set, length-map}
use Rattle.std.proofs.Math.Seq.{map-set_same}
use Rattle.std.proofs.lemmas.Option.{slice_get-map, slice_get_read}
use Rattle.mds_policy.specs.Policy.{Policy}
use Rattle.mds_geography.specs.Geography.{Geography}
use Rattle.mds_fleet.specs.Books.{Rows}
use Rattle.mds_fleet.specs.Fleet.{Fleet}
use Rattle.mds_catalog.specs.Publication.{Publication}
use Rattle.mds_drafts.specs.Drafts.{Drafts, id_cmp}
use Rattle.mds_request.specs.Configuration.{Configuration, Operator}
use Rattle.mds_request.specs.Request.{Request}
use Rattle.mds_request.specs.Reply.{Reply}
use Rattle.mds_request.specs.declared.call.OperatorCall.{OperatorCall}
use Rattle.mds_request.specs.declared.call.Call.TheVariants.{Operator as OperatorAt}
use Rattle.mds_machine.specs.Answer.{Gives, or_code, ◌>>=◌}
use Rattle.mds_machine.specs.Operator.{operator_does}
use Rattle.mds_machine.specs.Step.{State, call_does, with_rows, new_state}
use Rattle.mds_request.specs.declared.code.Code.{Code}
use Rattle.mds_request.specs.declared.code.Code.TheVariants.{Token}
use Rattle.mds_world.proofs.Settled.{lifted}

abbrev limit_of : Fleet → ℕ
limit_of book = book.limit

abbrev rows_of : Fleet → Rows
rows_of book = book.rows

abbrev allowed : Operator → ℕ
allowed operator = operator.limit

-- there are as many books as operators
pub as_many : (books : List Fleet) (operators : List Operator) → map limit_of books ≡ map allowed operators → length books ≡ length operators
as_many books operators limits = sym (length-map books limit_of) ∙ ap length limits ∙ length-map operators allowed

-- a book's limit is its operator's
pub limit_at : (books : List Fleet) (operators : List Operator) (place : ℕ) (book : Fleet) → map limit_of books ≡ map allowed operators → place < length books → book ≡ get_or books place book → Some book.limit ≡ option_map allowed (slice_get operators place)
limit_at books operators place book limits within here =
    sym (ap (option_map limit_of) (slice_get_read books (length books) place book refl within here))
    ∙ sym (slice_get-map limit_of books place)
    ∙ ap (λ xs. slice_get xs place) limits
    ∙ slice_get-map allowed operators place

-- a call keeps the limits
pub limits_kept : (books : List Fleet) (operators : List Operator) (place : ℕ) (book new : Fleet) → map limit_of books ≡ map allowed operators → book ≡ get_or books place book → new.limit ≡ book.limit → map limit_of (set books place new) ≡ map allowed operators
limits_kept books operators place book new limits here same =
    map-set_same limit_of books place new book (same ∙ ap limit_of here) ∙ limits

-- an operator's call, where these are the operator and its rows
abbrev own_does : State → ℕ → Option Operator → Option Rows → OperatorCall → Request → Result (Reply × State) Code
own_does w place operator found call request = do
  o ← or_code Token operator
  rows ← or_code Token found
  after ← operator_does w.configuration.zone o w.publications rows call request
  Ok (after.0, with_rows w place after.1)

-- what an operator's call does to its rows, it does to the state
own : (w : State) (place : ℕ) (operator : Option Operator) (found : Option Rows) (rows new : Rows) (limit : ℕ) (call : OperatorCall) (request : Request) (reply : Reply) → Some limit ≡ option_map allowed operator → found ≡ Some rows → with_rows w place rows ≡ w → IfSome operator (λ o. Gives (Unit {0}) rows (operator_does w.configuration.zone o w.publications rows call request) reply new) → Gives (Unit {0}) w (own_does w place operator found call request) reply (with_rows w place new)
own w place None found rows new limit call request reply there held same h = absurd (cc)
own w place (Some o) None rows new limit call request reply there held same h = absurd (cc)
own w place (Some o) (Some r) rows new limit call request reply there held same h =
    subst (λ rs. Gives (Unit {0}) w (own_does w place (Some o) rs call request) reply (with_rows w place new)) (sym held)
    (lifted (with_rows w place) rows new w (operator_does w.configuration.zone o w.publications rows call request) reply same h)

-- a call of an operator is a call of the machine
pub comes : (configuration : Configuration) (publications : List Publication) (drafts : Drafts) (books : List Fleet) (place : ℕ) (book new : Fleet) (call : OperatorCall) (request : Request) (reply : Reply) → place < length books → book ≡ get_or books place book → IfSome (slice_get configuration.operators place) (λ o. Gives (Unit {0}) book.rows (operator_does configuration.zone o publications book.rows call request) reply new.rows) → map limit_of books ≡ map allowed configuration.operators → Gives (Unit {0}) (record { configuration = configuration; publications = publications; drafts = drafts; fleets = map rows_of books }) (call_does (record { configuration = configuration; publications = publications; drafts = drafts; fleets = map rows_of books }) (OperatorAt place call) request) reply (record { configuration = configuration; publications = publications; drafts = drafts; fleets = map rows_of (set books place new) })
comes configuration publications drafts books place book new call request reply within here answer limits =
    let w : State = record { configuration = configuration; publications = publications; drafts = drafts; fleets = map rows_of books } in
    let held : slice_get (map rows_of books) place ≡ Some book.rows =
    slice_get-map rows_of books place ∙ ap (option_map rows_of) (slice_get_read books (length books) place book refl within here) in
    let same : set (map rows_of books) place book.rows ≡ map rows_of books =
    sym (map-set rows_of books place book) ∙ map-set_same rows_of books place book book (ap rows_of here) in
    subst (λ fleets. Gives (Unit {0}) w (call_does w (OperatorAt place call) request) reply (record { configuration = configuration; publications = publications; drafts = drafts; fleets = fleets }))
    (sym (map-set rows_of books place new))
    (own w place (slice_get configuration.operators place) (slice_get (map rows_of books) place) book.rows new.rows book.limit call request reply
    (limit_at books configuration.operators place book limits within here) held (ap (λ fleets. record { configuration = configuration; publications = publications; drafts = drafts; fleets = fleets }) same) answer)

-- a machine without publications, drafts or rows
pub new_is : (configuration : Configuration) (publications : List Publication) (policies : FinMap id_cmp Policy) (geographies : FinMap id_cmp Geography) (fleets : List Rows) → publications ≡ [] → policies ≡ empty → geographies ≡ empty → fleets ≡ map (λ operator. empty) configuration.operators → record { configuration = configuration; publications = publications; drafts = record { policies = policies; geographies = geographies }; fleets = fleets } ≡ new_state configuration
new_is configuration publications policies geographies fleets p q r s =
    ap (λ x. record { configuration = configuration; publications = x; drafts = record { policies = policies; geographies = geographies }; fleets = fleets }) p
    ∙ ap (λ x. record { configuration = configuration; publications = []; drafts = record { policies = x; geographies = geographies }; fleets = fleets }) q
    ∙ ap (λ x. record { configuration = configuration; publications = []; drafts = record { policies = empty; geographies = x }; fleets = fleets }) r
    ∙ ap (λ x. record { configuration = configuration; publications = []; drafts = record { policies = empty; geographies = empty }; fleets = x }) s
