-- The result of a router whose routes lead where the table says.
use Rattle.std.proofs.Common.{◌≡◌, ℕ, List, [], length, codes, Option, Some, None, unwrap_or, MatchOption, ap, sym, ◌∙◌, subst}
use Rattle.std.proofs.Math.Logic.{∥∥₁_elim}
use Rattle.std.proofs.Props.{props}
use Rattle.std.specs.Str.{IsUtf8}
use denote.Ref.{Bor}
use Rattle.matchit.specs.Params.{AllText, named}
use Rattle.matchit.specs.Router.{RouteOf}
use Rattle.matchit.specs.Rows.{RowsOf}
use Rattle.matchit.specs.Seek.{first}
use Rattle.mds_request.specs.Call.{rows_at, segments_in}
use Rattle.mds_request.specs.Route.{spelled, taken, Leads, AllLead}
use Rattle.mds_request.specs.declared.routes.Route.{Route}

segments_prop : (a b : List (List ℕ)) → IsProp (a ≡ b)
segments_prop a b = hlevel props

number_prop : (a b : ℕ) → IsProp (a ≡ b)
number_prop a b = hlevel props

-- the parameter that `get` borrows, or the empty text, is the named one
got_named : (got : Option (Bor (List ℕ))) (none : Bor (List ℕ)) (wanted : Option (List ℕ)) → none.now ≡ [] → MatchOption got (wanted ≡ None) (λ v. wanted ≡ Some v.now) → unwrap_or wanted [] ≡ (unwrap_or got none).now
got_named None none wanted e h = ap (λ w. unwrap_or w []) h ∙ sym e
got_named (Some v) none wanted e h = ap (λ w. unwrap_or w []) h

pub found_route : (routes : RowsOf (RouteOf Route)) (path : List ℕ) (route : RouteOf Route) (got : Option (Bor (List ℕ))) (none : Bor (List ℕ)) (lent : List ℕ) (id : Bor (List ℕ)) → ∥ AllLead routes ∥₁ → IsUtf8 path → first routes path ≡ Some route → lent ≡ path
    → (AllText (taken route lent) → MatchOption got (named (codes "id") (taken route lent) ≡ None) (λ v. named (codes "id") (taken route lent) ≡ Some v.now)) → none.now ≡ [] → id ≡ unwrap_or got none → spelled route.value id.now ≡ segments_in path
found_route routes path route got none lent id all u f l g n e =
    ∥∥₁_elim all (segments_prop _ _)
    (λ lead.
    let here : Leads path (Some route) = subst (λ o. Leads path o) f (lead path u) in
    let given = g (subst (λ p. AllText (taken route p)) (sym l) here.0) in
    let same : unwrap_or (named (codes "id") (taken route path)) [] ≡ id.now = ap (λ p. unwrap_or (named (codes "id") (taken route p)) []) (sym l) ∙ got_named got none (named (codes "id") (taken route lent)) n given ∙ ap (λ i. i.now) (sym e) in
    ap (spelled route.value) (sym same) ∙ here.1)

pub found_none : (routes : RowsOf (RouteOf Route)) (path : List ℕ) → ∥ AllLead routes ∥₁ → IsUtf8 path → first routes path ≡ None → length (rows_at (segments_in path)) ≡ 0
found_none routes path all u f =
    ∥∥₁_elim all (number_prop _ _)
    (λ lead. let here : Leads path None = subst (λ o. Leads path o) f (lead path u) in ap length here)
