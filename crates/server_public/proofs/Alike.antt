-- The public documents depend on the publications, and among these on the policies that are meant for everyone alone.
use Rattle.std.proofs.Common.{◌≡◌, ◌++◌, ◌∷◌, ◌==◌, ◌||◌, [], List, ℕ, Bool, true, false, cond, codes, filter, length, map, max, if◌then◌else◌, unwrap_or, Option, Some, Result, Err, refl, sym, ap, ◌∙◌}
use Rattle.std.specs.List.{list_any}
use Rattle.std.specs.Option.{option_map_or}
use Rattle.std.proofs.lemmas.List.Elements.{filter-append}
use Rattle.http_header.specs.FieldValue.{FieldValue}
use Rattle.http_header.specs.HeaderMap.{get_all}
use Rattle.http_uri.specs.Uri.{uri_query}
use Rattle.http.specs.declared.request.Parts.{Parts}
use Rattle.mds_catalog.specs.Publication.{Publication, Published, dated, is_among, published_geographies, published_policies}
use Rattle.mds_desk.specs.Room.{RoomState}
use Rattle.mds_policy.specs.Policy.{Policy}
use Rattle.mds_policy.specs.Served as policy
use Rattle.mds_text.specs.Printed.{printed}
use Rattle.server_public.specs.AcceptField.{line_takes}
use Rattle.server_public.specs.Answer.{found, reads}
use Rattle.server_public.specs.Documents.{Face, Notice, face_of, geography_notice, is_public, last, names, policy_notice, public_policies, touched}
use Rattle.server_public.specs.Withdrawal.{earlier, ended_at, ends, withdrawn_from}
use Rattle.server_routes.specs.declared.public_target.PublicTarget.{PublicTarget}
use Rattle.server_public.specs.declared.refusal.Refusal.{Refusal}
use Rattle.server_public.specs.declared.refusal.Refusal.TheVariants.{Method, NotAcceptable}
use Rattle.server_public.specs.Laws.{for_everyone}
use Rattle.server_public.specs.Response.{query_of}
use Rattle.server_public.specs.CachedDocuments.{answer_to}

-- these lines of `accept` accept the response
abbrev takes : List FieldValue → Bool
takes lines = (length lines == 0) || list_any (λ line. line_takes line.bytes) lines

abbrev told : List Publication → PublicTarget → List ℕ → List ℕ → List FieldValue → Result (List ℕ) Refusal
told publications asked method query lines =
    if reads method then (if takes lines then found (face_of publications) asked query else Err NotAcceptable) else Err Method

pub everyone_alike : (one other : RoomState) (asked : PublicTarget) (here there : Parts)
    → one.publications ≡ other.publications → here.method ≡ there.method → here.uri ≡ there.uri
    → get_all here.headers (codes "accept") ≡ get_all there.headers (codes "accept")
    → answer_to one.publications asked here ≡ answer_to other.publications asked there
everyone_alike one other asked here there publications method uri accept =
    let lines = get_all here.headers (codes "accept") in
    ap (λ p. told p asked here.method (query_of here) lines) publications
    ∙ (ap (λ m. told other.publications asked m (query_of here) lines) method
    ∙ (ap (λ u. told other.publications asked there.method (unwrap_or (uri_query u) []) lines) uri
    ∙ ap (told other.publications asked there.method (query_of there)) accept))

-- functions with the same values map to the same list
map_alike : {A B : Type 0} (f g : A → B) (xs : List A) → ((x : A) → f x ≡ g x) → map f xs ≡ map g xs
map_alike f g [] alike = refl
map_alike f g (x ∷ xs) alike = ap (λ y. y ∷ map f xs) (alike x) ∙ ap (λ ys. g x ∷ ys) (map_alike f g xs alike)

abbrev is_for_all : Policy → Bool
is_for_all policy = length policy.providers == 0

abbrev kept_of : ℕ → List Policy → List (Published Policy)
kept_of moment ps = filter is_public (map (dated moment) ps)

-- one more policy before others
one_more : (moment : ℕ) (p : Policy) (rest ps : List Policy) (b : Bool) → is_for_all p ≡ b → kept_of moment rest ≡ kept_of moment ps
    → kept_of moment (cond b (p ∷ rest) rest) ≡ cond b (dated moment p ∷ kept_of moment ps) (kept_of moment ps)
one_more moment p rest ps true is alike = ap (λ b. cond b (dated moment p ∷ kept_of moment rest) (kept_of moment rest)) is ∙ ap (λ xs. dated moment p ∷ xs) alike
one_more moment p rest ps false is alike = alike

-- the same of policies of one moment
dated_alike : (moment : ℕ) (ps : List Policy) → kept_of moment (filter is_for_all ps) ≡ kept_of moment ps
dated_alike moment [] = refl
dated_alike moment (p ∷ ps) = one_more moment p (filter is_for_all ps) ps (is_for_all p) refl (dated_alike moment ps)

policies_alike : (ps : List Publication) → public_policies (map for_everyone ps) ≡ public_policies ps
policies_alike [] = refl
policies_alike (p ∷ ps) =
    let own = map (dated p.moment) p.policies in
    let fewer = map (dated p.moment) (filter is_for_all p.policies) in
    filter-append is_public fewer (published_policies (map for_everyone ps))
    ∙ (ap (λ xs. xs ++ public_policies (map for_everyone ps)) (dated_alike p.moment p.policies)
    ∙ (ap (λ xs. filter is_public own ++ xs) (policies_alike ps) ∙ sym (filter-append is_public own (published_policies ps))))

geographies_alike : (ps : List Publication) → published_geographies (map for_everyone ps) ≡ published_geographies ps
geographies_alike [] = refl
geographies_alike (p ∷ ps) = ap (λ gs. map (dated p.moment) p.geographies ++ gs) (geographies_alike ps)

withdrawn_alike : (ps : List Publication) (id : List ℕ) → withdrawn_from (map for_everyone ps) id ≡ withdrawn_from ps id
withdrawn_alike [] id = refl
withdrawn_alike (p ∷ ps) id = ap (λ w. cond (is_among p.withdrawn id) (Some (earlier p.moment w)) w) (withdrawn_alike ps id)

-- a policy's public document, by when it is withdrawn
abbrev notice_by : Published Policy → Option ℕ → Notice
notice_by p withdrawn =
    record {
      id = p.document.id;
      start = p.document.start;
      end = ends withdrawn p.document.end;
      text = printed (ended_at withdrawn p.document.end (policy.served p.document (Some p.moment)));
    }

-- when it was published or withdrawn last, by when it is withdrawn
abbrev touched_by : Published Policy → Option ℕ → ℕ
touched_by p withdrawn = option_map_or (max p.moment) withdrawn p.moment

abbrev face_from : List Notice → List Notice → ℕ → Face
face_from policies geographies updated = record { policies = policies; geographies = geographies; updated = updated }

pub face_alike : (ps : List Publication) → face_of (map for_everyone ps) ≡ face_of ps
face_alike ps =
    let fewer = map for_everyone ps in
    let notices =
    map_alike (policy_notice fewer) (policy_notice ps) (public_policies fewer) (λ p. ap (notice_by p) (withdrawn_alike ps p.document.id))
    ∙ ap (map (policy_notice ps)) (policies_alike ps)
    in
    let named =
    ap (λ x. map geography_notice (filter (λ g. list_any (names g.document.id) (public_policies fewer)) x)) (geographies_alike ps)
    ∙ ap (λ x. map geography_notice (filter (λ g. list_any (names g.document.id) x) (published_geographies ps))) (policies_alike ps)
    in
    let moments =
    map_alike (touched fewer) (touched ps) (public_policies fewer) (λ p. ap (touched_by p) (withdrawn_alike ps p.document.id))
    ∙ ap (map (touched ps)) (policies_alike ps)
    in
    ap (λ x. face_from x (face_of fewer).geographies (face_of fewer).updated) notices
    ∙ (ap (λ x. face_from (face_of ps).policies x (face_of fewer).updated) named ∙ ap (λ x. face_from (face_of ps).policies (face_of ps).geographies (last 0 x)) moments)
