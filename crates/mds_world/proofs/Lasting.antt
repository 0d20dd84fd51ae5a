-- What a row matches of a published policy doesn't change as more is published.
use mathlib.Core.List.{IsPrefix}
use Rattle.std.proofs.Common.{◌≡◌, ℕ, Bool, true, false, cond, ◌&&◌, ◌||◌, List, [], ◌∷◌, ◌++◌, map, find, bytes_eq, Option, Some, None, option_map, refl, sym, ap, subst, ◌∙◌}
use Rattle.std.specs.List.{All, list_all}
use Rattle.std.specs.Option.{is_some, option_map_or}
use Rattle.std.proofs.lemmas.Bool.{false≢true, and_parts, and_from}
use Rattle.std.proofs.lemmas.Grind.{flat_map-append}
use Rattle.std.proofs.lemmas.List.Elements.{All-weaker}
use Rattle.mds_geometry.specs.Area.{area_holds}
use Rattle.mds_geometry.specs.declared.position.Position.{Position}
use Rattle.mds_geography.specs.Geography.{Geography}
use Rattle.mds_policy.specs.Policy.{Policy, Rule}
use Rattle.mds_match.specs.Matching.{in_place, is_evaluated}
use Rattle.mds_match.specs.Resolved.{is_meant}
use Rattle.mds_match.specs.Row.{Row}
use Rattle.mds_bitmaps.specs.Masks.{matches}
use Rattle.mds_bitmaps.specs.Index as kept
use Rattle.mds_bitmaps.specs.Index.{Grows, IsPublished}
use Rattle.mds_bitmaps.proofs.Keeping.{grown}
use Rattle.mds_fleet.specs.Fleet.{Fits, Fleet}
use Rattle.mds_catalog.specs.Publication.{Publication, Published, dated, extended, find_geography, find_policy, is_geography_published, is_lawful, published_area, published_geographies, published_policies}
use Rattle.mds_catalog.proofs.Found.{find_early}
use Rattle.mds_world.specs.Lasting.{IsOfItsId, is_placed, lasting_in}

-- a policy is the published one with its identifier, and its geographies are published
pub is_published : (publications : List Publication) (policy : Policy) → IsOfItsId publications policy → is_placed publications policy ≡ true
    → IsPublished (lasting_in publications) policy (published_area publications)
is_published publications policy own placed = by (find_policy publications policy.id) own
  where
    by : (found : Option (Published Policy)) → option_map (λ p. p.document) found ≡ Some policy
        → (option_map_or (λ p. is_placed publications p.document) found false ≡ true)
        × ((row : Row) → option_map_or (λ p. map (matches (published_area publications) row) p.document.rules) found [] ≡ map (matches (published_area publications) row) policy.rules)
    by None own = absurd (cc)
    by (Some p) own =
        let same : p.document ≡ policy = cc in
        (ap (is_placed publications) same ∙ placed, λ row. ap (λ (d : Policy). map (matches (published_area publications) row) d.rules) same)

-- which rules of a policy that may be found a row matches
abbrev bits_of : List Publication → Row → Option (Published Policy) → List Bool
bits_of all row found = option_map_or (λ p. map (matches (published_area all) row) p.document.rules) found []

module _ (publications rest : List Publication) where
  abbrev more : List Publication
  more = publications ++ rest

  policy_stays : (id : List ℕ) (p : Published Policy) → find_policy publications id ≡ Some p → find_policy more id ≡ Some p
  policy_stays id p is =
      ap (λ all. find (λ q. bytes_eq q.document.id id) all) (flat_map-append (λ q. map (dated q.moment) q.policies) publications rest)
      ∙ find_early (λ q. bytes_eq q.document.id id) (published_policies publications) (published_policies rest) p is

  geography_stays : (id : List ℕ) (g : Published Geography) → find_geography publications id ≡ Some g → find_geography more id ≡ Some g
  geography_stays id g is =
      ap (λ all. find (λ q. bytes_eq q.document.id id) all) (flat_map-append (λ q. map (dated q.moment) q.geographies) publications rest)
      ∙ find_early (λ q. bytes_eq q.document.id id) (published_geographies publications) (published_geographies rest) g is

  -- a published area doesn't change
  area_stays : (id : List ℕ) → is_geography_published publications id ≡ true → (is_geography_published more id ≡ true) × (published_area more id ≡ published_area publications id)
  area_stays id there = by (find_geography publications id) refl there
    where
      by : (found : Option (Published Geography)) → find_geography publications id ≡ found → is_some found ≡ true
          → (is_geography_published more id ≡ true) × (published_area more id ≡ published_area publications id)
      by None is there = absurd (false≢true there)
      by (Some g) is there =
          let stays = geography_stays id g is in
          (ap is_some stays, ap (λ o. option_map_or (λ q. q.document.polygons) o []) (stays ∙ sym is))

  -- further publications don't change which positions published geographies hold
  places_stay : (ids : List (List ℕ)) → list_all (is_geography_published publications) ids ≡ true
      → (list_all (is_geography_published more) ids ≡ true) × ((position : Position) → in_place ids (published_area more) position ≡ in_place ids (published_area publications) position)
  places_stay [] h = (refl, λ position. refl)
  places_stay (id ∷ ids) h =
      let parts = and_parts (is_geography_published publications id) (list_all (is_geography_published publications) ids) h in
      let here = area_stays id parts.0 in
      let there = places_stay ids parts.1 in (
        and_from _ _ here.0 there.0,
        λ position. ap (λ polygons. area_holds polygons position || in_place ids (published_area more) position) here.1 ∙ ap (λ b. area_holds (published_area publications id) position || b) (there.1 position),
      )

  -- so a row matches the same rules
  rules_stay : (rules : List Rule) → list_all (λ rule. list_all (is_geography_published publications) rule.geographies) rules ≡ true
      → (list_all (λ rule. list_all (is_geography_published more) rule.geographies) rules ≡ true) × ((row : Row) → map (matches (published_area more) row) rules ≡ map (matches (published_area publications) row) rules)
  rules_stay [] h = (refl, λ row. refl)
  rules_stay (rule ∷ rules) h =
      let parts = and_parts (list_all (is_geography_published publications) rule.geographies) (list_all (λ r. list_all (is_geography_published publications) r.geographies) rules) h in
      let here = places_stay rule.geographies parts.0 in
      let there = rules_stay rules parts.1 in (
        and_from _ _ here.0 there.0,
        λ row. ap (λ b. (is_evaluated rule.kind && b && is_meant rule row) ∷ map (matches (published_area more) row) rules) (here.1 row.position) ∙ ap (λ bits. matches (published_area publications) row rule ∷ bits) (there.1 row),
      )

  pub grows : Grows (lasting_in publications) (lasting_in more)
  grows id lasts = by (find_policy publications id) refl lasts
    where
      by : (found : Option (Published Policy)) → find_policy publications id ≡ found → option_map_or (λ p. is_placed publications p.document) found false ≡ true
          → ((lasting_in more).lasting id ≡ true) × ((row : Row) → (lasting_in more).bits id row ≡ (lasting_in publications).bits id row)
      by None is placed = absurd (false≢true placed)
      by (Some p) is placed =
          let stays = policy_stays id p is in
          let rules = rules_stay p.document.rules placed in (
            ap (λ o. option_map_or (λ q. is_placed more q.document) o false) stays ∙ rules.0,
            λ row. ap (bits_of more row) stays ∙ rules.1 row ∙ sym (ap (bits_of publications row) is),
          )

-- one more publication, where it is lawful
pub grows_extended : (publications : List Publication) (p : Publication) → Grows (lasting_in publications) (lasting_in (extended publications p))
grows_extended publications p = by (is_lawful publications p)
  where
    by : (b : Bool) → Grows (lasting_in publications) (lasting_in (cond b (publications ++ p ∷ []) publications))
    by true = grows publications (p ∷ [])
    by false = λ id lasts. (lasts, λ row. refl)

-- the index of a book stays right as more is published
pub fits_grown : (published more : kept.Published) (book : Fleet) → Grows published more → Fits published book → Fits more book
fits_grown published more book grow fits vehicles ordered same = grown published more vehicles book.kept grow (fits vehicles ordered same)

pub all_fit_grown : (publications : List Publication) (p : Publication) (books : List Fleet) → All (Fits (lasting_in publications)) books
    → All (Fits (lasting_in (extended publications p))) books
all_fit_grown publications p books fit =
    All-weaker (Fits (lasting_in publications)) (Fits (lasting_in (extended publications p))) (λ book. fits_grown (lasting_in publications) (lasting_in (extended publications p)) book (grows_extended publications p)) books fit

-- the index of a book stays right for publications that continue those it was right for
pub fits_front : (known front : List Publication) (book : Fleet) → IsPrefix known front → Fits (lasting_in known) book → Fits (lasting_in front) book
fits_front known front book goes_on fits =
    subst (λ ps. Fits (lasting_in ps) book) goes_on.1 (fits_grown (lasting_in known) (lasting_in (known ++ goes_on.0)) book (grows known goes_on.0) fits)
