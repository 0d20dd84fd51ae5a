-- Codes of documents and publications, which proofs use to tell their values apart: each value is encoded as a tree of
-- numbers, from which it can be decoded.
use Rattle.std.specs.Prelude.{ℕ, zero, suc, ℤ, Bool, true, false, ◌≡◌, List, [], ◌∷◌, Option, refl}
use Rattle.std.proofs.Common.{ap}
use Rattle.std.specs.Coded.{Coded, code_by, coded×, coded_ℕ, coded_ℤ, coded_bool, coded_list, coded_option}
use denote.Struct.Codes.{itself}
use base.Stored.{Gv, gnil, gnum, gcons}
use lib.IntN.{pos, negsuc}
use Rattle.mds_geometry.specs.declared.position.Position.{Position}
use Rattle.mds_geography.specs.Geography.{Geography}
use Rattle.mds_policy.specs.declared.rule.Kind.{Kind}
use Rattle.mds_policy.specs.declared.rule.Kind.TheVariants.{Count, Time, Other}
use Rattle.mds_policy.specs.declared.rule.TimeUnit.TheVariants.{Seconds, Minutes, Hours, Days}
use Rattle.mds_policy.specs.declared.rule.Bounds.{Bounds}
use Rattle.mds_policy.specs.declared.rule.Window.{Window}
use Rattle.mds_policy.specs.Policy.{States, Rule, Policy}
use Rattle.mds_catalog.specs.Publication.{Publication}
use Rattle.mds_text.specs.Tree.{Json, null, boolean, int, text, degrees, list, object, Items, no_items, item, Members, no_members, member}

abbrev bool_to : Bool → Gv
bool_to false = gnil
bool_to true = gnum 0

abbrev bool_from : Gv → Bool
bool_from gnil = false
bool_from g = true

abbrev whole_to : ℤ → Gv
whole_to (pos n) = gnum n
whole_to (negsuc n) = gcons (gnum n) gnil

abbrev whole_from : Gv → ℤ
whole_from (gcons (gnum n) g) = negsuc n
whole_from (gnum n) = pos n
whole_from g = pos 0

abbrev word_to : List ℕ → Gv
word_to [] = gnil
word_to (n ∷ ns) = gcons (gnum n) (word_to ns)

abbrev word_from : Gv → List ℕ
word_from (gcons (gnum n) g) = n ∷ word_from g
word_from g = []

abbrev mutual
  json_to : Json → Gv
  json_to null = gnil
  json_to (boolean b) = gcons (gnum 0) (bool_to b)
  json_to (int z) = gcons (gnum 1) (whole_to z)
  json_to (text s) = gcons (gnum 2) (word_to s)
  json_to (degrees z) = gcons (gnum 3) (whole_to z)
  json_to (list ts) = gcons (gnum 4) (items_to ts)
  json_to (object ms) = gcons (gnum 5) (members_to ms)

  items_to : Items → Gv
  items_to no_items = gnil
  items_to (item t ts) = gcons (json_to t) (items_to ts)

  members_to : Members → Gv
  members_to no_members = gnil
  members_to (member name t ms) = gcons (word_to name) (gcons (json_to t) (members_to ms))

abbrev mutual
  json_from : Gv → Json
  json_from (gcons (gnum zero) g) = boolean (bool_from g)
  json_from (gcons (gnum (suc zero)) g) = int (whole_from g)
  json_from (gcons (gnum (suc (suc zero))) g) = text (word_from g)
  json_from (gcons (gnum (suc (suc (suc zero)))) g) = degrees (whole_from g)
  json_from (gcons (gnum (suc (suc (suc (suc zero))))) g) = list (items_from g)
  json_from (gcons (gnum (suc (suc (suc (suc (suc zero)))))) g) = object (members_from g)
  json_from g = null

  items_from : Gv → Items
  items_from (gcons g gs) = item (json_from g) (items_from gs)
  items_from g = no_items

  members_from : Gv → Members
  members_from (gcons name (gcons g gs)) = member (word_from name) (json_from g) (members_from gs)
  members_from g = no_members

bool_back : (b : Bool) → bool_from (bool_to b) ≡ b
bool_back false = refl
bool_back true = refl

whole_back : (z : ℤ) → whole_from (whole_to z) ≡ z
whole_back (pos n) = refl
whole_back (negsuc n) = refl

word_back : (w : List ℕ) → word_from (word_to w) ≡ w
word_back [] = refl
word_back (n ∷ ns) = ap (λ w. n ∷ w) (word_back ns)

mutual
  pub json_back : (t : Json) → json_from (json_to t) ≡ t
  json_back null = refl
  json_back (boolean b) = ap boolean (bool_back b)
  json_back (int z) = ap int (whole_back z)
  json_back (text s) = ap text (word_back s)
  json_back (degrees z) = ap degrees (whole_back z)
  json_back (list ts) = ap list (items_back ts)
  json_back (object ms) = ap object (members_back ms)

  pub items_back : (ts : Items) → items_from (items_to ts) ≡ ts
  items_back no_items = refl
  items_back (item t ts) = λ i. item (json_back t i) (items_back ts i)

  pub members_back : (ms : Members) → members_from (members_to ms) ≡ ms
  members_back no_members = refl
  members_back (member name t ms) = λ i. member (word_back name i) (json_back t i) (members_back ms i)

abbrev pub coded_json : Coded Json
coded_json = code_by Gv itself json_to json_from json_back

abbrev kind_to : Kind → ℕ
kind_to Count = 0
kind_to Other = 1
kind_to (Time Seconds) = 2
kind_to (Time Minutes) = 3
kind_to (Time Hours) = 4
kind_to (Time Days) = 5

abbrev kind_from : ℕ → Kind
kind_from zero = Count
kind_from (suc zero) = Other
kind_from (suc (suc zero)) = Time Seconds
kind_from (suc (suc (suc zero))) = Time Minutes
kind_from (suc (suc (suc (suc zero)))) = Time Hours
kind_from n = Time Days

pub kind_back : (k : Kind) → kind_from (kind_to k) ≡ k
kind_back Count = refl
kind_back Other = refl
kind_back (Time Seconds) = refl
kind_back (Time Minutes) = refl
kind_back (Time Hours) = refl
kind_back (Time Days) = refl

abbrev pub coded_kind : Coded Kind
coded_kind = code_by ℕ coded_ℕ kind_to kind_from kind_back

abbrev pub coded_bounds : Coded Bounds
coded_bounds =
    code_by ((Option ℕ × Option ℕ) × (Bool × Bool)) (coded× (coded× (coded_option coded_ℕ) (coded_option coded_ℕ)) (coded× coded_bool coded_bool))
    (λ b. ((b.minimum, b.maximum), (b.inclusive_minimum, b.inclusive_maximum)))
    (λ t. record { minimum = t.0.0; maximum = t.0.1; inclusive_minimum = t.1.0; inclusive_maximum = t.1.1 })
    (λ _. refl)

abbrev pub coded_window : Coded Window
coded_window =
    code_by ((ℕ × ℕ) × List Bool) (coded× (coded× coded_ℕ coded_ℕ) (coded_list coded_bool))
    (λ w. ((w.start, w.end), w.days))
    (λ t. record { start = t.0.0; end = t.0.1; days = t.1 })
    (λ _. refl)

abbrev pub coded_word : Coded (List ℕ)
coded_word = coded_list coded_ℕ

abbrev pub coded_words : Coded (List (List ℕ))
coded_words = coded_list coded_word

abbrev pub coded_states : Coded States
coded_states =
    code_by (List ℕ × List (List ℕ)) (coded× coded_word coded_words) (λ s. (s.state, s.events)) (λ t. record { state = t.0; events = t.1 }) (λ _. refl)

abbrev pub coded_rule : Coded Rule
coded_rule =
    code_by (((List ℕ × Kind) × (List (List ℕ) × List States)) × ((List (List ℕ) × List (List ℕ)) × (Bounds × Window)))
    (coded× (coded× (coded× coded_word coded_kind) (coded× coded_words (coded_list coded_states))) (coded× (coded× coded_words coded_words) (coded× coded_bounds coded_window)))
    (λ r. (((r.id, r.kind), (r.geographies, r.states)), ((r.vehicle_types, r.propulsion_types), (r.bounds, r.window))))
    (λ t.
    record {
      id = t.0.0.0;
      kind = t.0.0.1;
      geographies = t.0.1.0;
      states = t.0.1.1;
      vehicle_types = t.1.0.0;
      propulsion_types = t.1.0.1;
      bounds = t.1.1.0;
      window = t.1.1.1;
    })
    (λ _. refl)

abbrev pub coded_policy : Coded Policy
coded_policy =
    code_by ((Json × List ℕ) × ((ℕ × Option ℕ) × ((List (List ℕ) × List (List ℕ)) × List Rule)))
    (coded× (coded× coded_json coded_word) (coded× (coded× coded_ℕ (coded_option coded_ℕ)) (coded× (coded× coded_words coded_words) (coded_list coded_rule))))
    (λ p. ((p.tree, p.id), ((p.start, p.end), ((p.providers, p.previous), p.rules))))
    (λ t. record { tree = t.0.0; id = t.0.1; start = t.1.0.0; end = t.1.0.1; providers = t.1.1.0.0; previous = t.1.1.0.1; rules = t.1.1.1 })
    (λ _. refl)

abbrev pub coded_position : Coded Position
coded_position = code_by (ℤ × ℤ) (coded× coded_ℤ coded_ℤ) (λ p. (p.lng, p.lat)) (λ t. record { lng = t.0; lat = t.1 }) (λ _. refl)

abbrev pub coded_geography : Coded Geography
coded_geography =
    code_by ((List ℕ × List ℕ) × (Option (List ℕ) × List (List (List Position))))
    (coded× (coded× coded_word coded_word) (coded× (coded_option coded_word) (coded_list (coded_list (coded_list coded_position)))))
    (λ g. ((g.id, g.name), (g.description, g.polygons)))
    (λ t. record { id = t.0.0; name = t.0.1; description = t.1.0; polygons = t.1.1 })
    (λ _. refl)

pub coded_publication : Coded Publication
coded_publication =
    code_by ((ℕ × List Geography) × (List Policy × List (List ℕ)))
    (coded× (coded× coded_ℕ (coded_list coded_geography)) (coded× (coded_list coded_policy) coded_words))
    (λ p. ((p.moment, p.geographies), (p.policies, p.withdrawn)))
    (λ t. record { moment = t.0.0; geographies = t.0.1; policies = t.1.0; withdrawn = t.1.1 })
    (λ _. refl)

pub coded_publications : Coded (List Publication)
coded_publications = coded_list coded_publication
