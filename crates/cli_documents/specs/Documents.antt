-- What the documents of a file become (MDS 2.0 Policy and Geography).
use Rattle.std.specs.Prelude.{ℕ, List, [], ◌∷◌, ◌++◌, map, take, bytes_eq, Bool, false, not, ◌||◌, is_some, if◌then◌else◌, Option, Some, None, option_and_then, codes}
use Rattle.std.specs.List.{filter_map}
use Rattle.sha1.specs.Sha1.{sha1}
use Rattle.uuid.specs.Parts.{with_version, with_variant}
use Rattle.uuid.specs.Text.{hyphenated_text, lower}
use Rattle.uuid.specs.declared.Variant.TheVariants.{RFC4122}
use Rattle.uuid.specs.declared.Version.TheVariants.{Sha1}
use Rattle.mds_text.specs.Printed.{printed}
use Rattle.mds_text.specs.Quoting.{is_quoted}
use Rattle.mds_text.specs.Tree.{Json, null, boolean, int, text, degrees, list, object, Items, no_items, item, Members, no_members, member}
use Rattle.mds_text.specs.declared.draft_kind.DraftKind.{DraftKind}
use Rattle.mds_text.specs.declared.draft_kind.DraftKind.TheVariants.{Policy, Geography}
use Rattle.cli_documents.specs.Members.{named, as_id, as_list, text_named, id_named, list_named, or_none}
use Rattle.mds_text.specs.View.{view}
use Rattle.cli_documents.specs.declared.drafting.DocumentLists.{DocumentLists}
use Rattle.cli_documents.specs.declared.drafting.Origin.{Origin}
use Rattle.cli_documents.specs.declared.drafting.RefusalReason.{RefusalReason}
use Rattle.cli_documents.specs.declared.drafting.RefusalReason.TheVariants.{BadField, Decimal}
use Rattle.cli_documents.specs.declared.drafting.PreparedDocument.{PreparedDocument}
use Rattle.cli_documents.specs.declared.drafting.PreparedDocument.TheVariants as code

-- the value of the member `data`, or the file itself
abbrev pub or_else : Option Json → Json → Json
or_else None file = file
or_else (Some inner) file = inner

abbrev pub inner : Json → Json
inner file = or_else (named (codes "data") file) file

-- whether an object has one of the two lists
abbrev pub has_lists : Json → Bool
has_lists value = is_some (list_named (codes "geographies") value) || is_some (list_named (codes "policies") value)

-- the entries of a list, or those of an object's two lists, or the one document that the value is; geographies first
abbrev pub listed : Option (List Json) → Json → List Json × List Json
listed (Some documents) value = (documents, [])
listed None value =
    if has_lists value then (or_none (list_named (codes "geographies") value), or_none (list_named (codes "policies") value)) else (value ∷ [], [])

-- the features of GeoJSON (RFC 7946, section 3): those of a FeatureCollection, or the one Feature that the value is;
-- none for any other
abbrev pub is_text : List ℕ → Option (List ℕ) → Bool
is_text name None = false
is_text name (Some written) = bytes_eq written name

abbrev pub is_of_type : List ℕ → Json → Bool
is_of_type name value = is_text name (text_named (codes "type") value)

abbrev pub features : Json → Option (List Json)
features value =
    if is_of_type (codes "FeatureCollection") value then Some (or_none (list_named (codes "features") value))
    else (if is_of_type (codes "Feature") value then Some (value ∷ []) else None)

-- what is read of a file: features of GeoJSON, or documents of MDS, geographies first
pub record Read : Type 0 where
  pub features : List Json
  pub first : List Json
  pub second : List Json

abbrev pub read_with : Option (List Json) → List Json × List Json → Read
read_with None lists = record { features = []; first = lists.0; second = lists.1 }
read_with (Some found) lists = record { features = found; first = []; second = [] }

abbrev pub documents : Json → Read
documents file = read_with (features (inner file)) (listed (as_list (inner file)) (inner file))

-- the first of two names that may be missing
abbrev pub first_of : Option (List ℕ) → Option (List ℕ) → Option (List ℕ)
first_of None later = later
first_of (Some name) later = Some name

-- the name of the innermost member with the first number that isn't plain, in a value of a file that has such numbers
abbrev mutual
  pub decimal_at : List ℕ → Json → Option (List ℕ)
  decimal_at name null = None
  decimal_at name (boolean b) = None
  decimal_at name (int z) = None
  decimal_at name (text s) = if is_quoted s then Some name else None
  decimal_at name (degrees z) = None
  decimal_at name (list ts) = decimal_in name ts
  decimal_at name (object ms) = decimal_among ms

  pub decimal_in : List ℕ → Items → Option (List ℕ)
  decimal_in name no_items = None
  decimal_in name (item t ts) = first_of (decimal_at name t) (decimal_in name ts)

  pub decimal_among : Members → Option (List ℕ)
  decimal_among no_members = None
  decimal_among (member name t ms) = first_of (decimal_at name t) (decimal_among ms)

-- a document as it is sent, or the member at fault and why it isn't sent
pub data Outcome : Type 0 where
  drafted : (origin : Origin) → (kind : DraftKind) → (id : List ℕ) → (predecessors : List (List ℕ)) → (body : List ℕ) → Outcome
  refused : (member : List ℕ) → (why : RefusalReason) → Outcome

-- a geography is sent as it stands
abbrev pub geography_with : Origin → Option (List ℕ) → Json → Outcome
geography_with origin None value = refused (codes "geography_id") BadField
geography_with origin (Some id) value = drafted origin Geography id [] (printed value)

-- the types of rules that are evaluated; of any other rule the server knows no more than that it is there
abbrev pub is_judged : Json → Bool
is_judged rule = is_text (codes "count") (text_named (codes "rule_type") rule) || is_text (codes "time") (text_named (codes "rule_type") rule)

-- a bound that was written as a number that isn't plain, as 7.5 or 1e3
abbrev pub is_fractional : Option (List ℕ) → Bool
is_fractional None = false
is_fractional (Some written) = is_quoted written

-- the first bound of an evaluated rule that was written as such a number
abbrev pub fraction_in : Json → Option (List ℕ)
fraction_in rule =
    if not (is_judged rule) then None
    else (if is_fractional (text_named (codes "minimum") rule) then Some (codes "minimum")
    else (if is_fractional (text_named (codes "maximum") rule) then Some (codes "maximum") else None))

abbrev pub fraction_among : List Json → Option (List ℕ)
fraction_among [] = None
fraction_among (rule ∷ rules) = first_of (fraction_in rule) (fraction_among rules)

abbrev pub rules_of : Json → List Json
rules_of policy = or_none (list_named (codes "rules") policy)

-- the first bound of a policy's rules that can't be sent; any other number that isn't plain goes as the text of its
-- characters
abbrev pub fraction_of : Json → Option (List ℕ)
fraction_of policy = fraction_among (rules_of policy)

-- the rules that aren't evaluated, each by its identifier as it stands, or by the empty text
abbrev pub or_empty : Option (List ℕ) → List ℕ
or_empty None = []
or_empty (Some name) = name

abbrev pub unjudged_id : Json → Option (List ℕ)
unjudged_id rule = if is_judged rule then None else Some (or_empty (text_named (codes "rule_id") rule))

abbrev pub unjudged : Json → List (List ℕ)
unjudged policy = filter_map unjudged_id (rules_of policy)

-- a policy is sent as it stands, but for a bound that isn't a plain number
abbrev pub policy_with : Origin → Option (List ℕ) → Option (List ℕ) → Json → Outcome
policy_with origin None name value = refused (codes "policy_id") BadField
policy_with origin (Some id) (Some name) value = refused name Decimal
policy_with origin (Some id) None value = drafted origin Policy id (filter_map as_id (or_none (list_named (codes "prev_policies") value))) (printed value)

-- what a document becomes, of a file with numbers that aren't plain, or without
abbrev pub prepared : Origin → Bool → Json → Outcome
prepared origin decimals value =
    if is_some (named (codes "geography_id") value) then geography_with origin (id_named (codes "geography_id") value) value
    else policy_with origin (id_named (codes "policy_id") value) (if decimals then fraction_of value else None) value

-- the namespace of URLs (RFC 9562, section 6.6)
abbrev pub namespace : List ℕ
namespace = 107 ∷ 167 ∷ 184 ∷ 17 ∷ 157 ∷ 173 ∷ 17 ∷ 209 ∷ 128 ∷ 180 ∷ 0 ∷ 192 ∷ 79 ∷ 212 ∷ 48 ∷ 200 ∷ []

-- the identifier derived from a name alone (RFC 9562, section 5.5)
unfoldable pub id_of_name : List ℕ → List ℕ
id_of_name name = with_version (with_variant (take 16 (sha1 (namespace ++ name))) RFC4122) Sha1

-- the identifier of a feature: its property `geography_id`, or its own `id`, or the one derived from its name

abbrev pub id_or : Option (List ℕ) → List ℕ → List ℕ
id_or None other = other
id_or (Some id) other = id

abbrev pub properties_of : Json → Option Json
properties_of feature = named (codes "properties") feature

abbrev pub feature_id : Json → List ℕ → List ℕ
feature_id feature name =
    id_or (option_and_then (id_named (codes "geography_id")) (properties_of feature)) (id_or (id_named (codes "id") feature) (id_of_name name))

-- the document of a geography with this identifier, shape and name
abbrev pub geography_text : List ℕ → Json → List ℕ → List ℕ
geography_text id shape name =
    codes "{\"geography_id\":\"" ++ hyphenated_text lower id ++ codes "\",\"geography_json\":" ++ printed shape ++ codes ",\"name\":" ++ printed (text name) ++ codes "}"

-- a feature with a name and a shape becomes a geography
abbrev pub feature_with : Origin → Json → Option (List ℕ) → Option Json → Outcome
feature_with origin feature None shape = refused (codes "name") BadField
feature_with origin feature (Some name) None = refused (codes "geometry") BadField
feature_with origin feature (Some name) (Some shape) =
    drafted origin Geography (feature_id feature name) [] (geography_text (feature_id feature name) shape name)

abbrev pub feature_prepared : Origin → Json → Outcome
feature_prepared origin feature = feature_with origin feature (option_and_then (text_named (codes "name")) (properties_of feature)) (named (codes "geometry") feature)

abbrev pub outcome : PreparedDocument → Outcome
outcome (code.Draft d) = drafted d.origin d.kind d.id d.predecessors.items d.body.items
outcome (code.Refused r) = refused r.member.now r.why

abbrev pub read_view : DocumentLists → Read
read_view d = record { features = map view d.features.now; first = map view d.first.now; second = map view d.second.now }

abbrev pub folder_of : DraftKind → List ℕ
folder_of Policy = codes "/drafts/policies/"
folder_of Geography = codes "/drafts/geographies/"

-- the target of the request that stores a draft
abbrev pub target_of : DraftKind → List ℕ → List ℕ
target_of kind id = folder_of kind ++ hyphenated_text lower id
