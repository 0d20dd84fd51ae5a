-- A configuration: which clients there are, and how many vehicles each operator may have.
use Rattle.std.specs.Prelude.{ℕ, ℤ, pos, negsuc, List, [], ◌∷◌, Bool, false, ◌||◌, ◌&&◌, nat_le, ◌==◌, length, map, bytes_eq, if◌then◌else◌, Option, Some, None, Result, Ok, Err, position, string_bytes}
use Rattle.std.specs.List.{list_all, list_any}
use Rattle.mds_text.specs.Fault.{Fault, bad_field, out_of_range, too_many_operators, alike, ◌>>=◌}
use Rattle.mds_text.specs.Fields.{object_of, document_of, required_at, required_member, id_of, int_of, text_of, list_of, each}
use Rattle.mds_text.specs.Reading.{read_text}
use Rattle.mds_text.specs.Tree.{Json}
use Rattle.mds_text.specs.declared.field.Field.{Field}
use Rattle.mds_text.specs.declared.field.Field.TheVariants.{Author as AuthorName, Operators, Id, Limit, Token, Zone as ZoneName}
use Rattle.mds_match.specs.Zone.{zone_of}
use Rattle.mds_match.specs.declared.vehicle.TheConstants.{MOST_VEHICLES}
use Rattle.mds_match.specs.declared.zone.Zone.{Zone}
use Rattle.mds_request.specs.declared.config.Operator.{Operator as Named}
use Rattle.mds_request.specs.declared.config.Config.{Config}
use Rattle.mds_request.specs.declared.config.TheConstants.{MOST_OPERATORS, MOST_TOKEN}
use Rattle.mds_request.specs.declared.config.Actor.{Actor}
use Rattle.mds_request.specs.declared.config.Actor.TheVariants.{Author, Operator as OperatorAt, Nobody}

-- an operator's identifier, the most vehicles that it may have, and its access token
pub record Operator : Type 0 where
  pub id : List ℕ
  pub limit : ℕ
  pub token : List ℕ

-- the author's access token, the operators, and the zone in which rules are open
pub record Configuration : Type 0 where
  pub author : List ℕ
  pub operators : List Operator
  pub zone : Zone

abbrev pub operator : Named → Operator
operator o = record { id = o.id; limit = o.limit; token = string_bytes o.token }

-- the configuration that a `Config` stands for
abbrev pub configuration : Config → Configuration
configuration c =
    record { author = string_bytes c.author; operators = map operator c.operators.items; zone = c.zone }

-- some text is in the list twice
abbrev pub repeats : List (List ℕ) → Bool
repeats [] = false
repeats (x ∷ xs) = list_any (bytes_eq x) xs || repeats xs

abbrev pub ids : List Operator → List (List ℕ)
ids operators = map (λ o. o.id) operators

abbrev pub tokens : List Operator → List (List ℕ)
tokens operators = map (λ o. o.token) operators

-- two operators have the same identifier, or two of all access tokens are equal
abbrev pub has_alike : Configuration → Bool
has_alike configuration =
    repeats (ids configuration.operators) || repeats (configuration.author ∷ tokens configuration.operators)

abbrev pub has_token : List ℕ → Operator → Bool
has_token token operator = bytes_eq operator.token token

abbrev pub operator_at : Option ℕ → Actor
operator_at None = Nobody
operator_at (Some place) = OperatorAt place

-- the client that a token belongs to
abbrev pub actor_of : Configuration → List ℕ → Actor
actor_of configuration token =
    if bytes_eq configuration.author token then Author
    else operator_at (position (has_token token) configuration.operators)

-- a letter, a digit, `-` or `_`
abbrev pub is_access_byte : ℕ → Bool
is_access_byte b = (nat_le 65 b && nat_le b 90) || (nat_le 97 b && nat_le b 122) || (nat_le 48 b && nat_le b 57) || (b == 45) || (b == 95)

-- 1 to 64 of these
abbrev pub is_access_token : List ℕ → Bool
is_access_token s = nat_le 1 (length s) && nat_le (length s) MOST_TOKEN && list_all is_access_byte s

-- an access token
abbrev pub access_of : Field → Json → Result (List ℕ) Fault
access_of field value = text_of field value >>= λ s. if is_access_token s then Ok s else Err (bad_field field)

abbrev pub access_at : Json → Field → Result (List ℕ) Fault
access_at document field = required_member document field >>= access_of field

-- the most vehicles that an operator may have: 1 to 200,000
abbrev pub in_limits : ℤ → Result ℕ Fault
in_limits (pos n) = if nat_le 1 n && nat_le n MOST_VEHICLES then Ok n else Err out_of_range
in_limits (negsuc n) = Err out_of_range

abbrev pub limit_at : Json → Result ℕ Fault
limit_at entry = required_at int_of entry Limit >>= in_limits

-- an operator's identifier, limit and access token, in this order
abbrev pub operator_of : Json → Result Operator Fault
operator_of value = do
  entry ← object_of Operators value
  id ← required_at id_of entry Id
  limit ← limit_at entry
  token ← access_at entry Token
  Ok (record { id = id; limit = limit; token = token })

-- the operators in order; more than 64 are too many, whatever they are
abbrev pub operators_of : List Json → Result (List Operator) Fault
operators_of values = if nat_le (length values) MOST_OPERATORS then each operator_of values else Err too_many_operators

abbrev pub operators_at : Json → Result (List Operator) Fault
operators_at document = required_at list_of document Operators >>= operators_of

abbrev pub zone_at : Json → Result Zone Fault
zone_at document = required_at text_of document ZoneName >>= zone_of

-- a configuration without duplicates
abbrev pub unlike : Configuration → Result Configuration Fault
unlike configuration = if has_alike configuration then Err alike else Ok configuration

-- the members of a configuration, in this order
abbrev pub configuration_of : Json → Result Configuration Fault
configuration_of value = do
  document ← document_of value
  author ← access_at document AuthorName
  operators ← operators_at document
  zone ← zone_at document
  unlike (record { author = author; operators = operators; zone = zone })

-- reading a text as a configuration
abbrev pub read_configuration : List ℕ → Result Configuration Fault
read_configuration bytes = read_text bytes >>= configuration_of
