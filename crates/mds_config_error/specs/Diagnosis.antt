-- What is wrong with a text that is no configuration: the reading of a configuration, in its order, where each refusal
-- names the member and the operator's place.
use Rattle.std.specs.Prelude.{◌≡◌, ℕ, ◌+◌, List, [], ◌∷◌, Bool, Option, Some, None, Result, Ok, Err, ⊤, bytes_eq, length, map, nat_le, if◌then◌else◌}
use Rattle.std.specs.List.{position_from}
use Rattle.std.specs.Result.{result_err}
use Rattle.mds_text.specs.Fault.{Fault}
use Rattle.mds_text.specs.Fields.{object_of, document_of, required_at, id_of, int_of, list_of}
use Rattle.mds_text.specs.Reading.{read_text}
use Rattle.mds_text.specs.Tree.{Json}
use Rattle.mds_text.specs.declared.field.Field.TheVariants.{Author as AuthorName, Operators as OperatorsName, Id as IdName, Limit as LimitName, Token as TokenName}
use Rattle.mds_request.specs.Configuration.{Operator, access_at, in_limits, zone_at, tokens}
use Rattle.mds_request.specs.declared.config.TheConstants.{MOST_OPERATORS}
use Rattle.mds_config_error.specs.declared.wrong.Key.{Key}
use Rattle.mds_config_error.specs.declared.wrong.Key.TheVariants.{Id, Token}
use Rattle.mds_config_error.specs.declared.wrong.OperatorFlaw.{OperatorFlaw}
use Rattle.mds_config_error.specs.declared.wrong.OperatorFlaw.TheVariants as flaw
use Rattle.mds_config_error.specs.declared.wrong.Wrong.{Wrong}
use Rattle.mds_config_error.specs.declared.wrong.Wrong.TheVariants as wrong

-- one reading after another; the first fault stays
infixl 10 ◌>>=◌
abbrev pub ◌>>=◌ : {A B W : Type 0} → Result A W → (A → Result B W) → Result B W
(Ok x) >>= f = f x
(Err w) >>= f = Err w

-- a reading, with this fault where it is refused
abbrev pub says : {A V W : Type 0} → W → Result A V → Result A W
says w (Ok a) = Ok a
says w (Err fault) = Err w

-- the reading of the operator at this place
abbrev pub says_at : {A : Type 0} → ℕ → Result A OperatorFlaw → Result A Wrong
says_at place (Ok a) = Ok a
says_at place (Err f) = Err (wrong.Operator place f)

-- an operator's identifier, limit and access token, in this order
abbrev pub operator_of : Json → Result Operator OperatorFlaw
operator_of value = do
  entry ← says flaw.Entry (object_of OperatorsName value)
  id ← says flaw.Id (required_at id_of entry IdName)
  number ← says flaw.Limit (required_at int_of entry LimitName)
  limit ← says flaw.LimitRange (in_limits number)
  token ← says flaw.Token (access_at entry TokenName)
  Ok (record { id = id; limit = limit; token = token })

-- the operators in order, where the first is at this place
abbrev pub each_from : ℕ → List Json → Result (List Operator) Wrong
each_from place [] = Ok []
each_from place (value ∷ values) = do
  operator ← says_at place (operator_of value)
  operators ← each_from (place + 1) values
  Ok (operator ∷ operators)

abbrev pub operators_of : List Json → Result (List Operator) Wrong
operators_of values = if nat_le (length values) MOST_OPERATORS then each_from 0 values else Err wrong.TooManyOperators

abbrev pub operators_at : Json → Result (List Operator) Wrong
operators_at document = says wrong.Operators (required_at list_of document OperatorsName) >>= operators_of

-- the member that must differ between operators
abbrev pub key_of : Key → Operator → List ℕ
key_of Id operator = operator.id
key_of Token operator = operator.token

-- the first text that is in the list twice, as its first two places, where the list begins at this place
abbrev pub pair_at : ℕ → Option ℕ → Option (ℕ × ℕ) → Option (ℕ × ℕ)
pair_at place None later = later
pair_at place (Some other) later = Some (place, other)

abbrev pub pair_from : ℕ → List (List ℕ) → Option (ℕ × ℕ)
pair_from place [] = None
pair_from place (x ∷ xs) = pair_at place (position_from (bytes_eq x) (place + 1) xs) (pair_from (place + 1) xs)

-- two operators with the same identifier or the same access token
abbrev pub pair_of : Key → List Operator → Option (ℕ × ℕ)
pair_of key operators = pair_from 0 (map (key_of key) operators)

-- no duplicates, or these two
abbrev pub unless_alike : Key → Option (ℕ × ℕ) → Result ⊤ Wrong
unless_alike key None = Ok tt
unless_alike key (Some pair) = Err (wrong.Alike key pair.0 pair.1)

-- no operator has the author's access token, or the one at this place has
abbrev pub unless_author : Option ℕ → Result ⊤ Wrong
unless_author None = Ok tt
unless_author (Some place) = Err (wrong.AuthorsToken place)

-- no duplicates: of identifiers, of the author's access token, and of those of two operators
abbrev pub unlike : List ℕ → List Operator → Result ⊤ Wrong
unlike author operators = do
  ids ← unless_alike Id (pair_of Id operators)
  authors ← unless_author (position_from (bytes_eq author) 0 (tokens operators))
  unless_alike Token (pair_of Token operators)

-- the members of a configuration, in this order, and then the duplicates among them
abbrev pub configuration_of : Json → Result ⊤ Wrong
configuration_of value = do
  document ← says wrong.Document (document_of value)
  author ← says wrong.Author (access_at document AuthorName)
  operators ← operators_at document
  zone ← says wrong.Zone (zone_at document)
  unlike author operators

-- whether a text is a configuration, or what is wrong with it
abbrev pub read_configuration : List ℕ → Result ⊤ Wrong
read_configuration bytes = says wrong.Json (read_text bytes) >>= configuration_of

-- what is wrong with a text, if anything
abbrev pub wrong_in : List ℕ → Option Wrong
wrong_in bytes = result_err (read_configuration bytes)
