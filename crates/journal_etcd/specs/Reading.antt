-- What is read of etcd's answers, from left to right, with the first fault that is met.
use Rattle.std.specs.Prelude.{◌≡◌, ℕ, ◌+◌, ◌^◌, ◌==◌, ◌&&◌, nat_lt, Bool, false, List, codes, length, take, drop}
use Rattle.std.specs.Prelude.{position, bytes_eq, if◌then◌else◌, Option, Some, None, option_and_then, is_some}
use Rattle.std.specs.Prelude.{unwrap_or, Result, Ok, Err}
use Rattle.std.specs.Char.{is_ascii_digit}
use Rattle.std.specs.List.{list_all}
use Rattle.std.specs.Str.{is_utf8}
use Rattle.std.specs.Str.Parse.{digits_value}
use Rattle.base64.specs.Engines.{standard}
use Rattle.base64.specs.GeneralPurpose.{decode_of}
use Rattle.base64.specs.declared.decode.DecodeError.{DecodeError}
use Rattle.json.specs.Find.{get, at, as_str, as_bool}
use Rattle.json.specs.Json.{Json, document}
use Rattle.journal_file.specs.declared.log_end.LogEnd.{LogEnd}
use Rattle.journal_register.specs.Outcomes.{outcome_of}
use Rattle.journal_register.specs.declared.owner.Owner.{Owner}
use Rattle.journal_register.specs.declared.owner.TheConstants.{NOBODY}
use Rattle.journal_register.specs.declared.head.Generation.{Generation}
use Rattle.journal_register.specs.declared.head.Extent.{Extent}
use Rattle.journal_register.specs.declared.head.Switch.{Switch}
use Rattle.journal_register.specs.declared.head.Head.{Head}
use Rattle.journal_register.specs.declared.head.TheConstants.{NO_HEAD}
use Rattle.journal_register.specs.declared.look.Look.{Look}
use Rattle.journal_register.specs.declared.outcome.Answer.{Answer}
use Rattle.journal_register.specs.declared.outcome.Answer.TheVariants.{Succeeded, Failed}
use Rattle.journal_register.specs.declared.transaction.Transaction.{Transaction}
use Rattle.journal_etcd.specs.declared.answers.TransactionAnswer.{TransactionAnswer}
use Rattle.journal_etcd.specs.declared.fault.AnswerFault.{AnswerFault}
use Rattle.journal_etcd.specs.declared.fault.AnswerFault.TheVariants.{NotJson, BadShape, BadNumber}
use Rattle.journal_etcd.specs.declared.fault.AnswerError.{AnswerError}
use Rattle.journal_etcd.specs.declared.fault.AnswerError.TheVariants as errors
use Rattle.journal_etcd.specs.Keys.{head_key, owner_key}
use Rattle.journal_etcd.specs.Values.{owner_value, head_value}

infixl 10 ◌>>=◌
abbrev pub ◌>>=◌ : {A B : Type 0} → Result A AnswerFault → (A → Result B AnswerFault) → Result B AnswerFault
(Ok x) >>= f = f x
(Err e) >>= f = Err e

-- what a function returned, seen by view, is what is read, unless memory ran out
abbrev pub Fails : {Y : Type 0} → AnswerError → Result Y AnswerFault → Type 0
Fails errors.NoMemory read = Unit {0}
Fails (errors.Fault f) read = read ≡ Err f

abbrev pub Gives : {X Y : Type 0} → (X → Y) → Result X AnswerError → Result Y AnswerFault → Type 0
Gives view (Ok x) read = read ≡ Ok (view x)
Gives view (Err e) read = Fails e read

-- ---- numbers

abbrev pub are_digits : List ℕ → Bool
are_digits text = list_all is_ascii_digit text

-- digits, and no more than 64 bits have
abbrev pub is_number : List ℕ → Bool
is_number text = nat_lt 0 (length text) && (are_digits text && nat_lt (digits_value 10 text) (2 ^ 64))

unfoldable pub number_of : List ℕ → Result ℕ AnswerFault
number_of text = if is_number text then Ok (digits_value 10 text) else Err BadNumber

abbrev pub is_space : ℕ → Bool
is_space byte = byte == 32

abbrev pub with_rest : List ℕ → Result ℕ AnswerFault → Result (ℕ × List ℕ) AnswerFault
with_rest rest read = read >>= λ n. Ok (n, rest)

-- the number in front of the space at an index, and what stands behind that
abbrev pub number_before : Option ℕ → List ℕ → Result (ℕ × List ℕ) AnswerFault
number_before None text = Err BadShape
number_before (Some space) text = with_rest (drop (space + 1) text) (number_of (take space text))

unfoldable pub number_at : List ℕ → Result (ℕ × List ℕ) AnswerFault
number_at text = number_before (position is_space text) text

-- ---- values

unfoldable pub end_at : List ℕ → Result (LogEnd × List ℕ) AnswerFault
end_at text = do
  place ← number_at text
  check ← number_at place.1
  count ← number_at check.1
  Ok (record { position = place.0; sum = check.0; count = count.0 }, count.1)

unfoldable pub generation_at : List ℕ → Result (Generation × List ℕ) AnswerFault
generation_at text = do
  epoch ← number_at text
  attempt ← number_at epoch.1
  Ok (record { epoch = epoch.0; attempt = attempt.0 }, attempt.1)

unfoldable pub extent_at : List ℕ → Result (Extent × List ℕ) AnswerFault
extent_at text = do
  generation ← generation_at text
  chunks ← number_at generation.1
  end ← end_at chunks.1
  Ok (record { generation = generation.0; chunks = chunks.0; end = end.0 }, end.1)

unfoldable pub switch_at : List ℕ → Result (Switch × List ℕ) AnswerFault
switch_at text = do
  before ← extent_at text
  chunks ← number_at before.1
  end ← end_at chunks.1
  Ok (record { from = before.0; chunks = chunks.0; end = end.0 }, end.1)

-- behind the version
unfoldable pub owner_at : List ℕ → Result Owner AnswerFault
owner_at text = do
  version ← number_at text
  epoch ← number_at version.1
  nonce ← number_at epoch.1
  Ok (record { epoch = epoch.0; nonce = nonce.0 })

unfoldable pub head_at : List ℕ → Result Head AnswerFault
head_at text = do
  version ← number_at text
  extent ← extent_at version.1
  beat ← number_at extent.1
  switch ← switch_at beat.1
  Ok (record { extent = extent.0; beat = beat.0; switch = switch.0 })

-- the owner whose value these bytes are
unfoldable pub owner_of : List ℕ → Result Owner AnswerFault
owner_of value = do
  owner ← owner_at value
  if bytes_eq (owner_value owner) value then Ok owner else Err BadShape

-- the head
unfoldable pub head_of : List ℕ → Result Head AnswerFault
head_of value = do
  head ← head_at value
  if bytes_eq (head_value head) value then Ok head else Err BadShape

-- ---- members of JSON

abbrev pub known : {A : Type 0} → Option A → Result A AnswerFault
known None = Err BadShape
known (Some x) = Ok x

unfoldable pub member : List ℕ → Json → Result Json AnswerFault
member name value = known (get name value)

unfoldable pub item_at : ℕ → Json → Result Json AnswerFault
item_at index value = known (at index value)

unfoldable pub text_in : Json → Result (List ℕ) AnswerFault
text_in value = known (as_str value)

abbrev pub decoded : Result (List ℕ) DecodeError → Result (List ℕ) AnswerFault
decoded (Ok bytes) = Ok bytes
decoded (Err e) = Err BadShape

-- the bytes that a text is in base64
unfoldable pub bytes_of : List ℕ → Result (List ℕ) AnswerFault
bytes_of text = decoded (decode_of standard text)

unfoldable pub number_in : List ℕ → Json → Result ℕ AnswerFault
number_in name value = do
  found ← member name value
  text ← text_in found
  number_of text

unfoldable pub bytes_in : List ℕ → Json → Result (List ℕ) AnswerFault
bytes_in name value = do
  found ← member name value
  text ← text_in found
  bytes_of text

-- a flag, which is left out where it is false
unfoldable pub flag_in : List ℕ → Json → Bool
flag_in name value = unwrap_or (option_and_then as_bool (get name value)) false

-- ---- answers

-- the value of a pair with this key
unfoldable pub value_in : List ℕ → Json → Result (List ℕ) AnswerFault
value_in key pair = do
  found ← bytes_in (codes "key") pair
  if bytes_eq found key then bytes_in (codes "value") pair else Err BadShape

-- the register in the pairs of both keys, in their order
unfoldable pub both_in : List ℕ → Json → Result (Owner × Head) AnswerFault
both_in prefix pairs = do
  first ← item_at 0 pairs
  second ← item_at 1 pairs
  head ← value_in (head_key prefix) first
  owner ← value_in (owner_key prefix) second
  register_owner ← owner_of owner
  register_head ← head_of head
  Ok (register_owner, register_head)

-- the same; where neither key is there, nobody has claimed the register
abbrev pub pairs_in : List ℕ → Option Json → Result (Owner × Head) AnswerFault
pairs_in prefix None = Ok (NOBODY, NO_HEAD)
pairs_in prefix (Some pairs) = both_in prefix pairs

unfoldable pub register_in : List ℕ → Json → Result (Owner × Head) AnswerFault
register_in prefix range = pairs_in prefix (get (codes "kvs") range)

-- what a range over both keys says, with the header of the answer that it stands in
unfoldable pub look_in : List ℕ → Json → Json → Result Look AnswerFault
look_in prefix answer range = do
  header ← member (codes "header") answer
  cluster ← number_in (codes "cluster_id") header
  revision ← number_in (codes "revision") header
  register ← register_in prefix range
  Ok (record { cluster = cluster; revision = revision; owner = register.0; head = register.1 })

-- the JSON that a body is, if any
abbrev pub json_if : Option Json → Result Json AnswerFault
json_if None = Err NotJson
json_if (Some value) = Ok value

-- a body is UTF-8, and one value (RFC 8259)
unfoldable pub json_of : List ℕ → Result Json AnswerFault
json_of body = if is_utf8 body then json_if (document body) else Err NotJson

unfoldable pub look_of : List ℕ → List ℕ → Result Look AnswerFault
look_of prefix body = do
  answer ← json_of body
  look_in prefix answer answer

-- how many puts and removals a transaction has
abbrev pub one_if : Bool → ℕ
one_if b = if b then 1 else 0

unfoldable pub writes_of : Transaction → ℕ
writes_of t = one_if (is_some t.new_owner) + one_if (is_some t.new_head) + one_if (is_some t.chunk) + one_if
    (is_some t.deleted)

-- where the answers to a transaction's parts have the range over both keys: behind those to what was done
unfoldable pub last_part : Transaction → Bool → ℕ
last_part t succeeded = if succeeded then writes_of t else 0

unfoldable pub range_in : Transaction → Bool → Json → Result Json AnswerFault
range_in t succeeded answer = do
  responses ← member (codes "responses") answer
  response ← item_at (last_part t succeeded) responses
  member (codes "response_range") response

-- the answer as a register's transactions take it
abbrev pub answer_of : Bool → Look → Answer
answer_of succeeded look = if succeeded then Succeeded else Failed look.owner look.head

unfoldable pub transaction_in : List ℕ → Transaction → Json → Result TransactionAnswer AnswerFault
transaction_in prefix t answer = do
  range ← range_in t (flag_in (codes "succeeded") answer) answer
  look ← look_in prefix answer range
  Ok (record { outcome = outcome_of t (answer_of (flag_in (codes "succeeded") answer) look); look = look })

unfoldable pub transaction_of : List ℕ → Transaction → List ℕ → Result TransactionAnswer AnswerFault
transaction_of prefix t body = do
  answer ← json_of body
  transaction_in prefix t answer
