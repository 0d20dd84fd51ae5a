-- What etcd's gateway answers, as JSON (etcd API v3, service KV). What is false, none or empty is left out; a number of
-- 64 bits is a text of its digits, keys and values are base64. Other members may stand beside these.
use Rattle.std.specs.Prelude.{◌≡◌, ℕ, ◌^◌, ◌<◌, Bool, List, codes, Option, Some, None}
use Rattle.std.specs.Fmt.{decimal}
use Rattle.base64.specs.GeneralPurpose.{IsBytes}
use Rattle.json.specs.Find.{get, at}
use Rattle.json.specs.Json.{Json, string}
use Rattle.journal_register.specs.Outcomes.{outcome_of}
use Rattle.journal_register.specs.declared.owner.Owner.{Owner}
use Rattle.journal_register.specs.declared.owner.TheConstants.{NOBODY}
use Rattle.journal_register.specs.declared.head.Head.{Head}
use Rattle.journal_register.specs.declared.head.TheConstants.{NO_HEAD}
use Rattle.journal_register.specs.declared.look.Look.{Look}
use Rattle.journal_register.specs.declared.transaction.Transaction.{Transaction}
use Rattle.journal_etcd.specs.declared.answers.TransactionAnswer.{TransactionAnswer}
use Rattle.journal_etcd.specs.Keys.{head_key, owner_key}
use Rattle.journal_etcd.specs.Reading.{answer_of, flag_in, last_part}
use Rattle.journal_etcd.specs.Requests.{base64}
use Rattle.journal_etcd.specs.Values.{owner_value, head_value, FitsOwner, FitsHead}

-- a member is a number
pub record HasNumber (name : List ℕ) (value : Json) (n : ℕ) : Type 0 where
  pub is : get name value ≡ Some (string (decimal n))
  pub fits : n < 2 ^ 64

-- a member is bytes
pub record HasBytes (name : List ℕ) (value : Json) (bytes : List ℕ) : Type 0 where
  pub is : get name value ≡ Some (string (base64 bytes))
  pub fits : IsBytes bytes

-- a key with its value, as an item of `kvs`
pub record IsPair (pair : Json) (name bytes : List ℕ) : Type 0 where
  pub key : HasBytes (codes "key") pair name
  pub value : HasBytes (codes "value") pair bytes

-- both keys of a register, in their order
pub record HasBoth (prefix : List ℕ) (pairs : Json) (owner : Owner) (head : Head) : Type 0 where
  pub first : Json
  pub second : Json
  pub is_first : at 0 pairs ≡ Some first
  pub is_second : at 1 pairs ≡ Some second
  pub head_pair : IsPair first (head_key prefix) (head_value head)
  pub owner_pair : IsPair second (owner_key prefix) (owner_value owner)
  pub fits_head : FitsHead head
  pub fits_owner : FitsOwner owner

-- or neither
abbrev pub HasRegister : List ℕ → Option Json → Owner → Head → Type 0
HasRegister prefix None owner head = (owner ≡ NOBODY) × (head ≡ NO_HEAD)
HasRegister prefix (Some pairs) owner head = HasBoth prefix pairs owner head

-- what a range over both keys says, with the header of the answer that it stands in
pub record SaysLook (prefix : List ℕ) (answer range : Json) (look : Look) : Type 0 where
  pub header : Json
  pub is_header : get (codes "header") answer ≡ Some header
  pub cluster : HasNumber (codes "cluster_id") header look.cluster
  pub revision : HasNumber (codes "revision") header look.revision
  pub register : HasRegister prefix (get (codes "kvs") range) look.owner look.head

-- The answer to a transaction: whether it succeeded, and the register behind it, by a range that ends the answers to
-- its parts.
pub record SaysTransaction (prefix : List ℕ) (t : Transaction) (answer : Json) (read : TransactionAnswer) : Type 0 where
  pub succeeded : Bool
  pub responses : Json
  pub response : Json
  pub range : Json
  pub is_flag : flag_in (codes "succeeded") answer ≡ succeeded
  pub are_responses : get (codes "responses") answer ≡ Some responses
  pub is_last : at (last_part t succeeded) responses ≡ Some response
  pub is_range : get (codes "response_range") response ≡ Some range
  pub says : SaysLook prefix answer range read.look
  pub outcome : read.outcome ≡ outcome_of t (answer_of succeeded read.look)
