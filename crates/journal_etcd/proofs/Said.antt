-- What says a look, or the answer to a transaction, is read as that.
use Rattle.std.proofs.Common.{◌≡◌, ℕ, true, false, cond, List, codes, inl, inr, Option, Some, None, Result, Ok, Err, refl, sym, ap, ◌∙◌}
use Rattle.std.proofs.lemmas.Bool.{cases_Bool, cond-true, cond-false}
use Rattle.std.proofs.lemmas.Slice.Eq.{bytes_eq-Decides}
use Rattle.std.proofs.lemmas.Str.{IsUtf8-from_is_utf8, is_utf8-from_IsUtf8}
use Rattle.std.specs.Str.{IsUtf8, is_utf8}
use Rattle.base64.proofs.EngineFacts.{decode_of-encode_of}
use Rattle.base64.specs.Engines.{standard}
use Rattle.base64.specs.GeneralPurpose.{IsBytes}
use Rattle.json.specs.Find.{get}
use Rattle.json.specs.Json.{Json, document}
use Rattle.journal_register.specs.declared.owner.Owner.{Owner}
use Rattle.journal_register.specs.declared.head.Head.{Head}
use Rattle.journal_register.specs.declared.look.Look.{Look}
use Rattle.journal_register.specs.declared.outcome.Outcome.{Outcome}
use Rattle.journal_register.specs.declared.transaction.Transaction.{Transaction}
use Rattle.journal_etcd.specs.declared.answers.TransactionAnswer.{TransactionAnswer}
use Rattle.journal_etcd.specs.declared.fault.AnswerFault.{AnswerFault}
use Rattle.journal_etcd.specs.declared.fault.AnswerFault.TheVariants.{NotJson}
use Rattle.journal_etcd.specs.Keys.{head_key, owner_key}
use Rattle.journal_etcd.specs.Requests.{base64}
use Rattle.journal_etcd.specs.Values.{owner_value, head_value}
use Rattle.journal_etcd.specs.Answers.{HasNumber, HasBytes, IsPair, HasBoth, HasRegister, SaysLook, SaysTransaction}
use Rattle.journal_etcd.specs.Reading.{◌>>=◌, decoded, member, item_at, text_in, bytes_of, number_in, bytes_in, value_in, both_in, pairs_in, register_in, look_in, json_if, json_of, look_of, last_part, range_in, transaction_in, transaction_of}
use Rattle.journal_etcd.proofs.Numerals.{number_of-decimal}
use Rattle.journal_etcd.proofs.Spelled.{owner_again, head_again}

number_said : (name : List ℕ) (value : Json) (n : ℕ) → HasNumber name value n → number_in name value ≡ Ok n
unfolding number_in member text_in
number_said name value n h = rw h.is (number_of-decimal n h.fits)

bytes_written : (bytes : List ℕ) → IsBytes bytes → bytes_of (base64 bytes) ≡ Ok bytes
unfolding bytes_of base64
bytes_written bytes fits = ap decoded (decode_of-encode_of standard bytes refl fits)

bytes_said : (name : List ℕ) (value : Json) (bytes : List ℕ) → HasBytes name value bytes → bytes_in name value ≡ Ok bytes
unfolding bytes_in member text_in
bytes_said name value bytes h = rw h.is (bytes_written bytes h.fits)

pair_said : (pair : Json) (key value : List ℕ) → IsPair pair key value → value_in key pair ≡ Ok value
unfolding value_in
pair_said pair key value h = rw (bytes_said (codes "key") pair key h.key, (bytes_eq-Decides key key).1 refl) (bytes_said (codes "value") pair value h.value)

both_said : (prefix : List ℕ) (pairs : Json) (owner : Owner) (head : Head) → HasBoth prefix pairs owner head → both_in prefix pairs ≡ Ok (owner, head)
unfolding both_in item_at
both_said prefix pairs owner head h =
    rw (h.is_first, h.is_second, pair_said h.first (head_key prefix) (head_value head) h.head_pair, pair_said h.second (owner_key prefix) (owner_value owner) h.owner_pair, owner_again owner h.fits_owner, head_again head h.fits_head) refl

pairs_said : (prefix : List ℕ) (pairs : Option Json) (owner : Owner) (head : Head) → HasRegister prefix pairs owner head → pairs_in prefix pairs ≡ Ok (owner, head)
pairs_said prefix None owner head h = rw (h.0, h.1) refl
pairs_said prefix (Some pairs) owner head h = both_said prefix pairs owner head h

look_said : (prefix : List ℕ) (answer range : Json) (look : Look) → SaysLook prefix answer range look → look_in prefix answer range ≡ Ok look
unfolding look_in member register_in
look_said prefix answer range look h =
    rw (h.is_header, number_said (codes "cluster_id") h.header look.cluster h.cluster, number_said (codes "revision") h.header look.revision h.revision, pairs_said prefix (get (codes "kvs") range) look.owner look.head h.register) refl

abbrev answered : Look → Outcome → Result TransactionAnswer AnswerFault
answered look outcome = Ok (record { outcome = outcome; look = look })

transaction_said : (prefix : List ℕ) (t : Transaction) (answer : Json) (read : TransactionAnswer) → SaysTransaction prefix t answer read → transaction_in prefix t answer ≡ Ok read
unfolding transaction_in range_in member item_at
transaction_said prefix t answer read h =
    rw (h.is_flag, h.are_responses, h.is_last, h.is_range, look_said prefix answer h.range read.look h.says) (ap (answered read.look) (sym h.outcome))

-- ---- bodies

abbrev unread : Result Json AnswerFault
unread = Err NotJson

-- a body that is JSON
pub json_of-some : (body : List ℕ) (value : Json) → IsUtf8 body → document body ≡ Some value → json_of body ≡ Ok value
unfolding json_of
json_of-some body value utf8 is = cond-true (is_utf8 body) (json_if (document body)) unread (is_utf8-from_IsUtf8 body utf8) ∙ ap json_if is

-- one that is none
pub json_of-none : (body : List ℕ) → (IsUtf8 body → document body ≡ None) → json_of body ≡ Err NotJson
unfolding json_of
json_of-none body none = elim (cases_Bool (is_utf8 body)) [
  | inl valid ↦ cond-true (is_utf8 body) (json_if (document body)) unread valid ∙ ap json_if (none (IsUtf8-from_is_utf8 body valid))
  | inr invalid ↦ cond-false (is_utf8 body) (json_if (document body)) unread invalid
]

pub look_of-said : (prefix body : List ℕ) (answer : Json) (look : Look) → IsUtf8 body → document body ≡ Some answer → SaysLook prefix answer answer look → look_of prefix body ≡ Ok look
unfolding look_of
look_of-said prefix body answer look utf8 is h = rw (json_of-some body answer utf8 is) (look_said prefix answer answer look h)

pub transaction_of-said : (prefix : List ℕ) (t : Transaction) (body : List ℕ) (answer : Json) (read : TransactionAnswer) → IsUtf8 body → document body ≡ Some answer → SaysTransaction prefix t answer read → transaction_of prefix t body ≡ Ok read
unfolding transaction_of
transaction_of-said prefix t body answer read utf8 is h = rw (json_of-some body answer utf8 is) (transaction_said prefix t answer read h)
