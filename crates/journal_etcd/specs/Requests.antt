-- The bodies of requests to etcd's JSON gateway (etcd API v3, service KV): keys and values in base64 (RFC 4648,
-- section 4).
use Rattle.std.specs.Prelude.{ℕ, ◌&&◌, ◌==◌, nat_lt, nat_le, Bool, List, [], ◌++◌, codes, if◌then◌else◌, Option, Some}
use Rattle.std.specs.Prelude.{None}
use Rattle.base64.specs.Engines.{standard}
use Rattle.base64.specs.GeneralPurpose.{encode_of}
use Rattle.journal_register.specs.Order.{is_owner, is_head}
use Rattle.journal_register.specs.declared.owner.Owner.{Owner}
use Rattle.journal_register.specs.declared.owner.TheConstants.{NOBODY}
use Rattle.journal_register.specs.declared.head.Generation.{Generation}
use Rattle.journal_register.specs.declared.head.Head.{Head}
use Rattle.journal_register.specs.declared.head.TheConstants.{NO_HEAD}
use Rattle.journal_register.specs.declared.transaction.ChunkKey.{ChunkKey}
use Rattle.journal_register.specs.declared.transaction.Transaction.{Transaction}
use Rattle.journal_etcd.specs.Keys.{head_key, owner_key, behind_owner, chunk_key, chunks_begin, chunks_end}
use Rattle.journal_etcd.specs.Values.{owner_value, head_value}
use Rattle.journal_etcd.specs.declared.requests.GatewayPath.{GatewayPath}
use Rattle.journal_etcd.specs.declared.requests.GatewayPath.TheVariants.{Range, Transaction as ToTransaction}
use Rattle.journal_etcd.specs.declared.requests.TheConstants.{MOST_CHUNK}

-- where a body is posted to
abbrev pub path_text : GatewayPath → List ℕ
path_text Range = codes "/v3/kv/range"
path_text ToTransaction = codes "/v3/kv/txn"

unfoldable pub base64 : List ℕ → List ℕ
base64 bytes = encode_of standard bytes

-- a member of a JSON object whose value is these bytes
unfoldable pub bytes_member : List ℕ → List ℕ → List ℕ
bytes_member name bytes = codes "\"" ++ name ++ codes "\":\"" ++ base64 bytes ++ codes "\""

-- all keys from one on, up to another
unfoldable pub range_members : List ℕ → List ℕ → List ℕ
range_members first behind = bytes_member (codes "key") first ++ codes "," ++ bytes_member (codes "range_end") behind

-- the key has this value
unfoldable pub value_compare : List ℕ → List ℕ → List ℕ
value_compare key value =
    codes "{" ++ bytes_member (codes "key") key ++ codes ",\"target\":\"VALUE\",\"result\":\"EQUAL\","
    ++ bytes_member (codes "value") value ++ codes "}"

-- the key isn't there
unfoldable pub missing_compare : List ℕ → List ℕ
missing_compare key =
    codes "{" ++ bytes_member (codes "key") key
    ++ codes ",\"target\":\"CREATE\",\"result\":\"EQUAL\",\"create_revision\":\"0\"}"

unfoldable pub owner_compare : List ℕ → Owner → List ℕ
owner_compare prefix owner =
    if is_owner owner NOBODY then missing_compare (owner_key prefix)
    else value_compare (owner_key prefix) (owner_value owner)

unfoldable pub head_compare : List ℕ → Head → List ℕ
head_compare prefix head =
    if is_head head NO_HEAD then missing_compare (head_key prefix)
    else value_compare (head_key prefix) (head_value head)

-- all that a transaction compares
unfoldable pub compares_json : List ℕ → Owner → Option Head → List ℕ
compares_json prefix owner None = owner_compare prefix owner
compares_json prefix owner (Some head) = owner_compare prefix owner ++ codes "," ++ head_compare prefix head

-- puts and a removal, each with a comma behind it

unfoldable pub put_of : List ℕ → List ℕ → List ℕ
put_of key value =
    codes "{\"request_put\":{" ++ bytes_member (codes "key") key ++ codes "," ++ bytes_member (codes "value") value
    ++ codes "}},"

-- all keys from one on, up to another, are removed
unfoldable pub removal_of : List ℕ → List ℕ → List ℕ
removal_of first behind = codes "{\"request_delete_range\":{" ++ range_members first behind ++ codes "}},"

unfoldable pub owner_put : List ℕ → Option Owner → List ℕ
owner_put prefix None = []
owner_put prefix (Some owner) = put_of (owner_key prefix) (owner_value owner)

unfoldable pub head_put : List ℕ → Option Head → List ℕ
head_put prefix None = []
head_put prefix (Some head) = put_of (head_key prefix) (head_value head)

unfoldable pub chunk_put : List ℕ → Option ChunkKey → List ℕ → List ℕ
chunk_put prefix None bytes = []
chunk_put prefix (Some key) bytes = put_of (chunk_key prefix key.generation key.index) bytes

unfoldable pub chunks_removal : List ℕ → Option Generation → List ℕ
chunks_removal prefix None = []
chunks_removal prefix (Some generation) = removal_of (chunks_begin prefix generation) (chunks_end prefix generation)

-- all that a transaction puts and removes
unfoldable pub writes_json : List ℕ → Transaction → List ℕ → List ℕ
writes_json prefix t bytes =
    owner_put prefix t.new_owner ++ head_put prefix t.new_head ++ chunk_put prefix t.chunk bytes
    ++ chunks_removal prefix t.deleted

-- both keys of a register
unfoldable pub register_range : List ℕ → List ℕ
register_range prefix = codes "{" ++ range_members (head_key prefix) (behind_owner prefix) ++ codes "}"

-- the same as a part of a transaction
unfoldable pub range_part : List ℕ → List ℕ
range_part prefix = codes "{\"request_range\":" ++ register_range prefix ++ codes "}"

-- A transaction. Whether its compares hold or not, the answer ends with what both keys have then: one that only
-- compares isn't confirmed by a majority of etcd's members.
unfoldable pub transaction_json : List ℕ → Transaction → List ℕ → List ℕ
transaction_json prefix t bytes =
    codes "{\"compare\":[" ++ compares_json prefix t.owner t.head ++ codes "],\"success\":["
    ++ writes_json prefix t bytes ++ range_part prefix ++ codes "],\"failure\":[" ++ range_part prefix ++ codes "]}"

-- whether so many bytes are a chunk's, where one is put, else none
abbrev pub is_chunk : Option ChunkKey → ℕ → Bool
is_chunk None count = count == 0
is_chunk (Some key) count = nat_lt 0 count && nat_le count MOST_CHUNK
