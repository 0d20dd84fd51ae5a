-- The JSON value that a text denotes (RFC 8259), as `serde_json` reads it once the numbers that aren't plain are
-- quoted: at most 127 levels deep, of equal names the last, and names in byte order.
use Rattle.std.specs.Prelude.{ℕ, suc, ℤ, pos, negsuc, ◌^◌, nat_lt, if◌then◌else◌, List, Option, Some, None, Result, Ok, Err}
use Rattle.std.specs.Str.{is_utf8}
use Rattle.serde_json.specs.Data as source
use Rattle.serde_json.specs.Read.{read}
use Rattle.mds_text.specs.Fault.{Fault, bad_json, ◌>>=◌}
use Rattle.mds_text.specs.Quoting.{quoted_text}
use Rattle.mds_text.specs.Tree.{Json, null, boolean, int, text, list, object, Items, no_items, item, Members, no_members, member}

-- a whole number of at most 18 digits
abbrev pub plain_int : source.Num → Result ℤ Fault
plain_int (source.unsigned n) = if nat_lt n (10 ^ 18) then Ok (pos n) else Err bad_json
plain_int (source.negative (negsuc n)) = if nat_lt (suc n) (10 ^ 18) then Ok (negsuc n) else Err bad_json
plain_int other = Err bad_json

-- the value read by `serde_json`, where its numbers are plain whole numbers
abbrev mutual
  pub json_of : source.Data → Result Json Fault
  json_of source.null = Ok null
  json_of (source.boolean b) = Ok (boolean b)
  json_of (source.number n) = plain_int n >>= λ z. Ok (int z)
  json_of (source.string s) = Ok (text s)
  json_of (source.array ds) = items_from ds >>= λ ts. Ok (list ts)
  json_of (source.object ms) = members_from ms >>= λ ts. Ok (object ts)

  pub items_from : source.Items → Result Items Fault
  items_from source.no_items = Ok no_items
  items_from (source.item d ds) = json_of d >>= λ t. items_from ds >>= λ ts. Ok (item t ts)

  pub members_from : source.Members → Result Members Fault
  members_from source.no_members = Ok no_members
  members_from (source.member name d ms) = json_of d >>= λ t. members_from ms >>= λ ts. Ok (member name t ts)

-- the same, where anything was read
abbrev pub json_of_read : Option source.Data → Result Json Fault
json_of_read None = Err bad_json
json_of_read (Some d) = json_of d

-- the value of a JSON text
abbrev pub read_json : List ℕ → Result Json Fault
read_json bytes = if is_utf8 bytes then json_of_read (read bytes) else Err bad_json

-- the value that a text denotes: its numbers that aren't plain are quoted first
abbrev pub read_text : List ℕ → Result Json Fault
read_text bytes = read_json (quoted_text bytes)
