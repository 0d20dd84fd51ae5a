-- Tokens of a cluster's users (etcd API v3, service Auth).
use Rattle.std.specs.Prelude.{ℕ, ◌&&◌, nat_lt, nat_le, Bool, List, [], ◌∷◌, codes, length}
use Rattle.std.specs.List.{list_all}
use Rattle.json.specs.Print.{print}
use Rattle.json.specs.Token.{begin_object, end_object, key, string}
use Rattle.journal_gateway.specs.declared.token.TheConstants.{MOST_TOKEN}

-- an object of two texts
abbrev pub token_json : List ℕ → List ℕ → List ℕ
token_json name password =
    print (begin_object ∷ key (codes "name") ∷ string name ∷ key (codes "password") ∷ string password ∷ end_object ∷ [])

-- printable ASCII, and no space
abbrev pub is_token_byte : ℕ → Bool
is_token_byte byte = nat_le 33 byte && nat_le byte 126

-- what may stand in a field of a request's head
abbrev pub is_token : List ℕ → Bool
is_token text = (nat_lt 0 (length text) && nat_le (length text) MOST_TOKEN) && list_all is_token_byte text
