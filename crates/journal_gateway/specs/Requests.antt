-- Requests, by http1's words for what a client writes.
use Rattle.std.specs.Prelude.{ℕ, List, [], ◌∷◌, ◌++◌, codes, length, Option, Some, None}
use Rattle.http1.specs.Client.{planned_request, after_request, writing}
use Rattle.http1.specs.Conn.{data_text, after_data, finish_text}
use Rattle.http1.specs.Fields.{Header}
use Rattle.http1.specs.declared.client.Client.{Client}
use Rattle.http1.specs.declared.conn.BodySize.TheVariants.{Known}

-- the fields of a request, but for its length
abbrev pub fields_of : List ℕ → Option (List ℕ) → List Header
fields_of host None = (codes "host", host) ∷ []
fields_of host (Some token) = (codes "host", host) ∷ (codes "authorization", token) ∷ []

-- a POST of a body of known length
abbrev pub head_text : Client → (path host : List ℕ) → Option (List ℕ) → ℕ → List ℕ
head_text client path host token size = planned_request client (codes "POST") path (Known size) (fields_of host token)

abbrev pub behind_head : Client → (host : List ℕ) → Option (List ℕ) → ℕ → Client
behind_head client host token size = after_request client (codes "POST") (Known size) (fields_of host token)

-- the head, the body, and its end
abbrev pub request_text : Client → (path host : List ℕ) → Option (List ℕ) → List ℕ → List ℕ
request_text client path host token body =
    let sent = writing (behind_head client host token (length body)) in
    head_text client path host token (length body)
    ++ data_text sent body ++ finish_text (after_data sent (length body)) []
