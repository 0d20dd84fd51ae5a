-- A configuration, and requests under it.
use Rattle.std.specs.Prelude.{ℕ, pos, List, [], ◌∷◌, ◌++◌, codes}
use Rattle.mds_match.specs.Zone.{fixed}
use Rattle.mds_request.specs.Configuration.{Configuration, Operator}
use Rattle.mds_request.specs.Request.{Request}
use Rattle.mds_request.specs.declared.request.Verb.{Verb}
use Rattle.tests_examples_core.specs.Ids.{id_text}
use Rattle.tests_examples_core.specs.Publications.{first_operator, second_operator}

-- the text of a configuration, with the author's access token, the first operator's limit and the zone
abbrev pub configuration_text : List ℕ → List ℕ → List ℕ → List ℕ
configuration_text author limit zone =
    codes "{\"author\":\"" ++ author ++ codes "\",\"operators\":[{\"id\":\"" ++ id_text (codes "0a1") ++ codes "\",\"limit\":" ++ limit
    ++ codes ",\"token\":\"alfa\"},{\"id\":\"" ++ id_text (codes "0b1") ++ codes "\",\"limit\":2,\"token\":\"bravo\"}],\"zone\":\"" ++ zone ++ codes "\"}"

-- two operators, each with at most two vehicles
abbrev pub alfa : Operator
alfa = record { id = first_operator; limit = 2; token = codes "alfa" }

abbrev pub bravo : Operator
bravo = record { id = second_operator; limit = 2; token = codes "bravo" }

-- the configuration with these two operators, in UTC
abbrev pub configuration : Configuration
configuration =
    record {
      author = codes "city";
      operators = alfa ∷ bravo ∷ [];
      zone = fixed (pos 0);
    }

abbrev pub request : ℕ → List ℕ → Verb → List ℕ → List ℕ → Request
request at token verb target body = record { at = at; token = token; verb = verb; target = target; body = body }
