-- A request as it came in.
use Rattle.std.specs.Prelude.{ℕ, List, if◌then◌else◌, bytes_eq, codes}
use Rattle.mds_request.specs.declared.request.Request.{Request as Lent}
use Rattle.mds_request.specs.declared.request.Verb.{Verb}
use Rattle.mds_request.specs.declared.request.Verb.TheVariants.{Get, Put, Post, Delete, Other}

-- the verb of a method's name (RFC 9110, section 9), which is in capitals
abbrev pub verb_of : List ℕ → Verb
verb_of name =
    if bytes_eq name (codes "GET") then Get
    else if bytes_eq name (codes "PUT") then Put
    else if bytes_eq name (codes "POST") then Post
    else if bytes_eq name (codes "DELETE") then Delete
    else Other

pub record Request : Type 0 where
  pub at : ℕ
  pub token : List ℕ
  pub verb : Verb
  pub target : List ℕ
  pub body : List ℕ

-- the value of a `Request`
abbrev pub request_of : Lent → Request
request_of r =
    record { at = r.at; token = r.token.now; verb = r.verb; target = r.target.now; body = r.body.now }
