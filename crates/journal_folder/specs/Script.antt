-- A request as a line of a script.
use Rattle.std.specs.Prelude.{ℕ, ◌==◌, ◌||◌, List, [], ◌∷◌, ◌++◌, map, codes, if◌then◌else◌}
use Rattle.std.specs.Fmt.{decimal}
use Rattle.mds_request.specs.Request.{Request}
use Rattle.mds_request.specs.declared.request.Verb.{Verb}
use Rattle.mds_request.specs.declared.request.Verb.TheVariants.{Get, Put, Post, Delete, Other}

-- the word of a method; that of any other method is no method's
abbrev pub word_of : Verb → List ℕ
word_of Get = codes "GET"
word_of Put = codes "PUT"
word_of Post = codes "POST"
word_of Delete = codes "DELETE"
word_of Other = codes "OTHER"

-- a line break becomes a space; a JSON text may have either
abbrev pub blank : ℕ → ℕ
blank byte = if (byte == 10) || (byte == 13) then 32 else byte

abbrev pub blanked : List ℕ → List ℕ
blanked text = map blank text

-- a body, after a space unless it is empty
abbrev pub body_text : List ℕ → List ℕ
body_text [] = []
body_text (byte ∷ bytes) = 32 ∷ blanked (byte ∷ bytes)

-- the moment, the access token, the method, the target and the body, each after a space, and the line break
abbrev pub request_text : Request → List ℕ
request_text r =
    decimal r.at ++ (32 ∷ []) ++ r.token ++ (32 ∷ []) ++ word_of r.verb ++ (32 ∷ []) ++ r.target ++ body_text r.body ++ (10 ∷ [])
