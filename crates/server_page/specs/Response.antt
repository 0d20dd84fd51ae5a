-- The responses to requests for a file.
use Rattle.std.specs.Prelude.{◌≡◌, ℕ, List, [], ◌∷◌, ◌==◌, map, length, codes, if◌then◌else◌, Some, None}
use Rattle.http_header.specs.FieldValue.{FieldValue, plain_value}
use Rattle.http_header.specs.HeaderMap.{Entries, Entry}
use Rattle.http.specs.Response.{head_of, body_of}
use Rattle.http.specs.declared.response.Response.{Response}
use Rattle.http_body_util.specs.declared.full.Full.{Full}
use Rattle.server_page.specs.File.{type_of}
use Rattle.server_page.specs.FileReply.{told_of}
use Rattle.server_page.specs.PageSettings.{bytes_of}
use Rattle.server_page.specs.Tag.{tag_of}
use Rattle.server_page.specs.declared.file.File.{File}
use Rattle.server_page.specs.declared.file_reply.FileReply.{FileReply}
use Rattle.server_page.specs.declared.file_reply.FileReply.TheVariants.{Whole, Unchanged, WrongMethod}
use Rattle.server_page.specs.declared.page_settings.PageSettings.{PageSettings}

-- RFC 9110, sections 15.3.1, 15.4.5 and 15.5.6
abbrev pub status_of : FileReply → ℕ
status_of Whole = 200
status_of Unchanged = 304
status_of WrongMethod = 405

-- the body; a file that the client has isn't sent
abbrev pub content_of : PageSettings → FileReply → File → List ℕ
content_of settings Whole file = bytes_of settings file
content_of settings Unchanged file = []
content_of settings WrongMethod file = codes "{\"error\":\"method\"}"

-- the version of a file: its tag, which a cache has to validate before it uses the file again (RFC 9111, section
-- 5.2.2.4)
abbrev pub version_of : List ℕ → List (List ℕ × List ℕ)
version_of tag = (codes "etag", tag) ∷ (codes "cache-control", codes "no-cache") ∷ []

-- the header fields and their values
abbrev pub fields_of : PageSettings → FileReply → File → List (List ℕ × List ℕ)
fields_of settings Whole file =
    (codes "etag", tag_of (bytes_of settings file))
    ∷ (codes "cache-control", codes "no-cache")
    ∷ (codes "content-type", type_of file)
    ∷ (codes "x-content-type-options", codes "nosniff")
    ∷ (codes "referrer-policy", codes "no-referrer")
    ∷ (codes "content-security-policy", settings.policy.items)
    ∷ []
fields_of settings Unchanged file = version_of (tag_of (bytes_of settings file))
fields_of settings WrongMethod file = (codes "content-type", codes "application/json") ∷ (codes "allow", codes "GET, HEAD") ∷ []

-- a field as a head has it
abbrev pub field : List ℕ × List ℕ → Entry FieldValue
field f = (f.0, plain_value f.1 ∷ [])

-- the response is this one of a file of the page with these settings
pub record Says (settings : PageSettings) (told : FileReply) (file : File) (response : Response (Full (List ℕ))) : Type 0 where
  pub status : (head_of response).status ≡ status_of told
  pub body : (body_of response).buf ≡ (if length (content_of settings told file) == 0 then None else Some (content_of settings told file))
  pub headers : (head_of response).headers ≡ map field (fields_of settings told file)

-- the response to a request for a file with this method and these header fields
abbrev pub Responds : PageSettings → List ℕ → Entries FieldValue → File → Response (Full (List ℕ)) → Type 0
Responds settings method headers file = Says settings (told_of method headers (tag_of (bytes_of settings file))) file
