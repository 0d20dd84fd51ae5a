-- Which response a request for a file gets.
use Rattle.std.specs.Prelude.{ℕ, List, Bool, ◌||◌, bytes_eq, codes, if◌then◌else◌}
use Rattle.http_header.specs.FieldValue.{FieldValue}
use Rattle.http_header.specs.HeaderMap.{Entries}
use Rattle.server_page.specs.Tag.{is_named_in}
use Rattle.server_page.specs.declared.file_reply.FileReply.{FileReply}
use Rattle.server_page.specs.declared.file_reply.FileReply.TheVariants.{Whole, Unchanged, WrongMethod}

-- a method by which a file is read (RFC 9110, sections 9.3.1 and 9.3.2)
abbrev pub reads : List ℕ → Bool
reads method = bytes_eq method (codes "GET") || bytes_eq method (codes "HEAD")

-- Any other method is refused. A client that names the file's tag has the file already (RFC 9110,
-- section 13.1.2).
abbrev pub told_of : List ℕ → Entries FieldValue → List ℕ → FileReply
told_of method headers tag =
    if reads method then (if is_named_in headers tag then Unchanged else Whole)
    else WrongMethod
