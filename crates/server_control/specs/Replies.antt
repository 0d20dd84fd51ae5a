-- The text of a reply (RFC 9112, section 2.1).
use Rattle.std.specs.Prelude.{ℕ, List, [], ◌++◌, codes, decimal, length, if◌then◌else◌}
use Rattle.server_control.specs.Pages.{methods_of, status_of}
use Rattle.server_control.specs.declared.pages.ControlAnswer.{ControlAnswer}
use Rattle.server_control.specs.declared.pages.ControlAnswer.TheVariants.{NotAllowed}
use Rattle.server_control.specs.declared.request.ControlReply.{ControlReply}

-- without a reason phrase (RFC 9112, section 4)
abbrev pub status_line : ℕ → List ℕ
status_line status = codes "HTTP/1.1 " ++ decimal status ++ codes " \r\n"

-- a 405, and no other answer, names the methods that the page takes (RFC 9110, sections 10.2.1 and 15.5.6)
abbrev pub allow_field : ControlAnswer → List ℕ
allow_field (NotAllowed method) = codes "allow: " ++ methods_of method ++ codes "\r\n"
allow_field _ = []

-- the fields that each reply has, of which one tells that the connection is closed behind it (RFC 9112, section 9.6),
-- and the end of its head
abbrev pub other_fields : ℕ → List ℕ
other_fields count =
    codes "content-type: text/plain; charset=utf-8\r\ncontent-length: " ++ decimal count
    ++ codes "\r\nconnection: close\r\n\r\n"

-- the content, which the response to a HEAD hasn't; the fields are the same (RFC 9110, section 9.3.2)
abbrev pub content : ControlReply → List ℕ → List ℕ
content reply body = if reply.has_body then body else []

abbrev pub reply_text : ControlReply → List ℕ → List ℕ
reply_text reply body =
    status_line (status_of reply.answer) ++ allow_field reply.answer ++ other_fields (length body) ++ content reply body
