-- The pages of the control port: each has a path and takes one method.
use Rattle.std.specs.Prelude.{ℕ, List, Option, Some, None, Bool, bytes_eq, codes, if◌then◌else◌}
use Rattle.server_control.specs.declared.pages.ControlPage.{ControlPage}
use Rattle.server_control.specs.declared.pages.ControlPage.TheVariants as page
use Rattle.server_control.specs.declared.pages.ControlMethod.{ControlMethod}
use Rattle.server_control.specs.declared.pages.ControlMethod.TheVariants.{Get, Post}
use Rattle.server_control.specs.declared.pages.ControlAnswer.{ControlAnswer}
use Rattle.server_control.specs.declared.pages.ControlAnswer.TheVariants.{Healthy, Unready, Metrics, Stops, Unread, Forbidden, NotFound, NotAllowed}

abbrev pub page_of : List ℕ → Option ControlPage
page_of path =
    if bytes_eq path (codes "/healthz") then Some page.Health
    else (if bytes_eq path (codes "/metrics") then Some page.Metrics
    else (if bytes_eq path (codes "/stop") then Some page.Stop else None))

-- what is read takes GET, and HEAD with it, and what changes the server takes POST (RFC 9110, section 9.3)
abbrev pub method_of : ControlPage → ControlMethod
method_of page.Health = Get
method_of page.Metrics = Get
method_of page.Stop = Post

abbrev pub method_name : ControlMethod → List ℕ
method_name Get = codes "GET"
method_name Post = codes "POST"

-- the methods of a page that takes this one
abbrev pub methods_of : ControlMethod → List ℕ
methods_of Get = codes "GET, HEAD"
methods_of Post = codes "POST"

abbrev pub is_head : List ℕ → Bool
is_head method = bytes_eq method (codes "HEAD")

-- HEAD is answered as GET is (RFC 9110, section 9.3.2)
abbrev pub as_get : List ℕ → List ℕ
as_get method = if is_head method then codes "GET" else method

-- the answer of a page, where the server serves or doesn't
abbrev pub answer_at : ControlPage → Bool → ControlAnswer
answer_at page.Health serves = if serves then Healthy else Unready
answer_at page.Metrics serves = Metrics
answer_at page.Stop serves = Stops

-- the answer to a method of the page at a path, if there is one; another method is told those that the page takes
abbrev pub answered : List ℕ → Option ControlPage → Bool → ControlAnswer
answered method None serves = NotFound
answered method (Some page) serves =
    if bytes_eq (as_get method) (method_name (method_of page)) then answer_at page serves
    else NotAllowed (method_of page)

abbrev pub answer_of : List ℕ → List ℕ → Bool → ControlAnswer
answer_of method path serves = answered method (page_of path) serves

-- RFC 9110, section 15
abbrev pub status_of : ControlAnswer → ℕ
status_of Healthy = 200
status_of Metrics = 200
status_of Stops = 202
status_of Unread = 400
status_of Forbidden = 403
status_of NotFound = 404
status_of (NotAllowed method) = 405
status_of Unready = 503
