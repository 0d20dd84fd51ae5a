-- The answer to a request's head (RFC 9112, sections 2 to 5), by httparse's grammar.
use Rattle.std.specs.Prelude.{◌≡◌, ℕ, ◌||◌, not, map, List, Bool, true, nat_lt, if◌then◌else◌, Option, Some, None}
use Rattle.httparse.specs.Grammar.{RequestHead, ReadsRequest, HasNoRequest}
use Rattle.httparse.specs.Spans.{name_and_value, RequestOverflows}
use Rattle.server_control.specs.Admission.{admission_of}
use Rattle.server_control.specs.Pages.{answer_of, is_head}
use Rattle.server_control.specs.declared.admission.Admission.{Admission}
use Rattle.server_control.specs.declared.admission.Admission.TheVariants.{Admitted, Malformed, Forbidden}
use Rattle.server_control.specs.declared.hosts.Hosts.{Hosts}
use Rattle.server_control.specs.declared.pages.ControlAnswer.{ControlAnswer}
use Rattle.server_control.specs.declared.pages.ControlAnswer.TheVariants as answers
use Rattle.server_control.specs.declared.request.ControlHead.{ControlHead}
use Rattle.server_control.specs.declared.request.ControlHead.TheVariants.{Whole, Partial, Broken}
use Rattle.server_control.specs.declared.request.ControlReply.{ControlReply}
use Rattle.server_control.specs.declared.request.TheConstants.{MOST_FIELDS, MOST_OF_HEAD}

-- a request gets its own answer only where it is let in
abbrev pub answer_if : Admission → ControlAnswer → ControlAnswer
answer_if Admitted asked = asked
answer_if Malformed asked = answers.Unread
answer_if Forbidden asked = answers.Forbidden

abbrev pub answer_to : Hosts → Bool → RequestHead → ControlAnswer
answer_to hosts serves head =
    answer_if (admission_of hosts head.minor (map name_and_value head.fields)) (answer_of head.method head.target serves)

-- the reply to a head; that to a HEAD has no body (RFC 9110, section 9.3.2)
abbrev pub reply_to : Hosts → Bool → RequestHead → ControlReply
reply_to hosts serves head = record { answer = answer_to hosts serves head; has_body = not (is_head head.method) }

-- the bytes begin with a head that has this reply
abbrev pub IsAnswered : List ℕ → Hosts → Bool → ControlReply → Type 0
IsAnswered bytes hosts serves reply =
    (head : RequestHead) × (rest : List ℕ) × ReadsRequest bytes head rest × (reply ≡ reply_to hosts serves head)

-- a head at the start of the bytes; none yet; or the bytes can begin with none that has no more fields than are read
abbrev pub HeadingOf : List ℕ → Hosts → Bool → ControlHead → Type 0
HeadingOf bytes hosts serves (Whole reply) = IsAnswered bytes hosts serves reply
HeadingOf bytes hosts serves Partial = HasNoRequest bytes
HeadingOf bytes hosts serves Broken = RequestOverflows MOST_FIELDS bytes

-- the reply to what is no request
abbrev pub unread : ControlReply
unread = record { answer = answers.Unread; has_body = true }

-- the reply that is due: none yet, while more of a head may come
abbrev pub due_of : ControlHead → ℕ → Bool → Option ControlReply
due_of (Whole reply) count is_over = Some reply
due_of Broken count is_over = Some unread
due_of Partial count is_over = if is_over || nat_lt MOST_OF_HEAD count then Some unread else None
