-- Which requests of a body may be reports, for whose records there are reservations.
use Rattle.std.specs.Prelude.{◌≡◌, ◌==◌, ◌||◌, ℕ, Bool, false, not, List, All, Option, Some, None, find}
use Rattle.mds_request.specs.Request.{request_of}
use Rattle.mds_request.specs.declared.request.Request.{Request as Lent}

-- white space of JSON (RFC 8259, section 2): a space, a tab, a line feed or a carriage return
abbrev pub is_space : ℕ → Bool
is_space byte = (byte == 32) || (byte == 9) || (byte == 10) || (byte == 13)

-- the byte, if there is one, begins an object of JSON (RFC 8259, section 4)
abbrev pub begins_object : Option ℕ → Bool
begins_object None = false
begins_object (Some byte) = byte == 123

-- behind white space the line begins as an object does
abbrev pub may_be_report : List ℕ → Bool
may_be_report line = begins_object (find (λ byte. not (is_space byte)) line)

-- each of these requests may be a report, or none may be one
abbrev pub AreAlike : Bool → List Lent → Type 0
AreAlike may_be requests = All (λ request. may_be_report (request_of request).body ≡ may_be) requests
