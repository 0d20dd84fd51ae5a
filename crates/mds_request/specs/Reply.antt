-- The reply to a request: a status and one line.
use Rattle.std.specs.Prelude.{ℕ, List, Bool, IsTrue, not, ◌==◌}
use Rattle.std.specs.List.{list_all}
use Rattle.mds_request.specs.declared.code.Code.{Code}
use Rattle.mds_request.specs.declared.reply.Content.{Content}
use Rattle.mds_request.specs.declared.reply.Content.TheVariants.{Success, Refused}
use Rattle.mds_request.specs.Code.{status_of, body_of}

pub record Reply : Type 0 where
  pub status : ℕ
  pub body : List ℕ

-- the bytes are one line: none of them ends a line
abbrev pub is_line : List ℕ → Bool
is_line body = list_all (λ b. not (b == 10)) body

-- a success with this body
abbrev pub success : List ℕ → Reply
success body = record { status = 200; body = body }

-- the reply of a refusal
abbrev pub refused : Code → Reply
refused code = record { status = status_of code; body = body_of code }

-- the value of a `Reply`
abbrev pub answer_of : Content → Reply
answer_of (Success body) = success body.items
answer_of (Refused code) = refused code

abbrev pub IsOneLine : Content → Type 0
IsOneLine content = IsTrue (is_line (answer_of content).body)
