-- Some reply of one line is possible at any time without changing the state: the refusal of a request that has no call,
-- or the one for out of memory.
use Rattle.std.proofs.Common.{◌≡◌, ◌≢◌, Result, Ok, Err, inl, inr, refl, sym, ap, ◌∙◌}
use Rattle.std.specs.Prelude.{IsTrue}
use Rattle.mds_request.specs.Call.{call_of}
use Rattle.mds_request.specs.Code.{body_of}
use Rattle.mds_request.specs.Reply.{Reply, is_line, refused}
use Rattle.mds_request.specs.Request.{Request}
use Rattle.mds_request.specs.declared.call.Call.{Call}
use Rattle.mds_request.specs.declared.code.Code.{Code}
use Rattle.mds_request.specs.declared.code.Code.TheVariants.{BadLine, NoMemory}
use Rattle.mds_machine.specs.Step.{State, Step}
use Rattle.mds_machine.proofs.Steps.{call_step}

-- the body of each refusal is one line
refused_line : (code : Code) → IsTrue (is_line (body_of code))
refused_line BadLine = refl
refused_line other = refl

-- some reply of one line that doesn't change the state
abbrev pub SomeReply : State → Request → Type 0
SomeReply w request = (reply : Reply) × Step w request reply w × IsTrue (is_line reply.body)

by_call : (w : State) (request : Request) (called : Result Call Code) → call_of w.configuration request ≡ called → SomeReply w request
by_call w request (Ok call) is = (
  refused NoMemory,
  inr (record { fits = λ large. absurd (let no = sym is ∙ large in cc); known = λ nobody. absurd (let no = sym is ∙ nobody in cc) }, refl, refl),
  refl,
)
by_call w request (Err code) is =
    (refused code, inl (sym (ap (λ c. (call_step w c request).0) is), sym (ap (λ c. (call_step w c request).1) is)), refused_line code)

pub some_reply : (w : State) (request : Request) → SomeReply w request
some_reply w request = by_call w request (call_of w.configuration request) refl
