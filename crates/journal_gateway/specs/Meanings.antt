-- What a response means, and which member is asked next.
use Rattle.std.specs.Prelude.{ℕ, ◌+◌, ◌==◌, nat_lt, if◌then◌else◌}
use Rattle.journal_gateway.specs.declared.meaning.ReplyMeaning.{ReplyMeaning}
use Rattle.journal_gateway.specs.declared.meaning.ReplyMeaning.TheVariants.{Answer, EndedToken, Undecided}

-- 200 is an answer, and 401 asks for a new token; by any other nothing is known
abbrev pub meaning_of : ℕ → ReplyMeaning
meaning_of status = if status == 200 then Answer else if status == 401 then EndedToken else Undecided

-- the one behind it, and the first behind the last
abbrev pub next_member : ℕ → ℕ → ℕ
next_member current count = if nat_lt (current + 1) count then current + 1 else 0
