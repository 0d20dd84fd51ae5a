-- What the status of a response means for what was sent (PROTOCOL, refusals).
use Rattle.std.specs.Prelude.{ℕ, ◌==◌, ◌||◌, nat_le, if◌then◌else◌}
use Rattle.cli_transfer.specs.declared.meaning.Meaning.{Meaning}
use Rattle.cli_transfer.specs.declared.meaning.Meaning.TheVariants.{Taken, Refused, Barred, Unavailable}

-- 200: it is accepted; 401 and 403: the client may send nothing; from 500 on the server can't accept anything now; any
-- other status refuses it alone
abbrev pub meaning_of : ℕ → Meaning
meaning_of status =
    if status == 200 then Taken
    else (if (status == 401) || (status == 403) then Barred
    else (if nat_le 500 status then Unavailable else Refused))
