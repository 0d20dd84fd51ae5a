-- The text of each fault.
use Rattle.std.specs.Prelude.{◌≡◌, ℕ, List, ◌++◌, codes, decimal, Some}
use Rattle.mds_config_error.specs.declared.detail.Detail.{Detail}
use Rattle.mds_config_error.specs.declared.detail.Detail.TheVariants.{Unreadable, TooLong, Found, Untold}
use Rattle.mds_config_error.specs.declared.wrong.Key.{Key}
use Rattle.mds_config_error.specs.declared.wrong.Key.TheVariants.{Id, Token}
use Rattle.mds_config_error.specs.declared.wrong.OperatorFlaw.{OperatorFlaw}
use Rattle.mds_config_error.specs.declared.wrong.OperatorFlaw.TheVariants as flaw
use Rattle.mds_config_error.specs.declared.wrong.Wrong.{Wrong}
use Rattle.mds_config_error.specs.declared.wrong.Wrong.TheVariants as wrong
use Rattle.mds_config_error.specs.Diagnosis.{wrong_in}

-- the text after the operator
abbrev pub flaw_wording : OperatorFlaw → List ℕ
flaw_wording flaw.Entry = codes ": not an object"
flaw_wording flaw.Id = codes ".id: not a UUID"
flaw_wording flaw.Limit = codes ".limit: not a whole number"
flaw_wording flaw.LimitRange = codes ".limit: out of range (1 to 200000)"
flaw_wording flaw.Token = codes ".token: not an access token (1 to 64 of A-Z a-z 0-9 - _)"

-- the operator at a place, which is counted from 0
abbrev pub operator_wording : ℕ → List ℕ
operator_wording place = codes "operators[" ++ decimal place ++ codes "]"

abbrev pub pair_wording : ℕ → ℕ → List ℕ
pair_wording first second = operator_wording first ++ codes " and " ++ operator_wording second

abbrev pub key_wording : Key → List ℕ
key_wording Id = codes "id"
key_wording Token = codes "token"

abbrev pub wrong_wording : Wrong → List ℕ
wrong_wording wrong.Json = codes "not JSON"
wrong_wording wrong.Document = codes "not a JSON object"
wrong_wording wrong.Author = codes "author: not an access token (1 to 64 of A-Z a-z 0-9 - _)"
wrong_wording wrong.Operators = codes "operators: not a list"
wrong_wording wrong.TooManyOperators = codes "operators: more than 64"
wrong_wording (wrong.Operator place f) = operator_wording place ++ flaw_wording f
wrong_wording wrong.Zone = codes "zone: not a time zone (Z, +hh:mm, -hh:mm or a POSIX rule)"
wrong_wording (wrong.Alike key first second) = pair_wording first second ++ codes ": the same " ++ key_wording key
wrong_wording (wrong.AuthorsToken place) = codes "author and " ++ operator_wording place ++ codes ": the same token"

abbrev pub detail_wording : Detail → List ℕ
detail_wording Unreadable = codes "not readable"
detail_wording TooLong = codes "longer than 2097152 bytes"
detail_wording (Found w) = wrong_wording w
detail_wording Untold = codes "no memory to say what is wrong"

-- the detail is what is wrong with the text, or `Untold`
abbrev pub IsFound : Detail → List ℕ → Type 0
IsFound (Found w) bytes = wrong_in bytes ≡ Some w
IsFound detail bytes = detail ≡ Untold
