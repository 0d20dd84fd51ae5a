-- Whether a configuration turns the public documents on.
use Rattle.std.specs.Prelude.{ℕ, List, Bool, false, codes, Option, Some, Result, Ok, Err}
use Rattle.mds_text.specs.Fault.{Fault}
use Rattle.mds_text.specs.Fields.{find_member}
use Rattle.mds_text.specs.Reading.{read_text}
use Rattle.mds_text.specs.Tree.{Json, boolean, object}

-- there is a value, and it is true
abbrev pub is_true : Option Json → Bool
is_true (Some (boolean b)) = b
is_true value = false

-- a value has a member `public` that is true
abbrev pub says_public : Json → Bool
says_public (object ms) = is_true (find_member (codes "public") ms)
says_public value = false

abbrev pub reads_public : Result Json Fault → Bool
reads_public (Ok value) = says_public value
reads_public (Err fault) = false

-- a configuration's text turns them on
abbrev pub is_public : List ℕ → Bool
is_public text = reads_public (read_text text)
