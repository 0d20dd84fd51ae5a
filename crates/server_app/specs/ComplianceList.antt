-- The answer about each operator's compliance. The members of each object are in the byte order of their names.
use Rattle.std.specs.Prelude.{ℕ, List, [], ◌∷◌, ◌++◌, Bool, true, false, codes, drop}
use Rattle.mds_text.specs.Printed.{comma_if, printed}
use Rattle.mds_machine.specs.Bodies.{number_json}
use Rattle.server_app.specs.OperatorNames.{Badge}
use Rattle.server_app.specs.Whoami.{badge_json}

-- what is told of an operator: an object with its own answer, as it is, and with the members of the object of its
-- identifier and name, which stand behind that object's opening brace
abbrev pub entry_text : List ℕ → Badge → List ℕ
entry_text body badge = codes "{\"compliance\":" ++ body ++ 44 ∷ drop 1 (printed (badge_json badge))

-- an entry for each answer and its operator, in order
abbrev pub entries_text : Bool → List (List ℕ) → List Badge → List ℕ
entries_text later (body ∷ bodies) (badge ∷ badges) = comma_if later ++ entry_text body badge ++ entries_text true bodies badges
entries_text later bodies badges = []

-- the answer at a moment
abbrev pub compliance_list : ℕ → List (List ℕ) → List Badge → List ℕ
compliance_list at bodies badges =
    codes "{\"at\":" ++ printed (number_json at) ++ codes ",\"operators\":[" ++ entries_text false bodies badges ++ codes "]}"
