-- An entry of the answer about each operator's compliance.
use Rattle.std.proofs.Common.{◌≡◌, ℕ, List, ◌∷◌, ◌++◌, codes, drop, refl, ap, ◌∙◌, append_assoc}
use Rattle.mds_text.specs.Printed.{printed}
use Rattle.server_app.specs.ComplianceList.{entry_text}
use Rattle.server_app.specs.OperatorNames.{Badge}
use Rattle.server_app.specs.Whoami.{badge_json}

-- the pieces of an entry, appended to a text one after another
pieces : (text a b c : List ℕ) → ((text ++ a) ++ b) ++ c ≡ text ++ ((a ++ b) ++ c)
pieces text a b c = simp append_assoc refl

-- it is the object of the answer and of the members of the operator's own object
pub entry_is : (before comma body : List ℕ) (badge : Badge) (name middle after : List ℕ) → middle ≡ before ++ comma → name ≡ printed (badge_json badge)
    → after ≡ middle ++ codes "{\"compliance\":" ++ body ++ 44 ∷ drop 1 name → after ≡ before ++ comma ++ entry_text body badge
entry_is before comma body badge name middle after begun named is =
    is ∙ ap (λ (text : List ℕ). middle ++ codes "{\"compliance\":" ++ body ++ 44 ∷ drop 1 text) named
    ∙ pieces middle (codes "{\"compliance\":") body (44 ∷ drop 1 (printed (badge_json badge))) ∙ ap (λ (text : List ℕ). text ++ entry_text body badge) begun
