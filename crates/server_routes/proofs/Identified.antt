-- The identifier in a text.
use Rattle.std.proofs.Common.{◌≡◌, ℕ, List, Bool, true, false, cond, Option, None, refl, ap}
use Rattle.std.specs.Str.{IsUtf8, is_utf8}
use Rattle.std.proofs.lemmas.Str.{IsUtf8-from_is_utf8, is_utf8-from_IsUtf8}
use Rattle.uuid.specs.Text.{parsed}
use Rattle.server_routes.specs.Target.{identifier}

pub of_text : (text : List ℕ) → IsUtf8 text → identifier text ≡ parsed text
of_text text is = ap (λ b. cond b (parsed text) None) (is_utf8-from_IsUtf8 text is)

refused : (b : Bool) (id : Option (List ℕ)) → (b ≡ true → ⊥) → cond b id None ≡ None
refused true id isnt = absurd (isnt refl)
refused false id isnt = refl

pub of_none : (text : List ℕ) → (IsUtf8 text → ⊥) → identifier text ≡ None
of_none text isnt = refused (is_utf8 text) (parsed text) (λ is. isnt (IsUtf8-from_is_utf8 text is))
