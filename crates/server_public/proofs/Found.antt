-- A document that is found among the public documents.
use Rattle.std.proofs.Common.{◌≡◌, ℕ, Bool, true, false, cond, List, [], ◌∷◌, map, find, bytes_eq, Option, Some, None, option_map, option_copied, refl, ap, ◌∙◌}
use denote.Ref.{Bor}
use Rattle.server_public.specs.Documents.{Notice}
use Rattle.server_public.specs.View.{notice}
use Rattle.server_public.specs.declared.public_document.PublicDocument as program

pub seen_copied : (o : Option (Bor program.PublicDocument)) → option_map (λ n. notice n.now) o ≡ option_map notice (option_copied o)
seen_copied None = refl
seen_copied (Some n) = refl

chosen : (b : Bool) (n : program.PublicDocument) (o : Option program.PublicDocument) → option_map notice (cond b (Some n) o) ≡ cond b (Some (notice n)) (option_map notice o)
chosen true n o = refl
chosen false n o = refl

pub found_seen : (id : List ℕ) (ns : List program.PublicDocument) → option_map notice (find (λ n. bytes_eq n.id id) ns) ≡ find (λ n. bytes_eq n.id id) (map notice ns)
found_seen id [] = refl
found_seen id (n ∷ ns) = chosen (bytes_eq n.id id) n (find (λ n. bytes_eq n.id id) ns) ∙ ap (cond (bytes_eq n.id id) (Some (notice n))) (found_seen id ns)
