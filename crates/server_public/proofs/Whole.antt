-- All documents, in a period without bounds.
use Rattle.std.proofs.Common.{◌≡◌, ◌==◌, ℕ, Bool, true, List, [], ◌∷◌, length, map, filter, None, refl, ap, arith}
use Rattle.std.proofs.lemmas.Bool.Decides.{nat_tests}
use Rattle.server_public.specs.Documents.{Notice}
use Rattle.server_public.specs.Period.{is_in}
use Rattle.server_public.specs.View.{notice}
use Rattle.server_public.specs.declared.public_document.PublicDocument as program

pub all_in : (ns : List Notice) → filter (is_in (record { from = None; to = None })) ns ≡ ns
all_in [] = refl
all_in (n ∷ ns) = ap (λ rest. n ∷ rest) (all_in ns)

pub texts_seen : (ns : List program.PublicDocument) → map (λ n. n.text) (map notice ns) ≡ map (λ n. n.text.items) ns
texts_seen [] = refl
texts_seen (n ∷ ns) = ap (λ rest. n.text.items ∷ rest) (texts_seen ns)

some_byte : (b : ℕ) (query : List ℕ) → (length (b ∷ query) == 0) ≡ true → ⊥
some_byte b query is = grind (arith, nat_tests)

pub no_query : (query : List ℕ) → (length query == 0) ≡ true → query ≡ []
no_query [] is = refl
no_query (b ∷ query) is = absurd (some_byte b query is)
