-- Books that are under their names, and one that is taken out.
use Rattle.std.proofs.Common.{◌≡◌, ℕ, zero, suc, ◌<◌, List, [], ◌∷◌, length, map, Option, Some, None, option_map, slice_get, slice_set, unwrap_or, IfSome, refl, sym, ap, ◌∙◌}
use Rattle.logbook.specs.Pages.{Book}
use Rattle.server_state.specs.TurnBooks.{AreNamed}
use Rattle.server_state.specs.TurnLists.{book_at}

-- books are under the names that are picked for them
pub picked : (turns : ℕ → Book) (books : List (Option Book)) → book_at books ≡ turns → AreNamed turns books
picked turns books is place book at =
    ap (λ (found : Option (Option Book)). unwrap_or (unwrap_or found None) (record { number = 0; log_name = 0; cells_name = 0 })) (sym at) ∙ ap (λ (names : ℕ → Book). names place) is

module _ {L : Type 0} (book : L → Book) where
  without : (items : List (Option L)) (k place : ℕ) (b : Book) → slice_get (map (option_map book) (slice_set items k None)) place ≡ Some (Some b)
      → slice_get (map (option_map book) items) place ≡ Some (Some b)
  without [] k place b at = at
  without (x ∷ xs) zero zero b at = absurd (cc at)
  without (x ∷ xs) zero (suc place) b at = at
  without (x ∷ xs) (suc k) zero b at = at
  without (x ∷ xs) (suc k) (suc place) b at = without xs k place b at

  -- the others stay under their names
  pub named_without : (turns : ℕ → Book) (items : List (Option L)) (k : ℕ) → AreNamed turns (map (option_map book) items)
      → AreNamed turns (map (option_map book) (slice_set items k None))
  named_without turns items k named place b at = named place b (without items k place b at)

  found_book : (items : List (Option L)) (place : ℕ) (l : L) → slice_get items place ≡ Some (Some l) → slice_get (map (option_map book) items) place ≡ Some (Some (book l))
  found_book [] place l at = absurd (cc at)
  found_book (x ∷ xs) zero l at = ap (λ (found : Option (Option L)). option_map (option_map book) found) at
  found_book (x ∷ xs) (suc place) l at = found_book xs place l at

  -- the one at this place is under its name
  pub named_at : (turns : ℕ → Book) (items : List (Option L)) (place : ℕ) (l : L) → AreNamed turns (map (option_map book) items)
      → slice_get items place ≡ Some (Some l) → book l ≡ turns place
  named_at turns items place l named at = named place (book l) (found_book items place l at)

  -- whatever is found at this place is under its name
  pub named_found : (turns : ℕ → Book) (items : List (Option L)) (place : ℕ) (found : Option L) → AreNamed turns (map (option_map book) items)
      → slice_get items place ≡ Some found → IfSome found (λ l. book l ≡ turns place)
  named_found turns items place None named at = tt
  named_found turns items place (Some l) named at = named_at turns items place l named at
