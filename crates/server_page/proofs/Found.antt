-- Files by their paths.
use Rattle.std.proofs.Common.{◌≡◌, ◌≢◌, ℕ, List, [], ◌∷◌, true, false, cond, find, bytes_eq, Option, Some, None, MatchOption, All, refl, sym, subst, arith}
use Rattle.std.proofs.lemmas.Bool.{false≢true}
use Rattle.std.proofs.lemmas.List.Elements.{All-cons, All-nil}
use Rattle.std.proofs.lemmas.Slice.Eq.{bytes_eq-Decides}
use Rattle.server_page.specs.File.{IsNoFile, file_at, files, path_of}
use Rattle.server_page.specs.declared.file.File.{File}
use Rattle.server_page.specs.declared.file.File.TheVariants.{IndexHtml, PageCss, AuthorJs, CardsJs, DomJs, FleetJs, GeometryJs, LayersJs, MapJs, PageJs, RulesJs, ServerJs, SettingsJson, StateJs, ZoneJs}

-- what holds of the files holds of each one
in_all : (P : File → Type 0) → All P files → (file : File) → P file
in_all P h IndexHtml = h 0 IndexHtml (omega arith)
in_all P h PageCss = h 1 PageCss (omega arith)
in_all P h AuthorJs = h 2 AuthorJs (omega arith)
in_all P h CardsJs = h 3 CardsJs (omega arith)
in_all P h DomJs = h 4 DomJs (omega arith)
in_all P h FleetJs = h 5 FleetJs (omega arith)
in_all P h GeometryJs = h 6 GeometryJs (omega arith)
in_all P h LayersJs = h 7 LayersJs (omega arith)
in_all P h MapJs = h 8 MapJs (omega arith)
in_all P h PageJs = h 9 PageJs (omega arith)
in_all P h RulesJs = h 10 RulesJs (omega arith)
in_all P h ServerJs = h 11 ServerJs (omega arith)
in_all P h SettingsJson = h 12 SettingsJson (omega arith)
in_all P h StateJs = h 13 StateJs (omega arith)
in_all P h ZoneJs = h 14 ZoneJs (omega arith)

module _ (path : List ℕ) where
  -- the first one with the path, or none of them has it
  abbrev Finds : List File → Option File → Type 0
  Finds among found = MatchOption found (All (λ f. path_of f ≢ path) among) (λ file. path_of file ≡ path)

  later : (file : File) (among : List File) (found : Option File) → path_of file ≢ path → Finds among found → Finds (file ∷ among) found
  later file among None other h = All-cons (λ f. path_of f ≢ path) file among other h
  later file among (Some it) other h = h

  finds : (among : List File) → Finds among (find (λ file. bytes_eq (path_of file) path) among)
  finds [] = All-nil (λ f. path_of f ≢ path)
  finds (file ∷ among) =
      let same = bytes_eq-Decides (path_of file) path in
      let rest = find (λ it. bytes_eq (path_of it) path) among in
      elim (bytes_eq (path_of file) path) as (λ b. (b ≡ true → path_of file ≡ path) → (path_of file ≡ path → b ≡ true) → Finds (file ∷ among) (cond b (Some file) rest)) [
        | true ↦ λ is has. is refl
        | false ↦ λ is has. later file among rest (λ e. false≢true (has e)) (finds among)
      ] same.0 same.1

  of_files : (found : Option File) → Finds files found → MatchOption found (IsNoFile path) (λ file. path_of file ≡ path)
  of_files None none = in_all (λ f. path_of f ≢ path) none
  of_files (Some file) is = is

  -- of the page's files, the one with the path; no file has it, where there is none
  pub at_path : (found : Option File) → found ≡ file_at path → MatchOption found (IsNoFile path) (λ file. path_of file ≡ path)
  at_path found e = of_files found (subst (Finds files) (sym e) (finds files))
