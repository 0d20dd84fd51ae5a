-- Where a path is split.
use Rattle.std.proofs.Common.{◌≡◌, ◌≢◌, ◌<◌, ℕ, Bool, true, false, cond, List, [], ◌∷◌, length, Option, None, refl, ap, sym, ◌∙◌, arith, rules}
use Rattle.std.specs.List.{list_any, onto_first, position_or_len, before_first, after_first, slice_split}
use Rattle.std.specs.Str.{IsUtf8}
use Rattle.std.proofs.lemmas.Bool.{eqb-true}
use Rattle.std.proofs.lemmas.List.Splits.{slice_split_none, slice_split_first, length-slice_split}
use Rattle.std.proofs.lemmas.List.Sums.{fails_before_first}
use Rattle.std.proofs.lemmas.Str.{is_utf8-from_IsUtf8}
use Rattle.mds_request.specs.Call.{all_some, behind_slash, is_empty, is_slash, segments_in}
use Rattle.server_responses.specs.Methods.{methods_at}

-- the methods of a path with these segments
abbrev at : List (List ℕ) → Option (List ℕ)
at segments = methods_at (all_some segments)

-- without a slash
pub whole : (bs : List ℕ) → position_or_len is_slash bs ≡ length bs → slice_split is_slash bs ≡ bs ∷ []
whole bs e = slice_split_none is_slash bs (λ k d l. fails_before_first is_slash bs k d (omega (arith, e)))

-- around the first slash
pub around : (bs first rest : List ℕ) → position_or_len is_slash bs < length bs → first ≡ before_first is_slash bs → rest ≡ after_first is_slash bs
    → slice_split is_slash bs ≡ first ∷ slice_split is_slash rest
around bs first rest l e f =
    slice_split_first is_slash bs 0 l
    ∙ (ap (λ x. x ∷ slice_split is_slash (after_first is_slash bs)) (sym e) ∙ ap (λ x. first ∷ slice_split is_slash x) (sym f))

-- no row has four segments or more
no_more : (a b c d : List ℕ) (more : List (List ℕ)) → None ≡ methods_at (a ∷ b ∷ c ∷ d ∷ more)
no_more a b c d more = search rules

none_left : (has_none : Bool) (segments : List (List ℕ)) → None ≡ methods_at segments → None ≡ methods_at (cond has_none [] segments)
none_left true segments e = refl
none_left false segments e = e

too_many : (a b c : List ℕ) (more : List (List ℕ)) → 0 < length more → None ≡ at (a ∷ b ∷ c ∷ more)
too_many a b c [] l = absurd (omega arith)
too_many a b c (d ∷ more) l =
    let segments = a ∷ b ∷ c ∷ d ∷ more in
    none_left (list_any is_empty segments) segments (no_more a b c d more)

pub too_long : (a b c rest : List ℕ) → None ≡ at (a ∷ b ∷ c ∷ slice_split is_slash rest)
too_long a b c rest = too_many a b c (slice_split is_slash rest) (omega (arith, length-slice_split is_slash rest))

-- the segments of a text
in_text : (path : List ℕ) → IsUtf8 path → segments_in path ≡ behind_slash (slice_split is_slash path)
in_text path u = ap (λ b. cond b (behind_slash (slice_split is_slash path)) []) (is_utf8-from_IsUtf8 path u)

pub behind : (path rest : List ℕ) → IsUtf8 path → path ≡ 47 ∷ rest → segments_in path ≡ all_some (slice_split is_slash rest)
behind path rest u e = in_text path u ∙ ap (λ p. behind_slash (slice_split is_slash p)) e

-- a path that begins with no slash has no segments
begun : (b : ℕ) (parts : List (List ℕ)) → behind_slash (onto_first b parts) ≡ []
begun b [] = refl
begun b (part ∷ parts) = refl

cut_in : (b : ℕ) (bs : List ℕ) (slash : Bool) → is_slash b ≡ slash → b ≢ 47 → behind_slash (cond slash ([] ∷ slice_split is_slash bs) (onto_first b (slice_split is_slash bs))) ≡ []
cut_in b bs true e n = absurd (n (eqb-true b 47 e))
cut_in b bs false e n = begun b (slice_split is_slash bs)

unbegun : (path : List ℕ) → ((rest : List ℕ) → path ≢ 47 ∷ rest) → behind_slash (slice_split is_slash path) ≡ []
unbegun [] n = refl
unbegun (b ∷ bs) n = cut_in b bs (is_slash b) refl (λ e. n bs (ap (λ x. x ∷ bs) e))

pub no_path : (path : List ℕ) → IsUtf8 path → ((rest : List ℕ) → path ≢ 47 ∷ rest) → None ≡ methods_at (segments_in path)
no_path path u n = sym (ap methods_at (in_text path u ∙ unbegun path n))
