-- The path of a head's target and that of its URI have the same segments.
use Rattle.std.proofs.Common.{
  ◌≡◌,
  ◌==◌,
  ◌||◌,
  ◌∷◌,
  [],
  List,
  ℕ,
  Bool,
  true,
  false,
  cond,
  codes,
  length,
  not,
  is_some,
  Option,
  Some,
  None,
  option_map,
  unwrap_or,
  arith,
  refl,
  sym,
  ap,
  ◌∙◌,
}
use Rattle.std.specs.List.{before_first}
use Rattle.std.specs.Option.{ForNone, ForSome}
use Rattle.std.specs.Str.{is_utf8}
use Rattle.std.proofs.lemmas.Bool.{eqb-true}
use Rattle.http_uri.specs.Grammar.{or_slash}
use Rattle.http_uri.specs.Uri.{uri_data, uri_path}
use Rattle.http_uri.specs.declared.uri.Uri.{Uri}
use Rattle.mds_request.specs.Call.{is_query_mark, segments_in, segments_of}
use Rattle.server_state.specs.HttpRequest.{target_of}

empty : (b : Bool) → cond {A = List (List ℕ)} b [] [] ≡ []
empty true = refl
empty false = refl

no_segments : segments_in [] ≡ []
no_segments = empty (is_utf8 [])

root_segments : segments_in (codes "/") ≡ []
root_segments = empty (is_utf8 (codes "/"))

-- a text without a byte is empty
no_bytes : (text : List ℕ) → (length text == 0) ≡ true → text ≡ []
no_bytes [] e = refl
no_bytes (b ∷ text) e = absurd (omega (arith, eqb-true (length (b ∷ text)) 0 e))

-- `/` for an empty text adds no segment
slashed : (text : List ℕ) (b : Bool) → (length text == 0) ≡ b → segments_in (cond b (codes "/") text) ≡ segments_in text
slashed text true e = root_segments ∙ sym (ap segments_in (no_bytes text e) ∙ no_segments)
slashed text false e = refl

or_slashed : (text : List ℕ) → segments_in (or_slash text) ≡ segments_in text
or_slashed text = slashed text (length text == 0) refl

-- the target with `/` for nothing
target_slashed : (text : List ℕ) (b : Bool) → (length text == 0) ≡ b
    → segments_of (cond b (codes "/") text) ≡ segments_of text
target_slashed text true e = root_segments ∙ sym (ap segments_of (no_bytes text e) ∙ no_segments)
target_slashed text false e = refl

-- the path of a URI that shows one, or else of none
shown : (text : List ℕ) (b has_scheme : Bool) → (length text == 0) ≡ b
    → segments_in (cond (not b || has_scheme) (or_slash (before_first is_query_mark text)) []) ≡ segments_of text
shown text false has_scheme e = or_slashed (before_first is_query_mark text)
shown text true true e = or_slashed (before_first is_query_mark text)
shown text true false e = sym (ap segments_of (no_bytes text e))

of_path : (uri : Uri) → segments_in (uri_path uri) ≡ segments_of (uri_data uri)
of_path uri = shown (uri_data uri) (length (uri_data uri) == 0) (is_some uri.scheme) refl

of_target : (scheme authority : Option (List ℕ)) (text : List ℕ) → ForNone scheme (ForSome authority (λ _. text ≡ []))
    → segments_of (unwrap_or (option_map or_slash (cond (is_some scheme || not (is_some authority)) (Some text) None)) [])
    ≡ segments_of text
of_target (Some s) authority text alone = target_slashed text (length text == 0) refl
of_target None None text alone = target_slashed text (length text == 0) refl
of_target None (Some a) text alone = sym (ap segments_of (alone refl a refl))

pub same_segments : (uri : Uri) → segments_in (uri_path uri) ≡ segments_of (target_of uri)
same_segments uri = of_path uri ∙ sym (of_target uri.scheme uri.authority uri.path_and_query uri.authority_alone)
