-- The new desks.
use Rattle.std.proofs.Common.{◌≡◌, ℕ, zero, suc, ◌+◌, ◌<◌, length, Option, Some, None, refl, sym, ap, ◌∙◌, arith}
use Rattle.std.specs.Prelude.{slice_get, option_map}
use Rattle.std.specs.List.{range_with_len}
use Rattle.std.proofs.lemmas.List.FromFn.{length-map-range_with_len}
use Rattle.std.proofs.lemmas.Option.{slice_get_within, slice_get-map}
use Rattle.mds_request.specs.Configuration.{Configuration, Operator}
use Rattle.mds_desk.specs.Desk.{DeskState, new_desk, new_desks}
use Rattle.journal_recovery.specs.Laws.{IsServerOf, new_server}
use Rattle.journal_recovery.proofs.Lists.{the_same, none_some}

from_zero : (n : ℕ) → 0 + n ≡ n
from_zero n = omega arith

ranged : (n first place : ℕ) → place < n → slice_get (range_with_len first n) place ≡ Some (first + place)
ranged zero first place within = absurd (omega arith)
ranged (suc n) first zero within =
    let same : first ≡ first + 0 = omega arith in
    ap (λ (k : ℕ). Some k) same
ranged (suc n) first (suc place) within =
    let moved : first + 1 + place ≡ first + suc place = omega arith in
    ranged n (first + 1) place (omega arith) ∙ ap (λ (k : ℕ). Some k) moved

in_range : (n first place found : ℕ) → slice_get (range_with_len first n) place ≡ Some found → found ≡ first + place
in_range zero first place found is = absurd (none_some found is)
in_range (suc n) first zero found is = omega (arith, the_same first found is)
in_range (suc n) first (suc place) found is = omega (arith, in_range n (first + 1) place found is)

pub new_at : (c : Configuration) (place : ℕ) (operator : Operator) → slice_get c.operators place ≡ Some operator
    → slice_get (new_desks c) place ≡ Some (new_desk c place)
new_at c place operator is =
    slice_get-map (new_desk c) (range_with_len 0 (length c.operators)) place
    ∙ ap (option_map (new_desk c)) (ranged (length c.operators) 0 place (slice_get_within c.operators place operator is) ∙ ap (λ (k : ℕ). Some k) (from_zero place))

mapped : (c : Configuration) (place : ℕ) (d : DeskState) (found : Option ℕ) → slice_get (range_with_len 0 (length c.operators)) place ≡ found
    → option_map (new_desk c) found ≡ Some d → new_desk c place ≡ d
mapped c place d None is made = absurd (none_some d made)
mapped c place d (Some k) is made =
    ap (new_desk c) (sym (in_range (length c.operators) 0 place k is ∙ from_zero place)) ∙ the_same (new_desk c k) d made

pub new_is : (c : Configuration) → IsServerOf c (new_server c)
new_is c = record {
  room = refl;
  long = length-map-range_with_len (new_desk c) 0 (length c.operators);
  desks = λ place d there.
      let is = mapped c place d (slice_get (range_with_len 0 (length c.operators)) place) refl (sym (slice_get-map (new_desk c) (range_with_len 0 (length c.operators)) place) ∙ there) in
      (ap (λ (x : DeskState). x.configuration) (sym is), ap (λ (x : DeskState). x.place) (sym is));
}
