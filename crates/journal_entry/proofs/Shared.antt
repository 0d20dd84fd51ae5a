-- Encodings of shares, one after another.
use Rattle.std.specs.Prelude.{◌==◌}
use Rattle.std.proofs.Common.{◌≡◌, ℕ, false, ◌+◌, ◌<◌, List, [], ◌∷◌, ◌++◌, length, refl, sym, ap, ◌∙◌, append_assoc, arith}
use Rattle.std.proofs.lemmas.List.{append-nil, length-append}
use Rattle.journal_entry.specs.Entries.{id_text, size_text}
use Rattle.journal_entry.specs.Heads.{Share, IsShare, AreShares, share_text, shares_text}
use Rattle.journal_entry.proofs.Spelled.{same_front, id_length, size_length}

pub share_length : (share : Share) → length (share_text share) ≡ 40
share_length share = omega (arith, length-append (id_text share.id) (size_text share.vehicles), id_length share.id, size_length share.vehicles)

pub text_more : (shares : List Share) (share : Share) → shares_text (shares ++ share ∷ []) ≡ shares_text shares ++ share_text share
text_more [] share = append-nil (share_text share)
text_more (s ∷ ss) share = ap (λ (t : List ℕ). share_text s ++ t) (text_more ss share) ∙ sym (append_assoc (share_text s) (shares_text ss) (share_text share))

pub are_more : (shares : List Share) (share : Share) → AreShares shares → IsShare share → AreShares (shares ++ share ∷ [])
are_more [] share are is = (is, tt)
are_more (s ∷ ss) share are is = (are.0, are_more ss share are.1 is)

-- the bytes after some shares, in an encoding of shares, are an encoding of shares
pub behind_shares : (some all : List Share) (rest : List ℕ) → AreShares all → shares_text some ++ rest ≡ shares_text all
    → (more : List Share) × AreShares more × (rest ≡ shares_text more)
behind_shares [] all rest are e = (all, are, e)
behind_shares (s ∷ ss) [] rest are e =
    absurd (omega (arith, ap length e, length-append (share_text s ++ shares_text ss) rest, length-append (share_text s) (shares_text ss), share_length s))
behind_shares (s ∷ ss) (a ∷ later) rest are e =
    let p = same_front (share_text s) (share_text a) (shares_text ss ++ rest) (shares_text later) (share_length s ∙ sym (share_length a)) (sym (append_assoc (share_text s) (shares_text ss) rest) ∙ e) in
    behind_shares ss later rest are.1 p.1

-- where the bytes aren't empty and encode shares, they begin with a share
pub no_share : (more : List Share) (rest : List ℕ) → 0 < length rest → AreShares more → rest ≡ shares_text more
    → ((share : Share) (behind : List ℕ) → IsShare share → rest ≡ share_text share ++ behind → ⊥) → ⊥
no_share [] rest filled are e none = omega (arith, ap length e, filled)
no_share (share ∷ shares) rest filled are e none = none share (shares_text shares) are.0 e

pub filled : (rest : List ℕ) → (length rest == 0) ≡ false → 0 < length rest
filled [] no_bytes = absurd cc
filled (byte ∷ rest) no_bytes = omega arith
