-- Sums over a table of which one entry changes.
use Rattle.std.proofs.Common.{◌≡◌, ℕ, ◌+◌, ◌<◌, ◌≤◌, List, ◌∷◌, ◌++◌, map, sum_by, length, take, drop, set, get_or, replicate, ◌-◌, ◌∙◌, arith}
use Rattle.std.proofs.lemmas.List.{get_or-set_same, get_or_default, length-set, take_all, length-drop}
use Rattle.std.proofs.lemmas.List.Folds.{fold-map, sum_by-replicate}
use Rattle.std.proofs.lemmas.List.Sums.{sum_by-take-le, sum_by-take-drop, sum_by-drop_more, sum_by-set, sum_by-append, sum_by-cons}
use Rattle.std.proofs.lemmas.List.Sums.{get_or-le-sum_by, sum_by-le-sum_by, sum_by_more_le_part}
use Rattle.journal_commit.specs.declared.decisions.Usage.{Usage}
use Rattle.journal_commit.specs.declared.decisions.TheConstants.{MOST_TEXTS, MOST_BYTES}
use Rattle.journal_commit.specs.declared.client_shares.ClientShare.{ClientShare}
use Rattle.journal_commit.specs.Shares.{texts_kept, bytes_kept, both, IsShared}
use Rattle.journal_commit.specs.Tables.{usage_of, bytes_in, texts_held, share_of, holding}

pub sum_by-map : {X Y : Type 0} (f : Y → ℕ) (h : X → Y) (xs : List X) → sum_by f (map h xs) ≡ sum_by (λ x. f (h x)) xs
sum_by-map f h xs = fold-map (λ a y. a + f y) h 0 xs

module _ {X Y : Type 0} (f : Y → ℕ) (h : X → Y) (xs : List X) where
  -- a part is at most the whole
  pub front_le : (i : ℕ) → sum_by f (map h (take i xs)) ≤ sum_by f (map h xs)
  front_le i =
      let k : X → ℕ = λ x. f (h x) in omega (arith, sum_by-map f h (take i xs), sum_by-map f h xs, sum_by-take-le k xs i)

  pub rest_le : (i : ℕ) → sum_by f (map h (drop i xs)) ≤ sum_by f (map h xs)
  rest_le i =
      let k : X → ℕ = λ x. f (h x) in omega (arith, sum_by-map f h (drop i xs), sum_by-map f h xs, sum_by-take-drop k xs i)

  pub one_le : (i : ℕ) (d : X) → i < length xs → f (h (get_or xs i d)) ≤ sum_by f (map h xs)
  one_le i d lt =
      let k : X → ℕ = λ x. f (h x) in omega (arith, sum_by-map f h xs, get_or-le-sum_by k xs i d lt)

  -- the whole is what stands before an entry, the entry and what stands after it
  pub three_parts : (i : ℕ) (d : X) → i < length xs
      → sum_by f (map h xs) ≡ sum_by f (map h (take i xs)) + f (h (get_or xs i d)) + sum_by f (map h (drop (i + 1) xs))
  three_parts i d lt =
      let k : X → ℕ = λ x. f (h x) in
      omega (arith, sum_by-map f h xs, sum_by-map f h (take i xs), sum_by-map f h (drop (i + 1) xs), sum_by-take-drop k xs i, sum_by-drop_more k xs i d lt)

  pub one_set : (i : ℕ) (y d : X) → i < length xs → sum_by f (map h (set xs i y)) + f (h (get_or xs i d)) ≡ sum_by f (map h xs) + f (h y)
  one_set i y d lt =
      let k : X → ℕ = λ x. f (h x) in omega (arith, sum_by-map f h xs, sum_by-map f h (set xs i y), sum_by-set k xs i y d lt)

-- the same of a list in three parts
pub in_parts : {X : Type 0} (f : X → ℕ) (before after : List X) (x : X) → sum_by f (before ++ x ∷ after) ≡ sum_by f before + f x + sum_by f after
in_parts f before after x = omega (arith, sum_by-append f before (x ∷ after), sum_by-cons f x after)

abbrev pub nobody : ClientShare
nobody = let nothing : Usage = record { texts = 0; bytes = 0 } in record { held = nothing; waiting = nothing }

abbrev pub bytes_of : ClientShare → ℕ
bytes_of share = share.held.bytes + share.waiting.bytes

-- what all of these count for
abbrev pub texts_in : List ClientShare → ℕ
texts_in each = sum_by texts_kept (map usage_of each)

abbrev pub kept_in : List ClientShare → ℕ
kept_in each = sum_by bytes_kept (map usage_of each)

module _ (each : List ClientShare) where
  pub front_shared : (i : ℕ) → IsShared (map usage_of each) → IsShared (map usage_of (take i each))
  front_shared i shared = (omega (arith, front_le texts_kept usage_of each i, shared.0), omega (arith, front_le bytes_kept usage_of each i, shared.1))

  pub rest_shared : (i : ℕ) → IsShared (map usage_of each) → IsShared (map usage_of (drop i each))
  rest_shared i shared = (omega (arith, rest_le texts_kept usage_of each i, shared.0), omega (arith, rest_le bytes_kept usage_of each i, shared.1))

  -- each has at most what all may have
  pub texts_fit : (i : ℕ) (d : ClientShare) → i < length each → IsShared (map usage_of each) → (usage_of (get_or each i d)).texts ≤ MOST_TEXTS
  texts_fit i d lt shared = omega (arith, one_le texts_kept usage_of each i d lt, shared.0)

  pub bytes_fit : (i : ℕ) (d : ClientShare) → i < length each → IsShared (map usage_of each) → (usage_of (get_or each i d)).bytes ≤ MOST_BYTES
  bytes_fit i d lt shared = omega (arith, one_le bytes_kept usage_of each i d lt, shared.1)

  -- a client that has less than it had keeps all within the limits
  pub less_shared : (i : ℕ) (y d : ClientShare) → i < length each → (usage_of y).texts ≤ (usage_of (get_or each i d)).texts
      → (usage_of y).bytes ≤ (usage_of (get_or each i d)).bytes → IsShared (map usage_of each) → IsShared (map usage_of (set each i y))
  less_shared i y d lt texts bytes shared = (
    omega (arith, one_set texts_kept usage_of each i y d lt, shared.0, texts),
    omega (arith, one_set bytes_kept usage_of each i y d lt, shared.1, bytes),
  )

  pub bytes_in_le : IsShared (map usage_of each) → bytes_in each ≤ MOST_BYTES
  bytes_in_le shared =
      let k : ClientShare → ℕ = λ s. bytes_kept (usage_of s) in
      omega (arith, sum_by-map bytes_kept usage_of each, sum_by-le-sum_by bytes_of k each (λ s. omega arith), shared.1)

  pub texts_held_le : (i : ℕ) (d : ClientShare) → i < length each → IsShared (map usage_of each)
      → texts_held (take i each) + (get_or each i d).held.texts ≤ MOST_TEXTS
  texts_held_le i d lt shared =
      let k : ClientShare → ℕ = λ s. texts_kept (usage_of s) in
      let h : ClientShare → ℕ = λ s. s.held.texts in
      let held : sum_by h each ≤ sum_by k each = sum_by-le-sum_by h k each (λ s. omega arith) in
      omega (arith, sum_by-map texts_kept usage_of each, held, sum_by_more_le_part h h each i d lt (λ s. omega arith), shared.0)

  pub bytes_held : (i : ℕ) (more : Usage) → i < length each → bytes_in (holding each i more) ≡ bytes_in each + more.bytes
  bytes_held i more lt =
      omega (arith, sum_by-set bytes_of each i (record { held = both (share_of each i).held more; waiting = (share_of each i).waiting }) nobody lt)

  -- what is reserved for one stays within what all may have
  pub held_fits : (i : ℕ) (more : Usage) → i < length each → IsShared (map usage_of (holding each i more))
      → ((share_of each i).held.texts + more.texts ≤ MOST_TEXTS) × ((share_of each i).held.bytes + more.bytes ≤ MOST_BYTES)
  held_fits i more lt shared =
      let y : ClientShare = record { held = both (share_of each i).held more; waiting = (share_of each i).waiting } in
      let there : i < length (set each i y) = omega (arith, length-set each i y, lt) in
      let same : get_or (set each i y) i nobody ≡ y = get_or-set_same each i y nobody lt in
      let texts : texts_kept (usage_of y) ≤ texts_in (set each i y) = rw same at (one_le texts_kept usage_of (set each i y) i nobody there) in
      let bytes : bytes_kept (usage_of y) ≤ kept_in (set each i y) = rw same at (one_le bytes_kept usage_of (set each i y) i nobody there) in
      (omega (arith, texts, shared.0), omega (arith, bytes, shared.1))

  -- with so much more for one, all stay within the limits where what the others count for leaves room for it
  pub more_shared : (i : ℕ) (more : Usage) → i < length each → IsShared (map usage_of each)
      → texts_in (take i each) + (usage_of (share_of each i)).texts + more.texts + texts_in (drop (i + 1) each) ≤ MOST_TEXTS
      → kept_in (take i each) + (usage_of (share_of each i)).bytes + more.bytes + kept_in (drop (i + 1) each) ≤ MOST_BYTES
      → IsShared (map usage_of (holding each i more))
  more_shared i more lt shared texts bytes =
      let y : ClientShare = record { held = both (share_of each i).held more; waiting = (share_of each i).waiting } in (
        omega (arith, one_set texts_kept usage_of each i y nobody lt, three_parts texts_kept usage_of each i nobody lt, shared.0, texts),
        omega (arith, one_set bytes_kept usage_of each i y nobody lt, three_parts bytes_kept usage_of each i nobody lt, shared.1, bytes),
      )

  -- all have at most what there is
  pub parts_fit : (i : ℕ) → i < length each → IsShared (map usage_of each)
      → (texts_in (take i each) + (usage_of (share_of each i)).texts + texts_in (drop (i + 1) each) ≤ MOST_TEXTS)
      × (kept_in (take i each) + (usage_of (share_of each i)).bytes + kept_in (drop (i + 1) each) ≤ MOST_BYTES)
  parts_fit i lt shared =
      (omega (arith, three_parts texts_kept usage_of each i nobody lt, shared.0), omega (arith, three_parts bytes_kept usage_of each i nobody lt, shared.1))

  pub rest_all : (i : ℕ) → take (length each - i) (drop i each) ≡ drop i each
  rest_all i = take_all (length each - i) (drop i each) (omega (arith, length-drop i each))

  -- what was read of the table is what stands there
  pub share_read : (i : ℕ) (d : ClientShare) → i < length each → d ≡ get_or each i d → d ≡ share_of each i
  share_read i d lt is = is ∙ get_or_default each i d nobody lt

-- where no client has anything, all are within the limits
pub nobody_shared : (n : ℕ) → n ≤ 512 → IsShared (map usage_of (replicate n nobody)) × (bytes_in (replicate n nobody) ≡ 0)
nobody_shared n few =
    let k : ClientShare → ℕ = λ s. texts_kept (usage_of s) in
    let b : ClientShare → ℕ = λ s. bytes_kept (usage_of s) in (
      (
        omega (arith, few, sum_by-map texts_kept usage_of (replicate n nobody), sum_by-replicate k n nobody),
        omega (arith, few, sum_by-map bytes_kept usage_of (replicate n nobody), sum_by-replicate b n nobody),
      ),
      omega (arith, sum_by-replicate bytes_of n nobody),
    )
