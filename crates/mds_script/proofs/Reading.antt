-- How one line is read, piece by piece.
use Rattle.std.proofs.Common.{◌≡◌, ℕ, ◌+◌, ◌-◌, ◌<◌, ◌≤◌, ◌⊎◌, List, [], ◌∷◌, ◌++◌, length, take, drop, Option, Some, None, inl, inr, IfSome, refl, sym, ap, subst, ◌∙◌, append_assoc, arith}
use Rattle.std.specs.List.{list_any}
use Rattle.std.specs.Io.KnownBytes.{Consumes, Keeps, IsAtEnd, prepend_known}
use Rattle.std.proofs.lemmas.Bool.{or_from, cases_lt}
use Rattle.std.proofs.lemmas.List.Folds.{list_any-append}
use Rattle.std.proofs.lemmas.List.{take_all, length-take, length-take-le, length-append, append-nil, take-append-le, take-take, drop-take, drop-drop, drop_at}
use Rattle.mds_script.specs.declared.lines.NextLine.{NextLine}
use Rattle.mds_script.specs.declared.lines.NextLine.TheVariants.{Line, TooLong, End}
use Rattle.mds_script.specs.Input.{is_feed, lines}
use Rattle.mds_script.specs.LineReading.{IsWithoutFeed, BeginsWithLine, Finds, Advances, FailsReading}
use Rattle.mds_script.proofs.Framed.{Closes, ClosesLast, without_return, first_line, last_line, length-without_return}
use Rattle.mds_script.specs.declared.gather.TheConstants.{STORED_LIMIT}
use Rattle.mds_script.specs.declared.lines.TheConstants.{INPUT_LIMIT}

-- Bytes without a line feed were consumed, and their prefix is stored.
pub record Gathered (old now : Option (List ℕ)) (passed_old passed_now : ℕ) (kept : List ℕ) : Type 0 where
  pub bytes : List ℕ
  pub consumed : Consumes old now bytes
  pub plain : IsWithoutFeed bytes
  pub kept_is : kept ≡ take STORED_LIMIT bytes
  pub passed : passed_now ≡ passed_old + length bytes

pub nothing_gathered : (old : Option (List ℕ)) (passed : ℕ) → Gathered old old passed passed []
nothing_gathered old passed = record {
  bytes = [];
  consumed = all_left old;
  plain = refl;
  kept_is = refl;
  passed = omega arith;
}
  where
    all_left : (old : Option (List ℕ)) → Consumes old old []
    all_left None = tt
    all_left (Some bytes) = refl

either : {A B C : Type 0} → A ⊎ B → (A → C) → (B → C) → C
either h f g = elim h [ inl a ↦ f a | inr b ↦ g b ]

plain_both : (xs ys : List ℕ) → IsWithoutFeed xs → IsWithoutFeed ys → IsWithoutFeed (xs ++ ys)
plain_both xs ys p q = list_any-append is_feed xs ys ∙ or_from (list_any is_feed xs) (list_any is_feed ys) p q

kept_more : (limit : ℕ) (xs ys : List ℕ) → take limit (take limit xs ++ ys) ≡ take limit (xs ++ ys)
kept_more limit xs ys = either (cases_lt limit (length xs))
    (λ long.
    let whole : length (take limit xs) ≡ limit = length-take-le limit xs (omega arith) in
    let here : take limit (take limit xs ++ ys) ≡ take limit (take limit xs) = take-append-le limit (take limit xs) ys (omega arith) in
    here ∙ (take-take limit limit xs (omega arith) ∙ sym (take-append-le limit xs ys (omega arith))))
    (λ short. ap (λ zs. take limit (zs ++ ys)) (take_all limit xs short))

consumed_more : (old remaining : Option (List ℕ)) (bytes front rest : List ℕ) → Consumes old (prepend_known (front ++ rest) remaining) bytes → Consumes old (prepend_known rest remaining) (bytes ++ front)
consumed_more None remaining bytes front rest h = tt
consumed_more (Some xs) None bytes front rest h = h
consumed_more (Some xs) (Some ys) bytes front rest h = h ∙ (ap (λ zs. bytes ++ zs) (append_assoc front rest ys) ∙ sym (append_assoc bytes front (rest ++ ys)))

consumed_kept : (old mid new : Option (List ℕ)) (bytes : List ℕ) → Consumes old mid bytes → Keeps mid new → Consumes old new bytes
consumed_kept None mid new bytes h k = tt
consumed_kept (Some xs) None new bytes h k = absurd h
consumed_kept (Some xs) (Some ys) None bytes h k = k
consumed_kept (Some xs) (Some ys) (Some zs) bytes h k = h ∙ ap (λ ws. bytes ++ ws) (sym k)

-- a piece without a line feed is gathered whole
pub gathered_piece : {old : Option (List ℕ)} {passed_old passed_now : ℕ} {kept : List ℕ} (remaining : Option (List ℕ)) (piece ahead kept' : List ℕ) (passed' : ℕ) → Gathered old (prepend_known piece remaining) passed_old passed_now kept → IsWithoutFeed piece → ahead ≡ [] → kept' ≡ take STORED_LIMIT (kept ++ piece) → passed' ≡ passed_now + length piece → Gathered old (prepend_known ahead remaining) passed_old passed' kept'
gathered_piece {old} {passed_old} {passed_now} {kept} remaining piece ahead kept' passed' g plain none kept_is passed_is = record {
  bytes = g.bytes ++ piece;
  consumed = subst (λ rest. Consumes old (prepend_known rest remaining) (g.bytes ++ piece)) (sym none)
      (consumed_more old remaining g.bytes piece [] (subst (λ xs. Consumes old (prepend_known xs remaining) g.bytes) (sym (append-nil piece)) g.consumed));
  plain = plain_both g.bytes piece g.plain plain;
  kept_is = kept_is ∙ (ap (λ xs. take STORED_LIMIT (xs ++ piece)) g.kept_is ∙ kept_more STORED_LIMIT g.bytes piece);
  passed = omega (arith, passed_is, g.passed, length-append g.bytes piece);
}

-- reading further bytes doesn't change what is left
pub gathered_kept : {old mid new : Option (List ℕ)} {passed_old passed_now : ℕ} {kept : List ℕ} (kept' : List ℕ) (passed' : ℕ) → Gathered old mid passed_old passed_now kept → Keeps mid new → kept' ≡ kept → passed' ≡ passed_now → Gathered old new passed_old passed' kept'
gathered_kept {old} {mid} {new} kept' passed' g k kept_same passed_same = record {
  bytes = g.bytes;
  consumed = consumed_kept old mid new g.bytes g.consumed k;
  plain = g.plain;
  kept_is = kept_same ∙ g.kept_is;
  passed = passed_same ∙ g.passed;
}

pub gathered_advances : {old now : Option (List ℕ)} {passed_old passed_now : ℕ} {kept : List ℕ} → Gathered old now passed_old passed_now kept → Advances passed_old old passed_now now
gathered_advances g = (g.bytes, g.consumed, g.passed)

-- the line feed is consumed too
pub feed_advances : {old : Option (List ℕ)} {passed_old passed_now : ℕ} {kept : List ℕ} (remaining : Option (List ℕ)) (ahead front rest : List ℕ) (passed' : ℕ) → Gathered old (prepend_known ahead remaining) passed_old passed_now kept → ahead ≡ front ++ 10 ∷ rest → passed' ≡ passed_now + length front + 1 → Advances passed_old old passed' (prepend_known rest remaining)
feed_advances {old} remaining ahead front rest passed' g whole passed_is =
    let regrouped : ahead ≡ (front ++ 10 ∷ []) ++ rest = whole ∙ sym (append_assoc front (10 ∷ []) rest) in (
      g.bytes ++ (front ++ 10 ∷ []),
      consumed_more old remaining g.bytes (front ++ 10 ∷ []) rest (subst (λ xs. Consumes old (prepend_known xs remaining) g.bytes) regrouped g.consumed),
      omega (arith, passed_is, g.passed, length-append g.bytes (front ++ 10 ∷ []), length-append front (10 ∷ [])),
    )

begins_at_feed : (old remaining : Option (List ℕ)) (bytes front rest : List ℕ) → Consumes old (prepend_known (front ++ 10 ∷ rest) remaining) bytes → IsWithoutFeed (bytes ++ front) → BeginsWithLine old (prepend_known rest remaining) (without_return (bytes ++ front))
begins_at_feed None remaining bytes front rest h plain = tt
begins_at_feed (Some xs) None bytes front rest h plain = h
begins_at_feed (Some xs) (Some ys) bytes front rest h plain =
    let whole : xs ≡ (bytes ++ front) ++ 10 ∷ (rest ++ ys) = h ∙ (ap (λ zs. bytes ++ zs) (append_assoc front (10 ∷ rest) ys) ∙ sym (append_assoc bytes front (10 ∷ rest ++ ys))) in
    ap lines whole ∙ first_line (bytes ++ front) (rest ++ ys) plain

-- a line that was truncated is over the limit with and without the bytes that were dropped
found_line : (bytes kept final : List ℕ) (found : NextLine) (old new : Option (List ℕ)) → kept ≡ take STORED_LIMIT bytes → Closes kept found final → BeginsWithLine old new (without_return bytes) → Finds found final old new
found_line bytes kept final Line old new k closed begins = either (cases_lt STORED_LIMIT (length bytes))
    (λ long.
    let cut : length kept ≡ STORED_LIMIT = ap length k ∙ length-take-le STORED_LIMIT bytes (omega arith) in
    absurd (omega (arith, cut, (length-without_return kept).1, ap length closed.0, closed.1)))
    (λ short.
    let same : final ≡ without_return bytes = closed.0 ∙ ap without_return (k ∙ take_all STORED_LIMIT bytes short) in
    (closed.1, subst (BeginsWithLine old new) (sym same) begins))
found_line bytes kept final TooLong old new k closed begins = either (cases_lt STORED_LIMIT (length bytes))
    (λ long. (without_return bytes, omega (arith, long, (length-without_return bytes).1), begins))
    (λ short.
    let same : without_return kept ≡ without_return bytes = ap without_return (k ∙ take_all STORED_LIMIT bytes short) in
    (without_return bytes, omega (arith, closed, ap length same), begins))
found_line bytes kept final End old new k closed begins = absurd closed

-- the bytes up to a line feed among the buffered ones are the next line
pub found_at_feed : {old : Option (List ℕ)} {passed_old passed_now : ℕ} {kept : List ℕ} (remaining : Option (List ℕ)) (ahead front rest kept' final : List ℕ) (found : NextLine) → Gathered old (prepend_known ahead remaining) passed_old passed_now kept → ahead ≡ front ++ 10 ∷ rest → IsWithoutFeed front → kept' ≡ take STORED_LIMIT (kept ++ front) → Closes kept' found final → Finds found final old (prepend_known rest remaining)
found_at_feed {old} remaining ahead front rest kept' final found g whole plain kept_is closed =
    found_line (g.bytes ++ front) kept' final found old (prepend_known rest remaining)
    (kept_is ∙ (ap (λ xs. take STORED_LIMIT (xs ++ front)) g.kept_is ∙ kept_more STORED_LIMIT g.bytes front))
    closed
    (begins_at_feed old remaining g.bytes front rest (subst (λ xs. Consumes old (prepend_known xs remaining) g.bytes) whole g.consumed) (plain_both g.bytes front g.plain plain))

begins_at_end : (byte : ℕ) (bytes : List ℕ) (old now : Option (List ℕ)) → Consumes old now (byte ∷ bytes) → IsAtEnd now → IsWithoutFeed (byte ∷ bytes) → BeginsWithLine old now (byte ∷ bytes)
begins_at_end byte bytes None now h over plain = tt
begins_at_end byte bytes (Some xs) None h over plain = h
begins_at_end byte bytes (Some xs) (Some ys) h over plain =
    let whole : xs ≡ byte ∷ bytes = h ∙ (ap (λ zs. byte ∷ bytes ++ zs) over ∙ append-nil (byte ∷ bytes)) in
    ap lines whole ∙ (last_line byte bytes plain ∙ ap (λ zs. (byte ∷ bytes) ∷ lines zs) (sym over))

ends_before : (old now : Option (List ℕ)) → Consumes old now [] → IsAtEnd now → IsAtEnd old
ends_before None now h over = tt
ends_before (Some xs) None h over = absurd h
ends_before (Some xs) (Some ys) h over = h ∙ over

found_last : (bytes kept : List ℕ) (found : NextLine) (old now : Option (List ℕ)) → 0 < length bytes → kept ≡ take STORED_LIMIT bytes → BeginsWithLine old now bytes → (final : List ℕ) → ClosesLast kept found final → Finds found final old now
found_last bytes kept Line old now some k begins final closed = either (cases_lt STORED_LIMIT (length bytes))
    (λ long.
    let cut : length kept ≡ STORED_LIMIT = ap length k ∙ length-take-le STORED_LIMIT bytes (omega arith) in
    absurd (omega (arith, cut, closed.2)))
    (λ short.
    let same : final ≡ bytes = closed.0 ∙ (k ∙ take_all STORED_LIMIT bytes short) in
    (omega (arith, closed.2, ap length closed.0), subst (BeginsWithLine old now) (sym same) begins))
found_last bytes kept TooLong old now some k begins final closed = either (cases_lt STORED_LIMIT (length bytes))
    (λ long. (bytes, omega (arith, long), begins))
    (λ short.
    let same : kept ≡ bytes = k ∙ take_all STORED_LIMIT bytes short in
    (bytes, omega (arith, closed, ap length same), begins))
found_last bytes kept End old now some k begins final closed =
    absurd (omega (arith, some, ap length closed.0, ap length k, length-take STORED_LIMIT bytes))

-- bytes after the last line feed are the last line, and without such bytes there is none
found_at_end_of : (bytes kept : List ℕ) (found : NextLine) (old now : Option (List ℕ)) → Consumes old now bytes → IsAtEnd now → IsWithoutFeed bytes → kept ≡ take STORED_LIMIT bytes → (final : List ℕ) → ClosesLast kept found final → Finds found final old now
found_at_end_of [] kept Line old now consumed over plain k final closed = absurd (omega (arith, closed.1, ap length k))
found_at_end_of [] kept TooLong old now consumed over plain k final closed = absurd (omega (arith, closed, ap length k))
found_at_end_of [] kept End old now consumed over plain k final closed = (closed.1, ends_before old now consumed over, over)
found_at_end_of (byte ∷ bytes) kept found old now consumed over plain k final closed =
    found_last (byte ∷ bytes) kept found old now (omega arith) k (begins_at_end byte bytes old now consumed over plain) final closed

pub found_at_end : {old now : Option (List ℕ)} {passed_old passed_now : ℕ} {kept : List ℕ} (final : List ℕ) (found : NextLine) → Gathered old now passed_old passed_now kept → IsAtEnd now → ClosesLast kept found final → Finds found final old now
found_at_end {old} {now} {passed_old} {passed_now} {kept} final found g over closed =
    found_at_end_of g.bytes kept found old now g.consumed over g.plain g.kept_is final closed

-- a last line has a byte, which was consumed
pub nearer_at_end : {old now : Option (List ℕ)} {passed_old passed_now : ℕ} {kept : List ℕ} (final : List ℕ) (found : NextLine) → Gathered old now passed_old passed_now kept → ClosesLast kept found final → (found ≡ End) ⊎ (passed_old < passed_now)
nearer_at_end final End g closed = inl refl
nearer_at_end final Line g closed = inr (omega (arith, closed.1, ap length g.kept_is, length-take STORED_LIMIT g.bytes, g.passed))
nearer_at_end final TooLong g closed = inr (omega (arith, closed, ap length g.kept_is, length-take STORED_LIMIT g.bytes, g.passed))

over_limit : (old mid : Option (List ℕ)) (bytes : List ℕ) (passed_old passed_mid : ℕ) → Consumes old mid bytes → passed_mid ≡ passed_old + length bytes → IfSome mid (λ xs. INPUT_LIMIT < passed_mid + length xs) → IfSome old (λ xs. INPUT_LIMIT < passed_old + length xs)
over_limit None mid bytes passed_old passed_mid h e over = tt
over_limit (Some xs) None bytes passed_old passed_mid h e over = absurd h
over_limit (Some xs) (Some ys) bytes passed_old passed_mid h e over = omega (arith, over, e, ap length h, length-append bytes ys)

-- what failed later failed from the beginning on
pub fails_from : (old mid : Option (List ℕ)) (passed_old passed_mid failures_old failures_mid failures_new : ℕ) → Advances passed_old old passed_mid mid → failures_mid ≡ failures_old → FailsReading failures_mid failures_new passed_mid mid → FailsReading failures_old failures_new passed_old old
fails_from old mid passed_old passed_mid failures_old failures_mid failures_new a same fails = either fails
    (λ one_more. inl (one_more ∙ ap (λ n. n + 1) same))
    (λ over. inr (over_limit old mid a.0 passed_old passed_mid a.1 a.2 over))

-- the buffered bytes after a line and its line feed are taken
pub ahead_behind : (chunk : List ℕ) (start end count : ℕ) (front rest : List ℕ) → take (end - start) (drop start chunk) ≡ front ++ 10 ∷ rest → count ≡ length front + 1 → take (end - (start + count)) (drop (start + count) chunk) ≡ rest
ahead_behind chunk start end count front rest whole count_is =
    let window = take (end - start) (drop start chunk) in
    let fits : count ≤ end - start = omega (arith, count_is, ap length whole, length-append front (10 ∷ rest), length-take (end - start) (drop start chunk)) in
    let parts : count + (end - (start + count)) ≡ end - start = omega arith in
    let split : drop count (take (count + (end - (start + count))) (drop start chunk)) ≡ take (end - (start + count)) (drop count (drop start chunk)) = drop-take count (end - (start + count)) (drop start chunk) in
    ap (λ xs. take (end - (start + count)) xs) (sym (drop-drop count start chunk))
    ∙ (sym split ∙ (ap (λ n. drop count (take n (drop start chunk))) parts
    ∙ (ap (drop count) (whole ∙ sym (append_assoc front (10 ∷ []) rest))
    ∙ drop_at (front ++ 10 ∷ []) rest count (length-append front (10 ∷ []) ∙ sym count_is))))

pub advances_none : (passed : ℕ) (left : Option (List ℕ)) → Advances passed left passed left
advances_none passed left = gathered_advances (nothing_gathered left passed)

pub advances_more : (passed_old passed_mid passed_new : ℕ) (old mid new : Option (List ℕ)) → Advances passed_old old passed_mid mid → Advances passed_mid mid passed_new new → Advances passed_old old passed_new new
advances_more passed_old passed_mid passed_new old mid new a b =
    (a.0 ++ b.0, consumed_both old mid new a.0 b.0 a.1 b.1, omega (arith, a.2, b.2, length-append a.0 b.0))
  where
    consumed_both : (old mid new : Option (List ℕ)) (xs ys : List ℕ) → Consumes old mid xs → Consumes mid new ys → Consumes old new (xs ++ ys)
    consumed_both None mid new xs ys h k = tt
    consumed_both (Some us) None new xs ys h k = absurd h
    consumed_both (Some us) (Some vs) None xs ys h k = k
    consumed_both (Some us) (Some vs) (Some ws) xs ys h k = h ∙ (ap (λ zs. xs ++ zs) k ∙ sym (append_assoc xs ys ws))
