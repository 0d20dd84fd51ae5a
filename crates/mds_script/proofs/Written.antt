-- Laws of writing bytes in pieces.
use Rattle.std.proofs.Common.{◌≡◌, ℕ, List, [], ◌++◌, Option, Some, None, take, drop, Result, Ok, Err, refl, sym, ap, subst, ◌∙◌, append_assoc}
use Rattle.std.specs.Io.KnownBytes.{Appends, Keeps}
use Rattle.mds_script.specs.Ends.{Writes}
use Rattle.std.proofs.lemmas.List.{append-nil, take-append-drop}

-- a prefix of these bytes was written between these states, and the rest is left
pub record Wrote (old now : Option (List ℕ)) (bytes rest : List ℕ) : Type 0 where
  pub front : List ℕ
  pub whole : bytes ≡ front ++ rest
  pub appended : Appends old now front

pub appends_none : (old : Option (List ℕ)) → Appends old old []
appends_none None = tt
appends_none (Some xs) = sym (append-nil xs)

pub appends_more : (old mid new : Option (List ℕ)) (xs ys : List ℕ) → Appends old mid xs → Appends mid new ys → Appends old new (xs ++ ys)
appends_more None mid new xs ys a b = tt
appends_more (Some zs) None new xs ys a b = absurd a
appends_more (Some zs) (Some ws) None xs ys a b = b
appends_more (Some zs) (Some ws) (Some vs) xs ys a b = b ∙ (ap (λ us. us ++ ys) a ∙ append_assoc zs xs ys)

pub appends_kept : (old mid new : Option (List ℕ)) (xs : List ℕ) → Appends old mid xs → Keeps mid new → Appends old new xs
appends_kept None mid new xs a k = tt
appends_kept (Some zs) None new xs a k = absurd a
appends_kept (Some zs) (Some ws) None xs a k = k
appends_kept (Some zs) (Some ws) (Some vs) xs a k = k ∙ a

pub wrote_none : (old : Option (List ℕ)) (bytes : List ℕ) → Wrote old old bytes bytes
wrote_none old bytes = record { front = []; whole = refl; appended = appends_none old }

-- a write took so many bytes of the rest
pub wrote_more : (old mid new : Option (List ℕ)) (bytes rest : List ℕ) (count : ℕ) → Wrote old mid bytes rest → Appends mid new (take count rest) → Wrote old new bytes (drop count rest)
wrote_more old mid new bytes rest count w a = record {
  front = w.front ++ take count rest;
  whole = w.whole ∙ (ap (λ xs. w.front ++ xs) (sym (take-append-drop count rest)) ∙ sym (append_assoc w.front (take count rest) (drop count rest)));
  appended = appends_more old mid new w.front (take count rest) w.appended a;
}

-- no bytes are left, so all were written
pub wrote_all : (old now : Option (List ℕ)) (bytes rest : List ℕ) → Wrote old now bytes rest → rest ≡ [] → Appends old now bytes
wrote_all old now bytes rest w none =
    subst (Appends old now) (sym (w.whole ∙ (ap (λ xs. w.front ++ xs) none ∙ append-nil w.front))) w.appended

-- a failed write of bytes that others follow is a failed write of all of them
pub writes_stopped : (old new : Option (List ℕ)) (xs ys : List ℕ) → ((front : List ℕ) × (rest : List ℕ) × (xs ≡ front ++ rest) × Appends old new front) → (front : List ℕ) × (rest : List ℕ) × (xs ++ ys ≡ front ++ rest) × Appends old new front
writes_stopped old new xs ys w = (w.0, w.1 ++ ys, ap (λ zs. zs ++ ys) w.2 ∙ append_assoc w.0 w.1 ys, w.3)

-- bytes written after others
pub writes_next : {T E : Type 0} (old mid new : Option (List ℕ)) (result : Result T E) (xs ys : List ℕ) → Appends old mid xs → Writes mid new result ys → Writes old new result (xs ++ ys)
writes_next old mid new (Ok value) xs ys a w = appends_more old mid new xs ys a w
writes_next old mid new (Err failed) xs ys a w =
    (xs ++ w.0, w.1, ap (λ zs. xs ++ zs) w.2 ∙ sym (append_assoc xs w.0 w.1), appends_more old mid new xs w.0 a w.3)
