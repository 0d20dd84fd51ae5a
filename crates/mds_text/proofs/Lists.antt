-- Reading the entries of a list one after another.
use Rattle.std.proofs.Common.{◌≡◌, List, [], ◌∷◌, ◌++◌, Result, Ok, Err, refl, sym, ap, ◌∙◌, append_assoc}
use Rattle.mds_text.specs.Fault.{Fault, ◌>>=◌}
use Rattle.mds_text.specs.Fields.{each}
use Rattle.mds_text.specs.Tree.{Json}

-- what was read, with these entries before it
abbrev pub with_front : {A : Type 0} → List A → Result (List A) Fault → Result (List A) Fault
with_front front found = found >>= λ rest. Ok (front ++ rest)

pub with_front-none : {A : Type 0} (found : Result (List A) Fault) → with_front [] found ≡ found
with_front-none (Ok xs) = refl
with_front-none (Err fault) = refl

push_front : {A : Type 0} (done : List A) (a : A) (found : Result (List A) Fault) → with_front (done ++ a ∷ []) found ≡ with_front done (found >>= λ rest. Ok (a ∷ rest))
push_front done a (Ok xs) = ap Ok (append_assoc done (a ∷ []) xs)
push_front done a (Err fault) = refl

-- an entry that was read goes after those before it
pub with_front-push : {A : Type 0} (read : Json → Result A Fault) (done : List A) (t : Json) (ts : List Json) (a : A) → read t ≡ Ok a
    → with_front (done ++ a ∷ []) (each read ts) ≡ with_front done (each read (t ∷ ts))
with_front-push read done t ts a is = push_front done a (each read ts) ∙ ap (λ r. with_front done (r >>= λ b. each read ts >>= λ rest. Ok (b ∷ rest))) (sym is)

-- an entry with a fault is the end of the reading
pub with_front-fault : {A : Type 0} (read : Json → Result A Fault) (done : List A) (t : Json) (ts : List Json) (fault : Fault) → read t ≡ Err fault
    → with_front done (each read (t ∷ ts)) ≡ Err fault
with_front-fault read done t ts fault is = ap (λ r. with_front done (r >>= λ b. each read ts >>= λ rest. Ok (b ∷ rest))) is
