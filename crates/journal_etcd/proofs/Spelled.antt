-- A value that is read is the one that was written.
use Rattle.std.proofs.Common.{◌≡◌, ℕ, ◌^◌, ◌<◌, List, [], ◌++◌, Result, Ok, refl, sym, ap, ◌∙◌, append_assoc, arith}
use Rattle.std.proofs.lemmas.List.{append-nil}
use Rattle.std.proofs.lemmas.Slice.Eq.{bytes_eq-Decides}
use Rattle.journal_file.specs.declared.log_end.LogEnd.{LogEnd}
use Rattle.journal_register.specs.declared.owner.Owner.{Owner}
use Rattle.journal_register.specs.declared.head.Generation.{Generation}
use Rattle.journal_register.specs.declared.head.Extent.{Extent}
use Rattle.journal_register.specs.declared.head.Switch.{Switch}
use Rattle.journal_register.specs.declared.head.Head.{Head}
use Rattle.journal_etcd.specs.declared.values.TheConstants.{VERSION}
use Rattle.journal_etcd.specs.Values.{number_text, end_text, generation_text, extent_text, switch_text, owner_value, head_value, FitsEnd, FitsGeneration, FitsExtent, FitsSwitch, FitsOwner, FitsHead}
use Rattle.journal_etcd.specs.Reading.{◌>>=◌, end_at, generation_at, extent_at, switch_at, owner_at, head_at, owner_of, head_of}
use Rattle.journal_etcd.proofs.Numerals.{number_again}

end_again : (end : LogEnd) (rest : List ℕ) → FitsEnd end → end_at (end_text end ++ rest) ≡ Ok (end, rest)
unfolding end_at end_text
end_again end rest fits =
    let regrouped : (number_text end.position ++ number_text end.sum ++ number_text end.count) ++ rest ≡ number_text end.position ++ (number_text end.sum ++ (number_text end.count ++ rest)) = simp append_assoc in
    ap end_at regrouped
    ∙ rw (number_again end.position (number_text end.sum ++ (number_text end.count ++ rest)) fits.position, number_again end.sum (number_text end.count ++ rest) fits.sum, number_again end.count rest fits.count) refl

generation_again : (generation : Generation) (rest : List ℕ) → FitsGeneration generation → generation_at (generation_text generation ++ rest) ≡ Ok (generation, rest)
unfolding generation_at generation_text
generation_again generation rest fits =
    ap generation_at (append_assoc (number_text generation.epoch) (number_text generation.attempt) rest)
    ∙ rw (number_again generation.epoch (number_text generation.attempt ++ rest) fits.epoch, number_again generation.attempt rest fits.attempt) refl

extent_again : (extent : Extent) (rest : List ℕ) → FitsExtent extent → extent_at (extent_text extent ++ rest) ≡ Ok (extent, rest)
unfolding extent_at extent_text
extent_again extent rest fits =
    let regrouped : (generation_text extent.generation ++ number_text extent.chunks ++ end_text extent.end) ++ rest ≡ generation_text extent.generation ++ (number_text extent.chunks ++ (end_text extent.end ++ rest)) = simp append_assoc in
    ap extent_at regrouped
    ∙ rw (generation_again extent.generation (number_text extent.chunks ++ (end_text extent.end ++ rest)) fits.generation, number_again extent.chunks (end_text extent.end ++ rest) fits.chunks, end_again extent.end rest fits.end) refl

switch_again : (switch : Switch) (rest : List ℕ) → FitsSwitch switch → switch_at (switch_text switch ++ rest) ≡ Ok (switch, rest)
unfolding switch_at switch_text
switch_again switch rest fits =
    let regrouped : (extent_text switch.from ++ number_text switch.chunks ++ end_text switch.end) ++ rest ≡ extent_text switch.from ++ (number_text switch.chunks ++ (end_text switch.end ++ rest)) = simp append_assoc in
    ap switch_at regrouped
    ∙ rw (extent_again switch.from (number_text switch.chunks ++ (end_text switch.end ++ rest)) fits.from, number_again switch.chunks (end_text switch.end ++ rest) fits.chunks, end_again switch.end rest fits.end) refl

version_fits : VERSION < 2 ^ 64
version_fits = omega arith

owner_read : (owner : Owner) → FitsOwner owner → owner_at (owner_value owner) ≡ Ok owner
unfolding owner_at owner_value
owner_read owner fits =
    let ended : number_text VERSION ++ number_text owner.epoch ++ number_text owner.nonce ≡ number_text VERSION ++ (number_text owner.epoch ++ (number_text owner.nonce ++ [])) =
    append_assoc (number_text VERSION) (number_text owner.epoch) (number_text owner.nonce)
    ∙ ap (λ (xs : List ℕ). number_text VERSION ++ (number_text owner.epoch ++ xs)) (sym (append-nil (number_text owner.nonce))) in
    ap owner_at ended
    ∙ rw (number_again VERSION (number_text owner.epoch ++ (number_text owner.nonce ++ [])) version_fits, number_again owner.epoch (number_text owner.nonce ++ []) fits.epoch, number_again owner.nonce [] fits.nonce) refl

head_read : (head : Head) → FitsHead head → head_at (head_value head) ≡ Ok head
unfolding head_at head_value
head_read head fits =
    let ended : number_text VERSION ++ extent_text head.extent ++ number_text head.beat ++ switch_text head.switch ≡ number_text VERSION ++ (extent_text head.extent ++ (number_text head.beat ++ (switch_text head.switch ++ []))) =
    append_assoc (number_text VERSION ++ extent_text head.extent) (number_text head.beat) (switch_text head.switch)
    ∙ (append_assoc (number_text VERSION) (extent_text head.extent) (number_text head.beat ++ switch_text head.switch)
    ∙ ap (λ (xs : List ℕ). number_text VERSION ++ (extent_text head.extent ++ (number_text head.beat ++ xs))) (sym (append-nil (switch_text head.switch)))) in
    ap head_at ended
    ∙ rw (number_again VERSION (extent_text head.extent ++ (number_text head.beat ++ (switch_text head.switch ++ []))) version_fits, extent_again head.extent (number_text head.beat ++ (switch_text head.switch ++ [])) fits.extent, number_again head.beat (switch_text head.switch ++ []) fits.beat, switch_again head.switch [] fits.switch) refl

-- an owner's value is read as that owner
pub owner_again : (owner : Owner) → FitsOwner owner → owner_of (owner_value owner) ≡ Ok owner
unfolding owner_of
owner_again owner fits = rw (owner_read owner fits, (bytes_eq-Decides (owner_value owner) (owner_value owner)).1 refl) refl

-- a head's as that head
pub head_again : (head : Head) → FitsHead head → head_of (head_value head) ≡ Ok head
unfolding head_of
head_again head fits = rw (head_read head fits, (bytes_eq-Decides (head_value head) (head_value head)).1 refl) refl
