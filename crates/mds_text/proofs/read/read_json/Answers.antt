use Rattle.std.proofs.Common.{◌≡◌, ℕ, List, Bool, true, false, None, Err, IsUtf8, cond, refl, ap}
use Rattle.std.specs.Str.{is_utf8}
use Rattle.std.proofs.lemmas.Bool.{false≢true}
use Rattle.std.proofs.lemmas.Str.{is_utf8-from_IsUtf8, IsUtf8-from_is_utf8}
use Rattle.mds_text.specs.Fault.{bad_json}
use Rattle.mds_text.specs.Reading.{json_of_read}
use Rattle.mds_text.proofs.read.read_json.Goals as goal
use Rattle.serde_json.specs.Read.{read}

refused_at : (b : Bool) (bytes : List ℕ) → is_utf8 bytes ≡ b → (IsUtf8 bytes → read bytes ≡ None) → cond b (json_of_read (read bytes)) (Err bad_json) ≡ Err bad_json
refused_at true bytes is none = ap json_of_read (none (IsUtf8-from_is_utf8 bytes is))
refused_at false bytes is none = refl

pub returns-in-Ok : goal.returns-in-Ok
returns-in-Ok c =
    let text = is_utf8-from_IsUtf8 c.args.bytes.now c.in-Ok.ensures.ok.0 in
    let found = c.in-Ok.ensures.ok.1 in
    rw (text, found) c.tree_from.ensures

pub returns-else-is_memory : goal.returns-else-is_memory
returns-else-is_memory c =
    refused_at (is_utf8 c.args.bytes.now) c.args.bytes.now refl (c.in-Err.ensures.err (λ m. absurd (false≢true (c.if-is_memory.ensures.1 m))))
