-- The identifier is read from its own text, and is that of the namespace and the name.
use Rattle.std.proofs.Common.{Some, ◌++◌, take, sym, ap, ◌∙◌}
use Rattle.sha1.specs.Sha1.{sha1}
use Rattle.uuid.specs.Parts.{with_version, with_variant}
use Rattle.uuid.specs.declared.Variant.TheVariants.{RFC4122}
use Rattle.uuid.specs.declared.Version.TheVariants.{Sha1}
use Rattle.cli_documents.specs.Documents.{namespace, id_of_name}
use Rattle.cli_documents.proofs.features.id_of_name.Goals as goal

pub returns : goal.returns
unfolding id_of_name
returns c =
    c.read.ensures
    ∙ (sym c.encode_lower.ensures.parsed
    ∙ ap Some (c.hyphenated.ensures
    ∙ (c.new_v5-id.ensures.value
    ∙ ap (λ bytes. with_version (with_variant (take 16 (sha1 bytes)) RFC4122) Sha1)
    (ap (λ space. space ++ c.as_bytes.result.now) c.namespace.ensures ∙ ap (λ name. namespace ++ name) c.as_bytes.ensures.value))))
