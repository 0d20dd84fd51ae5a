-- The definition's values of the program's `PublicDocument` and `PublicDocuments`.
use Rattle.std.specs.Prelude.{map}
use Rattle.server_public.specs.Documents.{Face, Notice}
use Rattle.server_public.specs.declared.public_document.PublicDocument as program
use Rattle.server_public.specs.declared.public_documents.PublicDocuments as program'

abbrev pub notice : program.PublicDocument → Notice
notice n = record { id = n.id; start = n.start; end = n.end; text = n.text.items }

abbrev pub face : program'.PublicDocuments → Face
face f = record { policies = map notice f.policies.items; geographies = map notice f.geographies.items; updated = f.updated }
