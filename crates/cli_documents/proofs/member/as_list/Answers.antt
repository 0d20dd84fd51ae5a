use Rattle.std.proofs.Common.{map, Some, sym, ap, ◌∙◌}
use Rattle.mds_text.specs.View.{view}
use Rattle.mds_text.proofs.Views.{view-List, entries-items_of}
use Rattle.cli_documents.specs.Members.{as_list}
use Rattle.cli_documents.proofs.member.as_list.Goals as goal

pub returns-in-List : goal.returns-in-List
returns-in-List c =
    ap (λ ts. Some (map view ts)) c.deref.ensures.value
    ∙ sym (ap as_list (ap view c.in-List.is ∙ view-List c.in-List.entries) ∙ ap Some (entries-items_of (map view c.in-List.entries.items)))
