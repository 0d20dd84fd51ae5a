use Rattle.std.proofs.Common.{◌≡◌, List, Ok, codes, map, ap, sym, ◌∙◌}
use Rattle.mds_text.specs.Fields.{find_member}
use Rattle.mds_text.specs.Tree.{members_of}
use Rattle.mds_json.specs.Node.{node_member_view, node_view}
use Rattle.mds_json.proofs.Nodes.{node-Object}
use Rattle.mds_json.specs.declared.node.NodeMember.{NodeMember}
use Rattle.server_app.specs.Oversight.{as_oversight, oversight_at}
use Rattle.server_app.proofs.oversight.oversight_at.Goals as goal

pub returns-in-Object : goal.returns-in-Object
returns-in-Object c =
    ap oversight_at (ap node_view c.in-Object.is ∙ node-Object c.in-Object.members)
    ∙ ap (λ (members : List NodeMember). Ok (as_oversight (find_member (codes "oversight") (members_of (map node_member_view members))))) (sym c.deref.ensures.value)
    ∙ ap Ok (sym c.oversight_in.ensures)
