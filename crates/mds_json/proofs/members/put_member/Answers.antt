use Rattle.std.proofs.Common.{rules, ◌≡◌, insert, map, sym, ap, ◌∙◌}
use Rattle.mds_text.specs.Tree.{members_of}
use Rattle.mds_json.specs.Node.{node_view, node_member_view}
use Rattle.mds_json.specs.declared.node.NodeMember.{NodeMember}
use Rattle.mds_json.specs.Direct.{put}
use Rattle.mds_json.proofs.Placing.{inserted}
use Rattle.mds_json.proofs.members.put_member.Goals as goal

pub returns-in_ok-insert-in-Some : goal.returns-in_ok-insert-in-Some
returns-in_ok-insert-in-Some c =
    let ms = c.args.members.now.items in
    let at = c.in-Some.place in
    let m : NodeMember = record { name = c.args.name; value = c.args.value } in
    let grown : c.insert.new.self.items ≡ insert ms at m = c.in_ok-insert-in-Some.ensures.items in
    let lent : c.deref.result.now ≡ ms = search rules in
    let placed = ap (λ xs. put c.args.name.now (node_view c.args.value) (members_of (map node_member_view xs))) (sym lent) ∙ c.in-Some.ensures.value (node_view c.args.value) ∙ ap (λ xs. members_of (insert (map node_member_view xs) at (c.args.name.now, node_view c.args.value))) lent in
    ap (λ xs. members_of (map node_member_view xs)) grown ∙ ap members_of (inserted ms at m) ∙ sym placed
